-- Small facts about values that the reader's proofs and the theorems share.
use Rattle.std.specs.Prelude.{◌≡◌, refl, List, [], ◌∷◌, map, ℕ, suc, ◌+◌, ◌-◌, ◌^◌, ◌≤◌, length}
use Rattle.std.proofs.Common.{ap, ◌∙◌, arith, pow-suc}
use Rattle.task_format.specs.Text.{parts}
use Rattle.task_format.specs.Value.{decimal, members}

-- a list of no bytes
pub nil : (v : List ℕ) → length v ≡ 0 → v ≡ []
nil [] e = refl
nil (b ∷ v) e = absurd (omega arith)

-- the members of a list that is not empty
pub members_some : (v : List ℕ) → (v ≡ [] → ⊥) → members v ≡ map decimal (parts v)
unfolding members
members_some [] n = absurd (n refl)
members_some (b ∷ v) n = refl

pub doubled : (n : ℕ) → 1 ≤ n → 2 ^ n ≡ 2 ^ (n - 1) + 2 ^ (n - 1)
doubled n l = let e : n ≡ suc (n - 1) = omega arith in ap (λ (k : ℕ). 2 ^ k) e ∙ pow-suc 2 (n - 1) ∙ omega arith
