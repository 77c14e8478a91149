-- Question 8, slice by slice.
use Rattle.std.specs.Prelude.{◌≡◌, refl, ℕ, ◌≤◌, ◌<◌, min, All}
use Rattle.std.proofs.Common.{⊎_elim, arith}
use Rattle.std.proofs.lemmas.List.Elements.{All-nil, All-cons, All-head, All-tail}
use Rattle.std.proofs.Math.Logic.Dec
use mathlib.Core.List.Memᴰ
use mathlib.Core.List.{List, [], ◌∷◌, Memᴰ}
use Rattle.std.proofs.Math.Decide.{dec_le}
use Rattle.strips.specs.Laws.Decision.{asked_either}
use Rattle.search.specs.Limits.{max_places}
use Rattle.questions.specs.Size.{SizesAllowed, shortest, capacity}

-- each size, by its place
abbrev pub Allowed : ℕ → Type 0
Allowed n = (1 ≤ n) × (n ≤ max_places)

pub all_sizes : (sizes : List ℕ) → SizesAllowed sizes → All Allowed sizes
all_sizes [] each = All-nil Allowed
all_sizes (n ∷ sizes) each = All-cons Allowed n sizes (each n (Memᴰ.head refl)) (all_sizes sizes (λ k m. each k (Memᴰ.tail m)))

pub sizes_all : (sizes : List ℕ) → All Allowed sizes → SizesAllowed sizes
sizes_all [] all k m = absurd (Memᴰ.not-nil m)
sizes_all (n ∷ sizes) all k m =
    ⊎_elim (λ (e : k ≡ n). rw e (All-head Allowed n sizes all)) (sizes_all sizes (All-tail Allowed n sizes all) k) (Memᴰ.cases_cons m)

-- what the number says
data Said (sizes : List ℕ) (n : ℕ) : Type 0 where
  allowed : SizesAllowed sizes → n ≡ shortest sizes → 1 ≤ n → Said sizes n
  not_allowed : (SizesAllowed sizes → ⊥) → n ≡ 0 → Said sizes n

said : (sizes : List ℕ) → Said sizes (capacity sizes)
unfolding capacity shortest
said [] = allowed (λ n m. absurd (Memᴰ.not-nil m)) refl (omega arith)
said (n ∷ sizes) =
    asked_either (Said (n ∷ sizes)) (Dec.and (dec_le 1 n) (dec_le n max_places))
    (λ out. not_allowed (λ l. out (l n (Memᴰ.head refl))) refl) (λ h. both h (said sizes))
  where
    both : (1 ≤ n) × (n ≤ max_places) → {k : ℕ} → Said sizes k → Said (n ∷ sizes) (min n k)
    both h (allowed each f g) = allowed (λ x w. ⊎_elim (λ (q : x ≡ n). rw q h) (λ (q : Memᴰ x sizes). each x q) (Memᴰ.cases_cons w)) (omega arith) (omega arith)
    both h (not_allowed out f) = not_allowed (λ w. out (λ x q. w x (Memᴰ.tail q))) (omega arith)

module _ (sizes : List ℕ) {n : ℕ} (e : n ≡ capacity sizes) where
  pub capacity_none : n < 1 → SizesAllowed sizes → ⊥
  capacity_none h = of (said sizes)
    where
      of : Said sizes (capacity sizes) → SizesAllowed sizes → ⊥
      of (allowed each f g) = absurd (omega arith)
      of (not_allowed out f) = out

  pub capacity_some : 1 ≤ n → SizesAllowed sizes × (n ≡ shortest sizes)
  capacity_some h = of (said sizes)
    where
      of : Said sizes (capacity sizes) → SizesAllowed sizes × (n ≡ shortest sizes)
      of (allowed each f g) = (each, omega arith)
      of (not_allowed out f) = absurd (omega arith)

-- every slice has as many places as the shortest
pub shortest_least : (sizes : List ℕ) (n : ℕ) → Memᴰ n sizes → shortest sizes ≤ n
unfolding shortest
shortest_least [] n m = absurd (Memᴰ.not-nil m)
shortest_least (k ∷ sizes) n m = ⊎_elim (λ (q : n ≡ k). omega arith) (λ (q : Memᴰ n sizes). omega (arith, shortest_least sizes n q)) (Memᴰ.cases_cons m)

pub shortest_small : (sizes : List ℕ) → shortest sizes ≤ max_places
unfolding shortest
shortest_small [] = omega arith
shortest_small (k ∷ sizes) = omega (arith, shortest_small sizes)
