-- By the cases of a test.
use Rattle.std.specs.Prelude.{◌≡◌, refl, Bool, true, false, ℕ}
use Rattle.std.proofs.Common.{arith}
use Rattle.strips.specs.Choice.{pick}

-- of a choice holds what holds in each case, with what the test then says
pub by_test : {A : Type 0} (P : A → Type 0) (t : Bool) (a b : A) → (t ≡ true → P a) → (t ≡ false → P b) → P (pick t a b)
by_test P true a b f g = f refl
by_test P false a b f g = g refl

pub either : {P : Type 0} (t : Bool) → (t ≡ true → P) → (t ≡ false → P) → P
either true f g = f refl
either false f g = g refl

pub never : false ≡ true → ⊥
never e = let z : ◌≡◌ {A = ℕ} 0 1 = cc in omega arith

-- what is so at j is so at n, which is j
pub at : {A : Type 0} (f : ℕ → A) (j n : ℕ) {x : A} → n ≡ j → x ≡ f j → x ≡ f n
at f j n e h = rw e h
