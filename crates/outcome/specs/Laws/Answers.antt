-- The order of answers, and what its test tells.
use Rattle.std.specs.Prelude.{◌≡◌, refl, ◌⊎◌, true, false, ℕ, ◌≤◌, ◌<◌}
use Rattle.std.proofs.Common.{ap, inl, inr, arith, leb-true, leb-false}
use Rattle.std.proofs.Math.Decide.{dec_lt}
use Rattle.outcome.specs.Answer.{Value, minutes, none, UpTo, number_up_to, up_to_none, Below, number_below, below_none, up_to}

pub up_to_refl : (x : Value) → UpTo x x
up_to_refl (minutes a) = let h : a ≤ a = omega arith in number_up_to h
up_to_refl none = up_to_none

pub up_to_trans : {x y z : Value} → UpTo x y → UpTo y z → UpTo x z
up_to_trans (number_up_to {a = a} h) (number_up_to {b = b} k) = let l : a ≤ b = omega arith in number_up_to l
up_to_trans (number_up_to h) up_to_none = up_to_none
up_to_trans up_to_none up_to_none = up_to_none

pub up_to_antisym : {x y : Value} → UpTo x y → UpTo y x → x ≡ y
up_to_antisym h k = grind arith

pub below_up_to : {x y : Value} → Below x y → UpTo x y
below_up_to (number_below {a = a} {b = b} h) = let l : a ≤ b = omega arith in number_up_to l
below_up_to below_none = up_to_none

-- none is below nothing
pub none_below : {y : Value} → Below none y → ⊥
none_below h = grind arith

pub number_less : {a b : ℕ} → Below (minutes a) (minutes b) → a < b
number_less h = grind arith

pub below_trans : {x y z : Value} → Below x y → Below y z → Below x z
below_trans (number_below {a = a} h) (number_below {b = b} k) = let l : a < b = omega arith in number_below l
below_trans (number_below h) below_none = below_none
below_trans below_none k = absurd (none_below k)

pub below_up_to_trans : {x y z : Value} → Below x y → UpTo y z → Below x z
below_up_to_trans (number_below {a = a} h) (number_up_to {b = b} k) = let l : a < b = omega arith in number_below l
below_up_to_trans (number_below h) up_to_none = below_none
below_up_to_trans below_none up_to_none = below_none

-- strictly below is not at least
pub below_not : {x y : Value} → Below x y → UpTo y x → ⊥
below_not (number_below h) (number_up_to k) = omega arith
below_not below_none h = of h refl
  where
    of : {x : Value} {a : ℕ} → UpTo none x → x ≡ minutes a → ⊥
    of up_to_none e = let z : ◌≡◌ {A = ℕ} 0 1 = cc in omega arith

pub below_irrefl : {x : Value} → Below x x → ⊥
below_irrefl {x} h = below_not h (up_to_refl x)

-- one of three
pub values_total : (x y : Value) → Below x y ⊎ (x ≡ y) ⊎ Below y x
values_total (minutes a) (minutes b) = of (dec_lt a b) (dec_lt b a)
  where
    of : Dec (a < b) → Dec (b < a) → Below (minutes a) (minutes b) ⊎ (minutes a ≡ minutes b) ⊎ Below (minutes b) (minutes a)
    of (yes h) k = inl (number_below h)
    of (no h) (yes k) = inr (inr (number_below k))
    of (no h) (no k) = inr (inl (ap minutes (omega arith)))
values_total (minutes a) none = inl below_none
values_total none (minutes b) = inr (inr below_none)
values_total none none = inr (inl refl)

pub up_to_is : (x y : Value) → up_to x y ≡ true → UpTo x y
unfolding up_to
up_to_is x none e = up_to_none
up_to_is none (minutes b) e = absurd (let z : ◌≡◌ {A = ℕ} 0 1 = cc in omega arith)
up_to_is (minutes a) (minutes b) e = number_up_to (leb-true a b e)

pub not_up_to : (x y : Value) → up_to x y ≡ false → Below y x
unfolding up_to
not_up_to x none e = absurd (let z : ◌≡◌ {A = ℕ} 0 1 = cc in omega arith)
not_up_to none (minutes b) e = below_none
not_up_to (minutes a) (minutes b) e = number_below (leb-false a b e)
