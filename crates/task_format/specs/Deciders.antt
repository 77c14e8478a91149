-- Each question about a value has a yes or a no. All of it computes, so that examples can be worked out.
use Rattle.std.specs.Prelude.{◌≡◌, refl, Bool, true, false, List, [], ◌∷◌, ◌⊎◌, ℕ, suc, ◌+◌, ◌≤◌, eqb, leb, length, get_or}
use Rattle.std.proofs.Common.{inl, inr, ⊎_elim, arith, eqb-true, leb-true, leb-false}
use Rattle.std.proofs.Math.Logic.Dec
use Rattle.std.proofs.lemmas.Bool.{eqb-false}
use Rattle.strips.specs.Decision.{dec_when}
use Rattle.task_format.specs.Limits.{max_digits}
use Rattle.task_format.specs.Text.{comma, zero_digit, parts}
use Rattle.task_format.specs.Value.{All, IsDigit, Present, Short, NoLeadingZero, decimal, members, RisesFrom, Rises, Between}
use Rattle.task_format.specs.Value.{InForm, Filled, Unpadded, InRange, Ascending}
use Rattle.task_format.specs.declared.Kind.{Kind}
use Rattle.task_format.specs.declared.Kind.TheVariants.{Number, FactList}

unfoldable pub dec_same : (a b : ℕ) → Dec (a ≡ b)
dec_same a b = of (eqb a b) refl
  where
    of : (t : Bool) → eqb a b ≡ t → Dec (a ≡ b)
    of true e = yes (eqb-true a b e)
    of false e = no (eqb-false a b e)

unfoldable pub dec_at_most : (a b : ℕ) → Dec (a ≤ b)
dec_at_most a b = of (leb a b) refl
  where
    of : (t : Bool) → leb a b ≡ t → Dec (a ≤ b)
    of true e = yes (leb-true a b e)
    of false e = no (λ l. omega (arith, leb-false a b e))

unfoldable pub dec_true : (t : Bool) → Dec (t ≡ true)
dec_true true = yes refl
dec_true false = no (λ e. let z : ◌≡◌ {A = ℕ} 0 1 = cc in omega arith)

unfoldable pub dec_either : {P Q : Type 0} → Dec P → Dec Q → Dec (P ⊎ Q)
dec_either (yes p) d = yes (inl p)
dec_either (no n) (yes q) = yes (inr q)
dec_either (no n) (no m) = no (λ s. ⊎_elim n m s)

unfoldable pub dec_empty : (v : List ℕ) → Dec (v ≡ [])
dec_empty [] = yes refl
dec_empty (b ∷ v) = no (λ e. let z : ◌≡◌ {A = ℕ} 0 1 = cc in omega arith)

unfoldable pub dec_all : {A : Type 0} {P : A → Type 0} → ((x : A) → Dec (P x)) → (l : List A) → Dec (All P l)
dec_all d [] = yes tt
dec_all d (x ∷ l) = Dec.and (d x) (dec_all d l)

unfoldable pub dec_between : (low high n : ℕ) → Dec (Between low high n)
dec_between low high n = Dec.and (dec_at_most low n) (dec_at_most n high)

unfoldable pub dec_digit : (b : ℕ) → Dec (IsDigit b)
dec_digit b = dec_between zero_digit (zero_digit + 9) b

unfoldable pub dec_present : (v : List ℕ) → Dec (Present v)
dec_present v = dec_at_most 1 (length v)

unfoldable pub dec_short : (v : List ℕ) → Dec (Short v)
dec_short v = dec_at_most (length v) max_digits

unfoldable pub dec_no_leading_zero : (v : List ℕ) → Dec (NoLeadingZero v)
dec_no_leading_zero v = dec_when (dec_same (get_or v 0 0) zero_digit) (dec_same (length v) 1)

unfoldable pub dec_rises_from : (m : ℕ) (ms : List ℕ) → Dec (RisesFrom m ms)
dec_rises_from m [] = yes tt
dec_rises_from m (k ∷ ms) = Dec.and (dec_at_most (suc m) k) (dec_rises_from k ms)

unfoldable pub dec_rises : (ms : List ℕ) → Dec (Rises ms)
dec_rises [] = yes tt
dec_rises (m ∷ ms) = dec_rises_from m ms

unfoldable pub dec_in_form : (kind : Kind) (v : List ℕ) → Dec (InForm kind v)
unfolding InForm
dec_in_form (Number low high) v = Dec.and (Dec.and (dec_all {P = IsDigit} dec_digit v) (dec_short v)) (dec_present v)
dec_in_form (FactList most) v = Dec.and (dec_all (λ b. dec_either (dec_digit b) (dec_same b comma)) v) (dec_all {P = Short} dec_short (parts v))

unfoldable pub dec_filled : (kind : Kind) (v : List ℕ) → Dec (Filled kind v)
unfolding Filled
dec_filled (Number low high) v = yes tt
dec_filled (FactList most) v = dec_either (dec_empty v) (dec_all {P = Present} dec_present (parts v))

unfoldable pub dec_unpadded : (kind : Kind) (v : List ℕ) → Dec (Unpadded kind v)
unfolding Unpadded
dec_unpadded (Number low high) v = dec_no_leading_zero v
dec_unpadded (FactList most) v = dec_all {P = NoLeadingZero} dec_no_leading_zero (parts v)

unfoldable pub dec_in_range : (kind : Kind) (v : List ℕ) → Dec (InRange kind v)
unfolding InRange
dec_in_range (Number low high) v = dec_between low high (decimal v)
dec_in_range (FactList most) v = dec_all (dec_between 1 most) (members v)

unfoldable pub dec_ascending : (kind : Kind) (v : List ℕ) → Dec (Ascending kind v)
unfolding Ascending
dec_ascending (Number low high) v = yes tt
dec_ascending (FactList most) v = dec_rises (members v)
