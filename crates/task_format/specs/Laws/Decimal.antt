-- The digits of a number say it.
use Rattle.std.specs.Prelude.{◌≡◌, refl, List, [], ◌∷◌, ◌++◌, ℕ, zero, suc, ◌+◌, ◌-◌, ◌*◌, ◌/◌, ◌%◌, ◌^◌, ◌<◌, ◌≤◌, ltb, length, get_or}
use Rattle.std.proofs.Common.{sym, ap, ◌∙◌, subst, arith, pow-suc, ltb-true, ltb-false}
use Rattle.std.proofs.Math.ListN.{get_or-append}
use Rattle.strips.specs.Choice.{pick}
use Rattle.task_format.specs.Text.{zero_digit}
use Rattle.task_format.specs.Value.{All, IsDigit, decimal_from, decimal}
use Rattle.task_format.specs.Render.{digits_of}
use Rattle.strips.specs.Laws.Choice.{either}
use Rattle.task_format.specs.Laws.Digits.{digits_short, digits_long, shorter, digits_some}

-- without the byte c
abbrev pub Without : ℕ → List ℕ → Type 0
Without c v = All (λ b. b ≡ c → ⊥) v

pub digits_without : (c : ℕ) → c < zero_digit → (v : List ℕ) → All IsDigit v → Without c v
digits_without c h [] a = tt
digits_without c h (b ∷ v) a = ((λ e. omega (arith, e, a.0.0)), digits_without c h v a.1)

pub all_append : (P : ℕ → Type 0) (a b : List ℕ) → All P a → All P b → All P (a ++ b)
all_append P [] b p q = q
all_append P (x ∷ a) b p q = (p.0, all_append P a b p.1 q)

decimal_append : (n : ℕ) (a b : List ℕ) → decimal_from n (a ++ b) ≡ decimal_from (decimal_from n a) b
unfolding decimal_from
decimal_append n [] b = refl
decimal_append n (x ∷ a) b = decimal_append (n * 10 + (x - zero_digit)) a b

-- digits that say n, without a leading zero
pub record Digits (n : ℕ) (v : List ℕ) : Type 0 where
  pub all : All IsDigit v
  pub says : decimal v ≡ n
  pub lead : get_or v 0 0 ≡ zero_digit → n ≡ 0

one_digit : (k n : ℕ) → n < 10 → Digits n (digits_of (suc k) n)
unfolding decimal_from
one_digit k n l =
    rw (digits_short (suc k) n (omega arith) l)
    (record { all = ((omega arith, omega arith), tt); says = omega arith; lead = λ e. omega (arith, e) })

more_digits : (n : ℕ) (v : List ℕ) → 10 ≤ n → 0 < length v → Digits (n / 10) v → Digits n (v ++ ((zero_digit + n % 10) ∷ []))
unfolding decimal_from
more_digits n v l s d =
    record {
      all = all_append IsDigit v _ d.all ((omega arith, omega arith), tt);
      says = decimal_append 0 v _ ∙ omega (arith, d.says);
      lead = λ e. absurd (let z = d.lead (sym (get_or-append v _ 0 0 s) ∙ e) in omega (arith, z));
    }

pub digits_are : (k n : ℕ) → n < 10 ^ suc k → Digits n (digits_of (suc k) n)
digits_are zero n h = one_digit zero n h
digits_are (suc k) n h =
    either (ltb n 10)
    (λ q. one_digit (suc k) n (ltb-true n 10 q))
    (λ q.
    let l = ltb-false n 10 q in
    let e : suc (suc k) - 1 ≡ suc k = omega arith in
    let b : n / 10 < 10 ^ suc k = subst (λ (j : ℕ). n / 10 < 10 ^ j) e (shorter (suc (suc k)) n l h).below in
    let r = digits_are k (n / 10) b in
    let z = digits_long (suc (suc k)) n (omega arith) l ∙ ap (λ (j : ℕ). digits_of j (n / 10) ++ ((zero_digit + n % 10) ∷ [])) e in
    rw z (more_digits n (digits_of (suc k) (n / 10)) l (digits_some k (n / 10)) r))

-- more room for digits changes nothing
pub fuel : (j k n : ℕ) → n < 10 ^ suc j → n < 10 ^ suc k → digits_of (suc j) n ≡ digits_of (suc k) n
unfolding digits_of
fuel zero k n a b = let l : n < 10 = a in sym (digits_short (suc k) n (omega arith) l ∙ sym (digits_short 1 n (omega arith) l))
fuel (suc j) zero n a b = let l : n < 10 = b in digits_short (suc (suc j)) n (omega arith) l ∙ sym (digits_short 1 n (omega arith) l)
fuel (suc j) (suc k) n a b =
    let p = pow-suc 10 (suc j) in
    let q = pow-suc 10 (suc k) in
    let r = fuel j k (n / 10) (omega (arith, p)) (omega (arith, q)) in
    ap (λ (d : List ℕ). pick (ltb n 10) ((zero_digit + n) ∷ []) (d ++ ((zero_digit + n % 10) ∷ []))) r
