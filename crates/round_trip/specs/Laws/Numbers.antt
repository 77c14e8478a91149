-- A number is the digits that say it, and digits say their number.
use Rattle.std.specs.Prelude.{◌≡◌, refl, List, [], ◌∷◌, ◌++◌, ℕ, suc, ◌+◌, ◌-◌, ◌*◌, ◌/◌, ◌%◌, ◌^◌, ◌≤◌, ◌<◌, eqb, length}
use Rattle.std.proofs.Common.{sym, ap, ◌∙◌, subst, append-nil, append_assoc, arith, pow-suc, add-zero, lt_of_lt_of_le, lit<, eqb-true}
use Rattle.std.proofs.Math.Nat.{pow-le-pow_right}
use Rattle.std.proofs.lemmas.Bool.{eqb-false}
use Rattle.task_format.specs.Limits.{max_digits}
use Rattle.task_format.specs.Text.{zero_digit}
use Rattle.task_format.specs.Value.{All, IsDigit, IsNumber, decimal_from, decimal}
use Rattle.task_format.specs.Render.{digits_of, digits}
use Rattle.strips.specs.Laws.Choice.{either}
use Rattle.task_format.specs.Laws.Value.{nil}
use Rattle.task_format.specs.Laws.Digits.{digits_short, digits_long, digits_some, digits_few}
use Rattle.task_format.specs.Laws.Decimal.{digits_are, fuel}

-- ---- the digits of a number are in form and say it

pub digits_number : (n : ℕ) → n < 10 ^ max_digits → IsNumber (digits n)
digits_number n h =
    let d = digits_are 4 n h in
    record {
      some = digits_some 4 n;
      few = digits_few 5 n;
      digits = d.all;
      plain = λ e. let z = d.lead e in ap length (digits_short 5 n (omega arith) (omega (arith, z)));
    }

pub digits_say : (n : ℕ) → n < 10 ^ max_digits → decimal (digits n) ≡ n
digits_say n h = (digits_are 4 n h).says

-- ---- and no other text does

-- digits behind those of n, which has no leading zero
behind_digits : (d n : ℕ) (v : List ℕ) → 1 ≤ n → n < 10 ^ suc d → All IsDigit v → digits_of (suc d + length v) (decimal_from n v) ≡ digits_of (suc d) n ++ v
unfolding decimal_from
behind_digits d n [] l h a = ap (λ (k : ℕ). digits_of k n) (add-zero (suc d)) ∙ sym (append-nil (digits_of (suc d) n))
behind_digits d n (b ∷ v) l h a =
    let m = n * 10 + (b - zero_digit) in
    let p = pow-suc 10 (suc d) in
    let r = behind_digits (suc d) m v (omega arith) (omega (arith, p, a.0.1)) a.1 in
    let e : suc d + suc (length v) ≡ suc (suc d) + length v = omega arith in
    let x : m / 10 ≡ n = omega (arith, a.0.1) in
    let y : zero_digit + m % 10 ≡ b = omega (arith, a.0.0, a.0.1) in
    let w : suc (suc d) - 1 ≡ suc d = omega arith in
    let z : digits_of (suc (suc d)) m ≡ digits_of (suc d) n ++ (b ∷ []) = digits_long (suc (suc d)) m (omega arith) (omega arith) ∙ rw (w, x, y) refl in
    ap (λ (k : ℕ). digits_of k (decimal_from m v)) e ∙ r ∙ ap (λ (u : List ℕ). u ++ v) z ∙ append_assoc (digits_of (suc d) n) (b ∷ []) v

decimal_small : (d n : ℕ) (v : List ℕ) → n < 10 ^ d → All IsDigit v → decimal_from n v < 10 ^ (d + length v)
unfolding decimal_from
decimal_small d n [] h a = subst (λ (k : ℕ). n < 10 ^ k) (sym (add-zero d)) h
decimal_small d n (b ∷ v) h a =
    let p = pow-suc 10 d in
    let e : suc d + length v ≡ d + suc (length v) = omega arith in
    subst (λ (k : ℕ). decimal_from (n * 10 + (b - zero_digit)) v < 10 ^ k) e (decimal_small (suc d) (n * 10 + (b - zero_digit)) v (omega (arith, p, a.0.1)) a.1)

pub number_small : (v : List ℕ) → IsNumber v → decimal v < 10 ^ max_digits
number_small v n =
    lt_of_lt_of_le (decimal_small 0 0 v (omega arith) n.digits) (pow-le-pow_right {n = 10} (lit< tt) {i = 0 + length v} {j = 5} (omega (arith, n.few)))

pub number_digits_lem : (v : List ℕ) → IsNumber v → v ≡ digits (decimal v)
unfolding decimal_from
number_digits_lem [] n = absurd (omega (arith, n.some))
number_digits_lem (b ∷ v) n =
    either (eqb b zero_digit)
    (λ q.
    let e = eqb-true b zero_digit q in
    let z : v ≡ [] = nil v (let f = n.plain e in omega (arith, f)) in
    rw (e, z) (sym (digits_short 5 0 (omega arith) (omega arith))))
    (λ q.
    let m = 0 * 10 + (b - zero_digit) in
    let f = eqb-false b zero_digit q in
    let g : 1 ≤ m = omega (arith, f, n.digits.0.0) in
    let h : m < 10 = omega (arith, n.digits.0.1) in
    let s : b ∷ [] ≡ digits_of 1 m = sym (digits_short 1 m (omega arith) h ∙ ap (λ (x : ℕ). x ∷ []) (omega (arith, n.digits.0.0))) in
    let r = behind_digits 0 m v g h n.digits.1 in
    let c : 1 + length v ≡ suc (length v) = omega arith in
    let k = decimal_small 1 m v h n.digits.1 in
    ap (λ (u : List ℕ). u ++ v) s ∙ sym r ∙ ap (λ (j : ℕ). digits_of j (decimal_from m v)) c
    ∙ fuel (length v) 4 (decimal_from m v) (subst (λ (j : ℕ). decimal_from m v < 10 ^ j) c k) (number_small (b ∷ v) n))
