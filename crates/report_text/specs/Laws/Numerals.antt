-- The decimal digits of a number: that they say it, how many there are, and the last of them.
use Rattle.std.specs.Prelude.{◌≡◌, [], ◌∷◌, ◌++◌, ℕ, zero, suc, ◌+◌, ◌-◌, ◌*◌, ◌/◌, ◌%◌, ◌^◌, ◌≤◌, ◌<◌, length}
use Rattle.std.proofs.Common.{sym, ap, ◌∙◌, arith, leb, pow-suc, length-append}
use Rattle.std.proofs.Math.Decide.{dec_le}
use Rattle.std.specs.Int.{from_bool}
use Rattle.std.proofs.lemmas.Bool.Decides.{nat_tests}
use Rattle.outcome.specs.Limits.{max_number}
use Rattle.task_format.specs.Text.{zero_digit}
use Rattle.task_format.specs.Value.{All, IsDigit, decimal}
use Rattle.task_format.specs.Render.{digits_of}
use Rattle.task_format.specs.Laws.Digits.{digits_short, digits_long, shorter, digits_some, digits_few}
use Rattle.task_format.specs.Laws.Decimal.{digits_are, fuel}
use Rattle.text_output.specs.Puts.{number_digits}
use Rattle.report_text.specs.Report.{numeral}

below : (n : ℕ) → n < 10 ^ suc n
below zero = omega arith
below (suc n) = omega (arith, pow-suc 10 (suc n), below n)

pub numeral_is : (k n : ℕ) → 1 ≤ k → n < 10 ^ k → digits_of k n ≡ numeral n
unfolding numeral
numeral_is zero n l h = absurd (omega arith)
numeral_is (suc k) n l h = fuel k n n h (below n)

pub numeral_digits : (n : ℕ) → All IsDigit (numeral n)
unfolding numeral
numeral_digits n = (digits_are n n (below n)).all

numeral_says : (n : ℕ) → decimal (numeral n) ≡ n
unfolding numeral
numeral_says n = (digits_are n n (below n)).says

pub numeral_injective : (m n : ℕ) → numeral m ≡ numeral n → m ≡ n
numeral_injective m n e = sym (numeral_says m) ∙ ap decimal e ∙ numeral_says n

pub numeral_some : (n : ℕ) → 0 < length (numeral n)
unfolding numeral
numeral_some n = digits_some n n

pub numeral_few : (k n : ℕ) → 1 ≤ k → n < 10 ^ k → length (numeral n) ≤ k
numeral_few k n l h = rw (← numeral_is k n l h) (digits_few k n)

-- of a 32-bit number
pub number_below : (n : ℕ) → n ≤ max_number → n < 10 ^ number_digits
number_below n h = omega arith

pub number_is : (n : ℕ) → n ≤ max_number → digits_of number_digits n ≡ numeral n
number_is n h = numeral_is number_digits n (omega arith) (number_below n h)

pub number_few : (n : ℕ) → n ≤ max_number → length (numeral n) ≤ number_digits
number_few n h = numeral_few number_digits n (omega arith) (number_below n h)

pub numeral_short : (n : ℕ) → n < 10 → numeral n ≡ (zero_digit + n) ∷ []
unfolding numeral
numeral_short n h = digits_short (suc n) n (omega arith) h

pub numeral_long : (n : ℕ) → 10 ≤ n → numeral n ≡ numeral (n / 10) ++ ((zero_digit + n % 10) ∷ [])
unfolding numeral
numeral_long n h =
    let e : suc n - 1 ≡ n = omega arith in
    let less : n / 10 < 10 ^ n = rw e at (shorter (suc n) n h (below n)).below in
    digits_long (suc n) n (omega arith) h ∙ rw (e, numeral_is n (n / 10) (omega arith) less)

-- as many as the powers of ten between which it lies say
pub numeral_many : (k n : ℕ) → 10 ^ k ≤ n → n < 10 * 10 ^ k → length (numeral n) ≡ k + 1
numeral_many zero n l h = ap length (numeral_short n h)
numeral_many (suc k) n l h =
    let p = pow-suc 10 k in
    let long : 10 ≤ n = omega (arith, p) in
    let rest = numeral_many k (n / 10) (omega (arith, p)) (omega (arith, p)) in
    ap length (numeral_long n long) ∙ length-append (numeral (n / 10)) _ ∙ omega (arith, rest)

-- of a byte, as many as the comparisons with the powers of ten say
pub byte_many : (n : ℕ) {a b : ℕ} → n < 256 → a ≡ from_bool (leb 10 n) → b ≡ from_bool (leb 100 n) → 1 + a + b ≡ length (numeral n)
byte_many n {a} {b} few ten hundred = at (dec_le 10 n) (dec_le 100 n)
  where
    at : Dec (10 ≤ n) → Dec (100 ≤ n) → 1 + a + b ≡ length (numeral n)
    at (no d) e =
        let one : a + b ≡ 0 = grind (arith, nat_tests) in
        omega (arith, one, ap length (numeral_short n (omega (arith, d))))
    at (yes d) (no e) =
        let two : a + b ≡ 1 = grind (arith, nat_tests) in
        omega (arith, two, numeral_many 1 n (omega (arith, d)) (omega (arith, e)))
    at (yes d) (yes e) =
        let three : a + b ≡ 2 = grind (arith, nat_tests) in
        omega (arith, three, numeral_many 2 n (omega (arith, e)) (omega (arith, few)))
