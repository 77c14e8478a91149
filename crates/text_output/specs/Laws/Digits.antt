-- The digits of a 32-bit number, whatever the count that is allowed.
use Rattle.std.specs.Prelude.{◌≡◌, [], ◌∷◌, ◌++◌, ℕ, zero, suc, ◌+◌, ◌/◌, ◌%◌, ◌^◌, ◌≤◌, ◌<◌, length}
use Rattle.std.proofs.Common.{ap, ◌∙◌, arith, length-append}
use Rattle.task_format.specs.Text.{zero_digit}
use Rattle.task_format.specs.Render.{digits_of}
use Rattle.task_format.specs.Laws.Digits.{digits_short, digits_long}
use Rattle.task_format.specs.Laws.Decimal.{fuel}
use Rattle.text_output.specs.Puts.{number_digits}

-- a count that the number does not exceed
pub digits_same : (k n : ℕ) → 1 ≤ k → n < 10 ^ k → n < 10 ^ number_digits → digits_of number_digits n ≡ digits_of k n
digits_same zero n l h m = absurd (omega arith)
digits_same (suc k) n l h m = fuel 9 k n m h

pub number_short : (n : ℕ) → n < 10 → digits_of number_digits n ≡ (zero_digit + n) ∷ []
number_short n h = digits_short number_digits n (omega arith) h

pub number_long : (n : ℕ) → 10 ≤ n → n < 10 ^ number_digits → digits_of number_digits n ≡ digits_of number_digits (n / 10) ++ ((zero_digit + n % 10) ∷ [])
number_long n h m =
    digits_long number_digits n (omega arith) h
    ∙ ap (λ ds. ds ++ ((zero_digit + n % 10) ∷ [])) (fuel 8 9 (n / 10) (omega arith) (omega arith))

pub long_length : (n : ℕ) → 10 ≤ n → n < 10 ^ number_digits → length (digits_of number_digits n) ≡ length (digits_of number_digits (n / 10)) + 1
long_length n h m = ap length (number_long n h m) ∙ length-append (digits_of number_digits (n / 10)) ((zero_digit + n % 10) ∷ [])
