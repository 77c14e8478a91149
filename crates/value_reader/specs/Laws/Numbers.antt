-- A number, read digit by digit.
use Rattle.std.specs.Prelude.{◌≡◌, List, ℕ, ◌+◌, ◌-◌, ◌*◌, ◌^◌, ◌≤◌, ◌<◌, length, get_or, drop}
use Rattle.std.proofs.Common.{rules, arith}
use Rattle.std.proofs.lemmas.Grind.{common_steps}
use Rattle.task_format.specs.Limits.{max_digits}
use Rattle.task_format.specs.Text.{zero_digit}
use Rattle.task_format.specs.Value.{All, IsDigit, decimal_from, decimal}

-- the first i bytes of v are digits, which say n
pub record Digits (v : List ℕ) (i n : ℕ) : Type 0 where
  pub left : All IsDigit v → All IsDigit (drop i v)
  pub whole : All IsDigit (drop i v) → All IsDigit v
  pub says : decimal_from n (drop i v) ≡ decimal v
  pub small : n < 10 ^ i

module _ {v : List ℕ} {i n : ℕ} (s : Digits v i n) where
  -- a number of at most four digits is below 10,000
  pub below : i < max_digits → n < 10000
  below h = search (rules, arith)

  pub digits_more : i < length v → IsDigit (get_or v i 0) → Digits v (i + 1) (n * 10 + (get_or v i 0 - zero_digit))
  unfolding decimal_from
  digits_more h d = grind (arith, common_steps)

  pub digits_all : length v ≤ i → All IsDigit v × (n ≡ decimal v)
  unfolding decimal_from
  digits_all h = grind (arith, common_steps)
