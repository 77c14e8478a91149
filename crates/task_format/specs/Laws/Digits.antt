-- The digits of a number: how many there are, and the last of them.
use Rattle.std.specs.Prelude.{◌≡◌, List, [], ◌∷◌, ◌++◌, ℕ, zero, suc, ◌+◌, ◌-◌, ◌*◌, ◌/◌, ◌%◌, ◌^◌, ◌≤◌, ◌<◌, ltb, length}
use Rattle.std.proofs.Common.{ap, ◌∙◌, arith, pow-suc, length-append, lt-ltb, le-ltb, ltb-true, ltb-false}
use Rattle.task_format.specs.Text.{zero_digit}
use Rattle.task_format.specs.Render.{digits_of, digits}
use Rattle.strips.specs.Laws.Choice.{by_test, either}

pub digits_short : (k n : ℕ) → 1 ≤ k → n < 10 → digits_of k n ≡ (zero_digit + n) ∷ []
unfolding digits_of
digits_short zero n l h = absurd (omega arith)
digits_short (suc k) n l h = rw (lt-ltb n 10 h)

pub digits_long : (k n : ℕ) → 1 ≤ k → 10 ≤ n → digits_of k n ≡ digits_of (k - 1) (n / 10) ++ ((zero_digit + n % 10) ∷ [])
unfolding digits_of
digits_long zero n l h = absurd (omega arith)
digits_long (suc k) n l h = let e : suc k - 1 ≡ k = omega arith in rw (le-ltb n 10 h, e)

-- a number of two digits or more has one less without its last
pub record Shorter (k n : ℕ) : Type 0 where
  pub two : 2 ≤ k
  pub below : n / 10 < 10 ^ (k - 1)

pub shorter : (k n : ℕ) → 10 ≤ n → n < 10 ^ k → Shorter k n
shorter zero n l h = absurd (omega arith)
shorter (suc zero) n l h = absurd (omega arith)
shorter (suc (suc k)) n l h =
    let e : suc (suc k) - 1 ≡ suc k = omega arith in
    let p : 10 ^ suc (suc k) ≡ 10 ^ suc k * 10 = pow-suc 10 (suc k) in
    record { two = omega arith; below = rw e (omega arith) }

pub digits_some : (k n : ℕ) → 0 < length (digits_of (suc k) n)
unfolding digits_of
digits_some k n =
    by_test (λ (d : List ℕ). 0 < length d) (ltb n 10) _ _ (λ _. omega arith)
    (λ _. omega (arith, length-append (digits_of k (n / 10)) ((zero_digit + n % 10) ∷ [])))

pub digits_few : (k n : ℕ) → length (digits_of k n) ≤ k
unfolding digits_of
digits_few zero n = omega arith
digits_few (suc k) n =
    by_test (λ (d : List ℕ). length d ≤ suc k) (ltb n 10) _ _ (λ _. omega arith)
    (λ _. omega (arith, digits_few k (n / 10), length-append (digits_of k (n / 10)) ((zero_digit + n % 10) ∷ [])))

pub digits_one : (n : ℕ) → n < 10 → length (digits n) ≡ 1
digits_one n h = ap length (digits_short 5 n (omega arith) h)

pub digits_two : (n : ℕ) → n < 100 → length (digits n) ≤ 2
digits_two n h =
    either (ltb n 10)
    (λ q. omega (arith, digits_one n (ltb-true n 10 q)))
    (λ q. omega (
      arith,
      ap length (digits_long 5 n (omega arith) (ltb-false n 10 q)) ∙ length-append (digits_of 4 (n / 10)) ((zero_digit + n % 10) ∷ []),
      ap length (digits_short 4 (n / 10) (omega arith) (omega arith)),
    ))
