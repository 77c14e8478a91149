-- A value gone over byte by byte, as far as question 4 may still get a yes.
use Rattle.std.specs.Prelude.{◌≡◌, List, [], ◌∷◌, ◌++◌, ◌⊎◌, ℕ, ◌+◌, ◌<◌, take, drop}
use Rattle.task_format.specs.Limits.{max_digits}
use Rattle.task_format.specs.Text.{comma, first_line, behind_line}
use Rattle.task_format.specs.Value.{IsDigit, InForm}
use Rattle.task_format.specs.declared.Kind.{Kind}
use Rattle.task_format.specs.declared.Kind.TheVariants.{Number, FactList}

-- a list has commas
abbrev pub HasCommas : Kind → Type 0
HasCommas (Number low high) = ⊥
HasCommas (FactList most) = Unit {0}

-- behind n digits of a number, byte b may stand, and then m digits do: it is a digit and not one too many, or in a list a comma
abbrev pub Adds : Kind → (n b m : ℕ) → Type 0
Adds kind n b m = (IsDigit b × (n < max_digits) × (m ≡ n + 1)) ⊎ ((b ≡ comma) × HasCommas kind × (m ≡ 0))

-- and so may each byte of v in its turn
unfoldable pub Goes : Kind → ℕ → List ℕ → Type 0
Goes kind n [] = Unit {0}
Goes kind n (b ∷ v) = (m : ℕ) × Adds kind n b m × Goes kind m v

-- the first i bytes of a text are of its first line, and end in n digits
pub record Cutting (kind : Kind) (text : List ℕ) (i n : ℕ) : Type 0 where
  pub line : first_line text ≡ take i text ++ first_line (drop i text)
  pub behind : behind_line text ≡ behind_line (drop i text)
  pub goes : InForm kind (first_line text) → Goes kind n (first_line (drop i text))
