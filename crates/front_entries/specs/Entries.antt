-- What is left of the rows.
use Rattle.std.specs.Prelude.{List, ℕ, zero, suc, replicate}
use Rattle.rows.specs.Cleared.{everywhere}

-- the rows when the entries of n lines are stored: cleared, where there are lines
unfoldable pub rows_left : List (List ℕ) → ℕ → List (List ℕ)
rows_left R zero = R
rows_left R (suc n) = everywhere (replicate 8 0) R
