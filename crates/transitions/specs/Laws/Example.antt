-- Keys after a search can be had: two rows, and an action of cost 0 that leads from row 0 to row 1.
use Rattle.std.specs.Prelude.{List, [], ◌∷◌, ℕ}
use Rattle.std.proofs.Common.{arith}
use Rattle.transitions.specs.Transitions.{Keyed, Weights}

abbrev pub example_weights : List ℕ
example_weights = 1 ∷ []

abbrev pub example_table : List (List ℕ)
example_table = (2 ∷ []) ∷ (0 ∷ []) ∷ []

abbrev pub example_keys : List ℕ
example_keys = 1 ∷ 2 ∷ []

pub example_weights_lem : Weights example_weights
example_weights_lem = grind arith

pub example_keyed : Keyed example_weights example_table 0 example_keys
example_keyed = grind arith
