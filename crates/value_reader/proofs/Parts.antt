-- A loop over the parts of a value: each item is the next part, and at the end all of them are read.
use Rattle.std.specs.Slice.Iter as slice
use Rattle.std.specs.Prelude.{◌≡◌, List, ℕ, Bool, false, ◌<◌, eqb, length, get_or, map, Option, Some, None}
use Rattle.std.specs.Fn.{CalledAt}
use Rattle.std.specs.Iterator.{Yields}
use Rattle.std.proofs.Common.{refl}
use Rattle.std.proofs.lemmas.Iterator.{YieldsList}
use Rattle.std.proofs.lemmas.Iterator.Consumers.{YieldsList-turn, YieldsList-end}
use Rattle.std.proofs.lemmas.Iterator.Splits.{YieldsList-from_slice_split}
use denote.Param.Members.{Mut}
use denote.Ref.{Bor}
use Rattle.task_format.specs.Text.{comma, parts}
use Rattle.value_reader.specs.Laws.Answered.{parts_split}

module _ {F : Type 0} (g : Mut F (Bor ℕ × Unit {0}) Bool) (v : List ℕ) (s : _) (xs : List (Bor (List ℕ))) (t : _)
    (y : Yields (slice.split_steps g) s xs t) (r : Option (Bor (List ℕ))) (u : _)
    (step : slice.split_steps g t r u) (rest : slice.split_rest s ≡ v) (begun : slice.split_done s ≡ false)
    (test : (x : ℕ) (b : Bool) (q : F) → CalledAt g (slice.split_callee s) x b q → (q ≡ slice.split_callee s) × (b ≡ eqb x comma)) where
  road : YieldsList (slice.split_steps g) (λ x. x.now) s (parts v)
  road = rw (← parts_split v)
      (YieldsList-from_slice_split {s = s} g (λ b. eqb b comma) v rest begun refl test)

  pub part_turn : (p : Bor (List ℕ)) → r ≡ Some p → (length xs < length (parts v)) × (p.now ≡ get_or (parts v) (length xs) p.now)
  part_turn p e = YieldsList-turn road xs t y r u p e step

  pub part_end : r ≡ None → map (λ p. p.now) xs ≡ parts v
  part_end e = (YieldsList-end road xs t y r u e step).0
