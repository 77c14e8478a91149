-- Notes: each row has one, and noting changes nothing that is read.
use Rattle.std.specs.Prelude.{◌≡◌, refl, List, ℕ, length}
use Rattle.std.proofs.Common.{◌∙◌}
use Rattle.rows.specs.Columns.{note_column}
use Rattle.rows.specs.Laws.Columns.{col_length}
use Rattle.planner.specs.Reading.{notes, SameReading}

pub notes_length : (R : List (List ℕ)) → length (notes R) ≡ length R
unfolding notes
notes_length R = col_length note_column R

pub same_refl : (R : List (List ℕ)) → SameReading R R
same_refl R = record {
  size = refl;
  readable = λ i x. x;
  reading = λ i. refl;
  settled = λ p. refl;
}

pub same_trans : {R R' R'' : List (List ℕ)} → SameReading R R' → SameReading R' R'' → SameReading R R''
same_trans a b = record {
  size = b.size ∙ a.size;
  readable = λ i x. b.readable i (a.readable i x);
  reading = λ i. b.reading i ∙ a.reading i;
  settled = λ p. b.settled p ∙ a.settled p;
}
