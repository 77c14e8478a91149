-- The lines of the rows that are noted: how many there are, and which.
use Rattle.std.specs.Prelude.{◌≡◌, List, ℕ, ◌≤◌, ◌<◌, length, take}
use Rattle.std.proofs.Common.{sym, ap, ◌∙◌, arith, length-take-le, get_or-take}
use Rattle.std.proofs.lemmas.List.{length-map, get_or-map}
use Rattle.planner.specs.Reading.{notes, reading_at}
use Rattle.planner.specs.Laws.Notes.{notes_length}
use Rattle.front_lines.specs.Lines.{line_of, line_at, note_at, line_number, lines_in, Listed}

module _ (R : List (List ℕ)) (count : ℕ) where
  pub lines_length : count ≤ length R → length (lines_in R count) ≡ count
  unfolding lines_in
  lines_length inside = length-map (take count (notes R)) (line_at R) ∙ length-take-le count (notes R) (omega (arith, notes_length R))

  module _ (listed : Listed R count) where
    pub listed_length : length (lines_in R count) ≡ count
    listed_length = lines_length listed.inside

    pub listed_line : (k : ℕ) → k < length (lines_in R count) → line_of (reading_at R (note_at R k)) ≡ line_number (lines_in R count) k
    unfolding lines_in line_at
    listed_line k h =
        let inside : k < count = omega (arith, listed_length) in
        let size = length-take-le count (notes R) (omega (arith, listed.inside, notes_length R)) in
        sym (get_or-map (line_at R) (take count (notes R)) k 0 _ (omega (arith, size)) ∙ ap (line_at R) (get_or-take count (notes R) k 0 inside))
