-- The pass over the rows that were solved: what each turn may read, what it leaves, and that its end is the front.
use Rattle.std.specs.Prelude.{◌≡◌, List, ℕ, ◌+◌, ◌-◌, ◌≤◌, ◌<◌, length}
use Rattle.std.proofs.Common.{◌∙◌, arith}
use Rattle.strips.specs.declared.Task.{Task}
use Rattle.planner.specs.Reading.{price_at, settled_at, Reading, reading_at, SameReading}
use Rattle.planner.specs.Solved.{Solved}
use Rattle.planner.specs.Inner.Columns.{Readable}
use Rattle.planner.specs.Laws.Notes.{notes_length, same_refl, same_trans}
use Rattle.front_lines.specs.Lines.{note_at, Chosen}
use Rattle.front_lines.specs.Inner.Selection.{Visited, first, instead, behind, passed, Pass}
use Rattle.front_lines.specs.Laws.Lines.{same_readings, rows_inside, chosen}
use Rattle.front_lines.specs.Laws.Selection.{selected_none, selected_visited}

visited_same : {v : ℕ → Reading} {R R' : List (List ℕ)} {count i r : ℕ} → Visited v R count i R' r → SameReading R R'
visited_same (first z w q) = w.same
visited_same (instead some x w q) = w.same
visited_same (behind some x w q) = w.same
visited_same {R = R} (passed some x w q) = rw w (same_refl R)

module _ {t : Task} {R₀ : List (List ℕ)} {m : ℕ} (solved : Solved t R₀ m) where
  rising : (p q : ℕ) → p ≤ q → q < m → price_at R₀ (settled_at R₀ p) ≤ price_at R₀ (settled_at R₀ q)
  rising = solved.rising

  pub pass_start : Pass R₀ m R₀ 0 0
  pass_start = record {
    within = omega arith;
    same = same_refl R₀;
    selected = selected_none (reading_at R₀) (settled_at R₀) m solved.settled rising (note_at R₀);
  }

  module _ {R : List (List ℕ)} {p count : ℕ} (pass : Pass R₀ m R p count) (more : p < m) {i : ℕ} (next : i ≡ settled_at R p) where
    -- the next row, and the one noted last, can be read
    pub pass_reads : Readable R i × (count < length R) × (1 ≤ count → Readable R (note_at R (count - 1)))
    pass_reads =
        let e = next ∙ pass.same.settled p in (
          pass.same.readable i (rw e (solved.readable (settled_at R₀ p) (solved.settled p more))),
          omega (arith, pass.selected.few, pass.same.size, rows_inside solved),
          λ h. pass.same.readable (note_at R (count - 1)) (solved.readable (note_at R (count - 1)) (pass.selected.row (count - 1) (omega arith))),
        )

    pub pass_visited : {R' : List (List ℕ)} {r : ℕ} → Visited (reading_at R) R count i R' r → Pass R₀ m R' (p + 1) r
    pass_visited {R'} {r} w = record {
      within = omega arith;
      same = same_trans pass.same (visited_same w);
      selected = selected_visited (reading_at R₀) (settled_at R₀) m solved.settled rising R R' p count i r pass.selected more
          (omega (arith, pass.same.size, rows_inside solved, notes_length R)) (next ∙ pass.same.settled p) (rw (same_readings pass.same) at w);
    }

  pub pass_end : {R : List (List ℕ)} {p count : ℕ} → Pass R₀ m R p count → m ≤ p → Chosen t R count
  pass_end {R} {p} {count} pass h = let e : p ≡ m = omega (arith, pass.within) in chosen solved R count pass.same (rw e at pass.selected)
