-- The lines that stand in the rows: they can be read, and there is room for their entries and plans.
use Rattle.std.specs.Prelude.{◌≡◌, List, ℕ, ◌≤◌, length, Ok}
use Rattle.std.proofs.Common.{ap, arith}
use Rattle.strips.specs.declared.Task.{Task}
use Rattle.questions.specs.Lent.{Lent}
use Rattle.questions.specs.Call.{Returned}
use Rattle.questions.specs.Laws.Asked.{asked_either}
use Rattle.questions.specs.Workspace.{rows_in}
use Rattle.questions.specs.declared.workspace.Workspace.{Workspace}
use Rattle.pareto.specs.Layout.{plans_for}
use Rattle.front_lines.specs.Lines.{lines_in, Listed}
use Rattle.front.specs.FrontCall.{returned}
use Rattle.front.specs.Asked.{FrontAsked}

-- so many lines can be read, and their entries and plans fit
pub record ListedWithin (R : List (List ℕ)) (count entries numbers : ℕ) : Type 0 where
  pub listed : Listed R count
  pub entries_fit : count ≤ entries
  pub plans_fit : length (plans_for (lines_in R count)) ≤ numbers

-- as many as are returned
pub listed_lines : {t : Task} {w : Lent Workspace} {entries numbers : ℕ} (k : ℕ) → FrontAsked t w entries numbers (returned (Ok k))
    → ListedWithin (rows_in w).after k entries numbers
listed_lines {w = w} {entries} {numbers} k = asked_either
    (λ q x. absurd (omega (arith, x.some, ap (λ (y : Returned ℕ). y.number) x.returns)))
    (λ d.
    let z : k ≡ length d.it = ap (λ (y : Returned ℕ). y.values) d.holds.returns in
    let held = d.holds.left.held in
    rw z (record { listed = held.listed; entries_fit = d.holds.entries_fit; plans_fit = rw held.same d.holds.plans_fit }))
