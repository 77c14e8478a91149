-- The questions of the report call, before entries are stored: the lines stand in the rows then.
use Rattle.std.specs.Prelude.{◌≡◌, List, ℕ, ◌≤◌, ◌<◌, length}
use Rattle.strips.specs.declared.Task.{Task}
use Rattle.questions.specs.Lent.{Lent, over}
use Rattle.questions.specs.Call.{Returned}
use Rattle.questions.specs.declared.workspace.Workspace.{Workspace}
use Rattle.pareto.specs.Front.{Line}
use Rattle.pareto.specs.Layout.{plans_for}
use Rattle.report_text.specs.Report.{report_text}
use Rattle.front.specs.Asked.{LinesWritten}
use Rattle.report.specs.ReportCall.{Counts, counts, report_call}

-- question 16 about these lines, and what is written
pub data LinesPrinted (lines : List Line) (plans text : Lent (List ℕ)) (r : Returned Counts) : Type 0 where
  no_room : length text.before < length (report_text lines) → r ≡ record { number = 16; place = 0; values = counts 0 0 }
      → plans.after ≡ plans.before → text.after ≡ text.before → LinesPrinted lines plans text r
  printed : length (report_text lines) ≤ length text.before → r ≡ record { number = 0; place = 0; values = counts (length lines) (length (report_text lines)) }
      → plans.after ≡ over (plans_for lines) plans.before → text.after ≡ over (report_text lines) text.before → LinesPrinted lines plans text r

abbrev pub ReportListed : Task → Lent Workspace → (plans text : Lent (List ℕ)) → (entries : ℕ) → Returned Counts → Type 0
ReportListed t = LinesWritten (report_call t)
