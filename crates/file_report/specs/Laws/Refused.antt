-- A text that is refused.
use Rattle.std.specs.Prelude.{◌≡◌, List, ℕ, Err}
use Rattle.outcome.specs.Refusal.{number_of, place_of}
use Rattle.outcome.specs.declared.Refusal.{Refusal}
use Rattle.task_format.specs.Parse.{Read, refused}
use Rattle.questions.specs.Lent.{from}
use Rattle.questions.specs.declared.workspace.Workspace.{Workspace}
use Rattle.report.specs.ReportCall.{returned, report_call}
use Rattle.text_call.specs.Laws.OnText.{refused_called}
use Rattle.file_report.specs.TextCall.{TextCall}

-- its refusal leaves all that is lent as it was
pub text_refused : (room : ℕ) {read : Read} {w : Workspace} {plans text : List ℕ} (q : Refusal) → refused (number_of q) (place_of q) ≡ read
    → TextCall read (from w w) room (from plans plans) (from text text) (returned (Err q))
text_refused room q said = (_, refused_called report_call q said)
