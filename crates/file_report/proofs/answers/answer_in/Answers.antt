-- `file_report::answers::answer_in` meets its contract.
use Rattle.std.proofs.Common.{◌≡◌, rules, Err}
use Rattle.text_call.specs.Laws.OnText.{accepted_called}
use Rattle.file_report.specs.Laws.Refused.{text_refused}
use Rattle.file_report.proofs.answers.answer_in.Goals as goal

pub returns-in_err-task-clause-called : goal.returns-in_err-task-clause-called
returns-in_err-task-clause-called c =
    let e : c.from_residual.result ≡ Err c.in_err-task.field-0.0 = search rules in
    rw e (text_refused _ _ c.in_err-task.ensures)

pub returns-clause-called : goal.returns-clause-called
returns-clause-called c = let printed = c.print.ensures.called in (printed.0, accepted_called _ _ c.in_ok-task.ensures printed.1)
