-- `file_response::response_in` meets its contract.
use Rattle.std.proofs.Common.{◌≡◌, rules, Err}
use Rattle.text_call.specs.Laws.OnText.{accepted_called, refused_called}
use Rattle.file_response.proofs.response_in.Goals as goal

pub returns-in_err-task-clause-called : goal.returns-in_err-task-clause-called
returns-in_err-task-clause-called c =
    let e : c.from_residual.result ≡ Err c.in_err-task.field-0.0 = search rules in
    rw e (refused_called _ _ c.in_err-task.ensures)

pub returns-clause-called : goal.returns-clause-called
returns-clause-called c = accepted_called _ _ c.in_ok-task.ensures c.best_response.ensures.promise
