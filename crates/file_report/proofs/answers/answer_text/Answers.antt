-- `file_report::answers::answer_text` meets its contract.
use Rattle.std.proofs.Common.{arith}
use Rattle.file_report.specs.Laws.Printed.{written_put, refused_prints, refusal_fits, refusal_put}
use Rattle.file_report.proofs.answers.answer_text.Goals as goal

pub print_refusal-requires-clause-place : goal.print_refusal-requires-clause-place
print_refusal-requires-clause-place c = let refuses = refused_prints c.told-output c.in-Err.ensures in omega (arith, refuses.few)

pub print_refusal-requires-clause-room : goal.print_refusal-requires-clause-room
print_refusal-requires-clause-room c = refusal_fits c.told-output (refused_prints c.told-output c.in-Err.ensures)

pub returns-in-Ok : goal.returns-in-Ok
returns-in-Ok c = written_put _ c.told-output c.in-Ok.ensures

pub returns-in-Err : goal.returns-in-Err
returns-in-Err c =
    let put = c.print_refusal.ensures in
    refusal_put c.told-output (refused_prints c.told-output c.in-Err.ensures) put.bytes put.text
