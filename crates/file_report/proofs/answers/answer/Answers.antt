-- `file_report::answers::answer` meets its contract.
use Rattle.std.proofs.Common.{refl}
use Rattle.file_report.proofs.answers.answer.Goals as goal

pub returns : goal.returns
returns c = record { work = _; lends = refl; plans = _; call = c.answer_in.ensures.called }
