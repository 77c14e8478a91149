-- `questions::record_verdict` meets its contract.
use Rattle.questions.specs.Laws.Record.{verdict}
use Rattle.questions.proofs.record_verdict.Goals as goal

pub returns-clause-fault : goal.returns-clause-fault
returns-clause-fault c = rw c.ok_or.ensures.value (verdict _ _ c.new.ensures)
