-- `report::bytes::lines_bytes` meets its contract.
use Rattle.report.specs.Laws.Bytes.{Counted}
use Rattle.report.proofs.bytes.lines_bytes.Given as goal

abbrev pub invariant-loop-k : goal.invariant-loop-k
invariant-loop-k l = Counted l.lines l.total l.k
