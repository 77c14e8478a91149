-- `report::bytes::lines_bytes` meets its contract.
use Rattle.std.proofs.Common.{arith}
use Rattle.report.specs.Laws.Bytes.{counted_more}
use Rattle.report.proofs.bytes.lines_bytes.Goals as goal

pub loop-k-preserved : goal.loop-k-preserved
loop-k-preserved c =
    let call = c.line_bytes-total in
    counted_more _ c.loop-k.invariant (omega arith) call.ensures.1 call.ensures.0
