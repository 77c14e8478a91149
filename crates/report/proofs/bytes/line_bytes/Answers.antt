-- `report::bytes::line_bytes` meets its contract.
use Rattle.std.proofs.Common.{ap, length, arith}
use Rattle.report.specs.Laws.Bytes.{plan_taken, line_counted}
use Rattle.report.proofs.bytes.line_bytes.Goals as goal

pub returns : goal.returns
returns c =
    let row = c.row-row.ensures in
    let led = c.write_leader_plan-steps.ensures in
    let followed = c.write_response-answer.ensures in
    let entry = c.entry_bytes.ensures in
    let leader = c.plan_bytes-leader.ensures in
    let follower = c.plan_bytes-follower.ensures in
    let plan = plan_taken _ _ _ _ led.1 led.0 in
    let plan₂ = plan_taken _ _ _ _ followed.1 followed.0 in (
      line_counted c.row-row.result _ row.line c.entry-numbers.ensures entry.0 plan leader.0 plan₂ follower.0,
      omega (arith, entry.1, leader.1, follower.1, ap length plan, ap length plan₂, row.short),
    )
