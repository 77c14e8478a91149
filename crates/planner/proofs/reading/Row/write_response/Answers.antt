-- `planner::reading::Row::write_response` meets its contract.
use Rattle.std.proofs.Common.{arith, rules, ◌≡◌, length, take, length-take-le}
use Rattle.planner.specs.Laws.Reading.{walked_more}
use Rattle.planner.proofs.reading.Row.write_response.Goals as goal

pub loop-step-preserved : goal.loop-step-preserved
loop-step-preserved c =
    let steps = c.response_steps-steps.result in
    let whole : length (take steps c.args.plan.now) ≡ steps = length-take-le steps c.args.plan.now (search (rules, arith)) in
    search (rules, arith, walked_more, whole)
