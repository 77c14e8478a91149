-- `planner::answer_call::answer_row` meets its contract.
use Rattle.std.proofs.Common.{◌≡◌, ◌-◌, ap, arith, rules, Err}
use Rattle.planner.specs.Laws.Answer.{states_refused, none_answered, plan_refused, plan_written}
use Rattle.planner.proofs.answer_call.answer_row.Goals as goal

pub returns-in_err-row : goal.returns-in_err-row
returns-in_err-row c =
    let e : c.from_residual.result ≡ Err c.in_err-row.field-0.0 = search rules in
    rw (c.in_err-row.was, e) (states_refused _ _)

pub returns-in_default : goal.returns-in_default
returns-in_default c = rw (c.in_ok-row.was, c.in_default.is) (none_answered _)

pub returns-then-plan-steps : goal.returns-then-plan-steps
returns-then-plan-steps c =
    let key = ap (λ k. k - 1) c.get-key.ensures in
    rw (c.in_ok-row.was, c.in-Some.is) (plan_refused _ _ key _ (omega (arith, c.if-plan-steps.true, c.steps_of_key-steps.ensures)))

pub returns : goal.returns
returns c =
    let key = ap (λ k. k - 1) c.get-key.ensures in
    let written = c.write_plan.ensures in
    let steps = c.steps_of_key-steps.ensures in
    rw (c.in_ok-row.was, c.in-Some.is, c.cost_of_key.ensures, steps)
    (plan_written _ _ key _ (omega (arith, c.if-plan-steps.false, steps)) written.0 written.1)
