-- `replay::steps::run` meets its contract. The loop's invariant is `Running`.
use Rattle.std.proofs.Common.{arith, ◌≡◌, ◌-◌, length, get_or}
use Rattle.strips.specs.State.{Applies}
use Rattle.strips.specs.Task.{idle}
use Rattle.strips.specs.Laws.Decision.{result_yes, result_no}
use Rattle.replay.specs.Laws.Running.{running_start, step_known, running_more, running_stops, running_ends}
use Rattle.replay.proofs.steps.run.Goals as goal

pub loop-i-init : goal.loop-i-init
loop-i-init g c = running_start _ _ _ c.of-cost.ensures

pub overflow_sub-action : goal.overflow_sub-action
overflow_sub-action g c = omega (arith, step_known c.requires.runnable c.loop-i-test.true)

pub bounds-actions-from : goal.bounds-actions-from
bounds-actions-from g c = omega (arith, step_known c.requires.runnable c.loop-i-test.true)

pub returns-then-not-applies : goal.returns-then-not-applies
returns-then-not-applies g c =
    let failed : Applies (get_or c.args.actions.now (c.from.result - 1) idle) c.loop-i.state → ⊥ = result_no _ c.applies.ensures c.if-not-applies.true in
    running_stops c.requires.runnable c.loop-i-test.true c.loop-i.invariant c.args.earlier (rw c.from.ensures at failed)

pub loop-i-preserved : goal.loop-i-preserved
loop-i-preserved g c =
    let applied : Applies (get_or c.args.actions.now (c.from.result - 1) idle) c.loop-i.state = result_yes _ c.applies.ensures c.if-not-applies.false in
    rw (c.successor-state.ensures, c.from.ensures)
    (running_more c.requires.runnable c.loop-i-test.true c.loop-i.invariant (rw c.from.ensures at applied)
    (rw (c.of.ensures, c.from.ensures) at c.plus-cost.ensures))

pub returns : goal.returns
returns g c =
    let whole : c.loop-i.i ≡ length c.args.plan.now = omega arith in
    running_ends _ _ _ _ _ (rw whole at c.loop-i.invariant)
