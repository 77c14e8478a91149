-- `planner::answer_call::best_response` meets its contract.
use Rattle.std.proofs.Common.{◌≡◌, sym, arith, rules, Err}
use Rattle.strips.specs.Task.{Valid}
use Rattle.outcome.specs.declared.Refusal.TheVariants.{InvalidTask}
use Rattle.replay.specs.Laws.Replay.{refuses_9}
use Rattle.questions.specs.Laws.Size.{capacity_none, capacity_some}
use Rattle.planner.specs.Laws.Workspace.{spacious}
use Rattle.planner.specs.Laws.Questions.{told_ran, told_refused, ran_state, ran_reach, sizes_refused, replay_refused, replay_ran}
use Rattle.planner.proofs.answer_call.best_response.Goals as goal

pub returns-in_err-n-clause-promise : goal.returns-in_err-n-clause-promise
returns-in_err-n-clause-promise c =
    let e : c.from_residual.result ≡ Err c.in_err-n.field-0.0 = search rules in
    let size = c.in_err-n.ensures in
    rw (e, size.1) (sizes_refused _ _ _ _ (capacity_none _ size.0 (omega arith)))

pub returns-in_err-task-clause-promise : goal.returns-in_err-task-clause-promise
returns-in_err-task-clause-promise c =
    let e : c.from_residual-in_err-task.result ≡ Err InvalidTask = search rules in
    let invalid : Valid c.args.task → ⊥ = search rules in
    let size = c.in_ok-n.ensures in
    rw e (replay_refused _ _ _ _ (capacity_some _ size.1 size.0).0 InvalidTask (sym (refuses_9 _ _ _ invalid)))

pub returns-in_err-end-clause-promise : goal.returns-in_err-end-clause-promise
returns-in_err-end-clause-promise c =
    let a = c.args in
    let e : c.from_residual-in_err-end.result ≡ Err c.in_err-end.field-0.0 = search rules in
    let valid : c.in_ok-task.task ≡ a.task = search rules in
    let size = c.in_ok-n.ensures in
    rw e (replay_refused _ _ _ _ (capacity_some _ size.1 size.0).0 _ (told_refused a.task a.leader_plan.now _ (rw valid at c.in_err-end.ensures)))

pub respond-requires : goal.respond-requires
respond-requires c =
    let a = c.args in
    let valid : c.in_ok-task.task ≡ a.task = search rules in
    let ran = told_ran a.task a.leader_plan.now (rw valid at c.in_ok-end.ensures) in
    let size = c.in_ok-n.ensures in
    rw valid (record { reach = ran_reach _ _ ran; spacious = spacious a.work.now size.1 size.0; shortest = (capacity_some _ size.1 size.0).1 })

pub returns-clause-promise : goal.returns-clause-promise
returns-clause-promise c =
    let a = c.args in
    let valid : c.in_ok-task.task ≡ a.task = search rules in
    let ran = told_ran a.task a.leader_plan.now (rw valid at c.in_ok-end.ensures) in
    let size = c.in_ok-n.ensures in
    replay_ran _ _ _ (capacity_some _ size.1 size.0).0 ran (rw valid at c.respond.ensures.answered a.leader_plan.now (ran_state _ _ ran))
