-- `replay::steps::replay_valid` meets its contract.
use Rattle.std.proofs.Common.{rules, ◌≡◌, Err, sym, inl, inr}
use Rattle.replay.specs.Replay.{returned}
use Rattle.replay.specs.Laws.Replay.{refuses_10_leader, refuses_10_follower}
use Rattle.replay.proofs.Refused.{unknown_leader, unknown_follower}
use Rattle.replay.proofs.steps.replay_valid.Goals as goal

pub returns-then-leader_plan-gt-MAX_STEPS : goal.returns-then-leader_plan-gt-MAX_STEPS
unfolding returned
returns-then-leader_plan-gt-MAX_STEPS c =
    elim c.then-leader_plan-gt-MAX_STEPS.either [
      | inl h ↦ sym (refuses_10_leader _ _ _ c.task-task.ensures.valid h)
      | inr h ↦ sym (refuses_10_follower _ _ _ c.task-task.ensures.valid h.0 h.1)
    ]

pub returns-in_err-ask_known : goal.returns-in_err-ask_known
returns-in_err-ask_known c =
    let e : c.from_residual.result ≡ Err c.in_err-ask_known.field-0.0 = search rules in
    let unknown = rw c.task-task.ensures.same at c.in_err-ask_known.ensures in
    rw e (unknown_leader _ _ _ c.task-task.ensures.valid c.if-leader_plan-gt-MAX_STEPS.false c.if-follower_plan-gt-MAX_STEPS.false unknown)

pub returns-in_err-ask_known-2 : goal.returns-in_err-ask_known-2
returns-in_err-ask_known-2 c =
    let e : c.from_residual-in_err-ask_known-2.result ≡ Err c.in_err-ask_known-2.field-0.0 = search rules in
    let known = rw c.task-task.ensures.same at c.in_ok-ask_known.ensures in
    let unknown = rw c.task-task.ensures.same at c.in_err-ask_known-2.ensures in
    rw e (unknown_follower _ _ _ c.task-task.ensures.valid c.if-leader_plan-gt-MAX_STEPS.false c.if-follower_plan-gt-MAX_STEPS.false known unknown)

pub replay_known-requires : goal.replay_known-requires
replay_known-requires c =
    rw c.task-task.ensures.same (record {
      valid = c.task-task.ensures.valid;
      short_leader = c.if-leader_plan-gt-MAX_STEPS.false;
      short_follower = c.if-follower_plan-gt-MAX_STEPS.false;
      known_leader = rw c.task-task.ensures.same at c.in_ok-ask_known.ensures;
      known_follower = rw c.task-task.ensures.same at c.in_ok-ask_known-2.ensures;
    })

pub returns : goal.returns
returns c = rw c.task-task.ensures.same at c.replay_known.ensures
