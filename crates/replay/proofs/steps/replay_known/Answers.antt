-- `replay::steps::replay_known` meets its contract.
use Rattle.std.proofs.Common.{◌≡◌, Err, rules}
use Rattle.replay.specs.Laws.Replay.{leader_runnable, follower_runnable}
use Rattle.replay.proofs.Refused.{stops_leader, stops_follower, ends_both}
use Rattle.replay.proofs.steps.replay_known.Goals as goal

pub run-requires-clause-runnable : goal.run-requires-clause-runnable
run-requires-clause-runnable c = rw (c.list.ensures.same, c.leader_actions-leader.ensures) (leader_runnable c.requires)

pub returns-in_err-first : goal.returns-in_err-first
returns-in_err-first c =
    let e : c.from_residual.result ≡ Err c.in_err-first.field-0.0 = search rules in
    rw e (stops_leader _ _ _ c.requires (rw (c.list.ensures.same, c.leader_actions-leader.ensures) at c.in_err-first.ensures))

pub run-requires-2-clause-runnable : goal.run-requires-2-clause-runnable
run-requires-2-clause-runnable c = rw (c.list-2.ensures.same, c.follower_actions-follower.ensures) (follower_runnable c.requires)

pub returns-in_err-second : goal.returns-in_err-second
returns-in_err-second c =
    let e : c.from_residual-in_err-second.result ≡ Err c.in_err-second.field-0.0 = search rules in
    let first = rw (c.list.ensures.same, c.leader_actions-leader.ensures) at c.in_ok-first.ensures in
    rw e (stops_follower _ _ _ c.requires first (rw (c.list-2.ensures.same, c.follower_actions-follower.ensures) at c.in_err-second.ensures))

pub returns : goal.returns
returns c =
    let first = rw (c.list.ensures.same, c.leader_actions-leader.ensures) at c.in_ok-first.ensures in
    ends_both _ _ _ c.requires first (rw (c.list-2.ensures.same, c.follower_actions-follower.ensures) at c.in_ok-second.ensures) c.holds.ensures
