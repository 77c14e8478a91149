-- `test_support::tasks::with_actions` meets its contract.
use Rattle.std.proofs.Common.{refl, length}
use Rattle.std.proofs.lemmas.List.{drop-replicate}
use Rattle.strips.specs.Limits.{max_leader, max_follower}
use Rattle.strips.specs.Task.{idle}
use Rattle.test_support.proofs.tasks.with_actions.Goals as goal

pub returns : goal.returns
returns c =
    let leader = drop-replicate (length c.args.leader.now) max_leader idle in
    let follower = drop-replicate (length c.args.follower.now) max_follower idle in
    rw (c.put_actions.ensures, c.put_actions-2.ensures, c.bare-acting.ensures, leader, follower) refl
