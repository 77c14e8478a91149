-- `replay::steps::run` meets its contract. The loop's invariant is `Running`.
use Rattle.replay.specs.Run.{Running}
use Rattle.replay.proofs.steps.run.Given as goal

abbrev pub invariant-loop-i : goal.invariant-loop-i
invariant-loop-i g l = Running l.actions l.start l.plan l.i l.state (g.C.Cost.amount l.cost)
