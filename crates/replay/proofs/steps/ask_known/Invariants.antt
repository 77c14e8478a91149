-- `replay::steps::ask_known` meets its contract. The loop's invariant: the steps passed are known.
use Rattle.std.specs.Prelude.{◌≡◌, ◌+◌, drop}
use Rattle.replay.specs.Replay.{known_steps}
use Rattle.replay.proofs.steps.ask_known.Given as goal

abbrev pub invariant-loop-i : goal.invariant-loop-i
invariant-loop-i l = known_steps l.count l.plan ≡ l.i + known_steps l.count (drop l.i l.plan)
