-- `front_lines::lines::Lines::total_steps` meets its contract. The loop's invariant: the total is that of the lines passed.
use Rattle.std.proofs.Common.{◌≡◌, ◌*◌, ◌≤◌, length, take}
use Rattle.search.specs.Limits.{max_places}
use Rattle.pareto.specs.Layout.{plans_for}
use Rattle.front_lines.proofs.lines.Lines.total_steps.Given as goal

abbrev pub invariant-loop-k : goal.invariant-loop-k
invariant-loop-k l = record { total : l.total ≡ length (plans_for (take l.k l.self)); few : l.total ≤ l.k * (2 * max_places) }
