-- `front_lines::lines::Lines::write_plans` meets its contract. The loop's invariant: the plans of the lines passed are written.
use Rattle.front_lines.specs.Inner.Plans.{Written}
use Rattle.front_lines.proofs.lines.Lines.write_plans.Given as goal

abbrev pub invariant-loop-k : goal.invariant-loop-k
invariant-loop-k l = Written l.self l.initial.plans l.plans l.at l.k
