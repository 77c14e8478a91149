-- `task_reader::line::cut` meets its contract. The loop's invariant is `Cutting`.
use Rattle.task_reader.specs.Cut.{Cutting}
use Rattle.task_reader.proofs.line.cut.Given as goal

abbrev pub invariant-loop-i : goal.invariant-loop-i
invariant-loop-i l = Cutting l.kind l.text l.i l.digits
