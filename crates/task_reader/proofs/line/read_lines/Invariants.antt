-- `task_reader::line::read_lines` meets its contract. The loop's invariant is `OnLine`, its measure what is left of the text.
use Rattle.std.specs.Prelude.{length}
use Rattle.task_reader.specs.Line.{OnLine}
use Rattle.task_reader.proofs.line.read_lines.Given as goal

abbrev pub invariant-loop-line : goal.invariant-loop-line
invariant-loop-line l = OnLine l.text l.task l.line l.rest

abbrev pub decreases-loop-line : goal.decreases-loop-line
decreases-loop-line l = length l.rest
