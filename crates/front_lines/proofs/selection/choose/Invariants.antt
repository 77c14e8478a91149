-- `front_lines::selection::choose` meets its contract. The loop's invariant: the lines of the rows passed are noted.
use Rattle.front_lines.specs.Inner.Selection.{Pass}
use Rattle.front_lines.proofs.selection.choose.Given as goal

abbrev pub invariant-loop-p : goal.invariant-loop-p
invariant-loop-p l = Pass l.initial.rows l.m l.rows l.p l.count
