-- `report::text::put_lines` meets its contract. The loop's invariant: line k is in turn.
use Rattle.report.specs.Laws.Text.{InTurn}
use Rattle.report.proofs.text.put_lines.Given as goal

abbrev pub invariant-loop-k : goal.invariant-loop-k
invariant-loop-k l = InTurn l.lines l.initial.out l.k l.rest l.out
