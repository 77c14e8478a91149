-- `front_lines::selection::choose` meets its contract. The loop's invariant: the lines of the rows passed are noted.
use native.Mathlib.Omega.{arith}
use Rattle.front_lines.specs.Laws.Lines.{rows_inside}
use Rattle.front_lines.specs.Laws.Pass.{pass_reads, pass_visited, pass_end}
use Rattle.front_lines.proofs.selection.choose.Goals as goal

pub settled_row-i-requires : goal.settled_row-i-requires
settled_row-i-requires c = omega (arith, c.loop-p-test.true, c.loop-p.invariant.same.size, rows_inside c.requires.1)

pub visit-count-requires : goal.visit-count-requires
visit-count-requires c = pass_reads c.requires.1 c.loop-p.invariant c.loop-p-test.true c.settled_row-i.ensures

pub loop-p-preserved : goal.loop-p-preserved
loop-p-preserved c = pass_visited c.requires.1 c.loop-p.invariant c.loop-p-test.true c.settled_row-i.ensures c.visit-count.ensures

pub returns : goal.returns
returns c =
    let inv = c.loop-p.invariant in
    (inv.same, omega (arith, inv.selected.few, inv.within), λ t solved. pass_end solved inv (omega (arith, c.loop-p-test.false)))
