-- `report::text::put_lines` meets its contract. The loop's invariant: line k is in turn.
use Rattle.std.proofs.Common.{◌<◌, length, take_all, arith}
use Rattle.report.specs.Laws.Text.{turn_more, turn_end}
use Rattle.report.proofs.text.put_lines.Goals as goal

pub loop-k-preserved : goal.loop-k-preserved
loop-k-preserved c =
    let more : c.loop-k.k < length c.args.lines.now = omega arith in
    let put = c.put_entry-rest.ensures in
    let turn = turn_more _ _ c.loop-k.invariant more _ c.entry-numbers.ensures put.text in
    grind (arith, take_all)

pub returns : goal.returns
returns c = turn_end _ _ c.loop-k.invariant (omega arith)
