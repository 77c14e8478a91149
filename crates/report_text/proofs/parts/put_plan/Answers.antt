-- `report_text::parts::put_plan` meets its contract.
use Rattle.std.proofs.Common.{◌∷◌, ap, get_or}
use Rattle.task_format.specs.Text.{comma}
use Rattle.text_output.specs.Laws.Puts.{left_start, left_more}
use Rattle.report_text.specs.Report.{numeral, plan_text}
use Rattle.report_text.specs.Laws.Sizes.{further_turn}
use Rattle.report_text.proofs.parts.put_plan.Goals as goal

pub loop-n-init : goal.loop-n-init
unfolding plan_text
loop-n-init c =
    let first = c.in-Some.first.now in
    let is = ap plan_text c.in-Some.ensures.cases.0 in
    left_more (left_start _ _) (numeral first) _ is (rw c.from.ensures at c.put_number.ensures)

pub loop-n-preserved : goal.loop-n-preserved
loop-n-preserved c =
    let rest = c.in-Some.rest.now in
    let at = c.loop-n in
    left_more at.invariant (comma ∷ numeral (get_or rest at.n-index 0)) _ (further_turn rest at.n-index c.loop-n-test.true) c.put_further.ensures
