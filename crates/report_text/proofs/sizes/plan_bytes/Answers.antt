-- `report_text::sizes::plan_bytes` meets its contract.
use Rattle.std.proofs.Common.{ap, arith, length, length-append}
use Rattle.report_text.specs.Report.{numeral, plan_text, further_text}
use Rattle.report_text.specs.Laws.Sizes.{further_length}
use Rattle.report_text.proofs.sizes.plan_bytes.Goals as goal

pub loop-n-init : goal.loop-n-init
unfolding plan_text
loop-n-init c =
    let is = ap (λ p. length (plan_text p)) c.in-Some.ensures.cases.0 in
    let digits = c.number_bytes-total.ensures in
    record {
      left = omega (arith, digits.0, is, length-append (numeral c.in-Some.first.now) (further_text c.in-Some.rest.now));
      few = omega (arith, digits.1);
    }

pub loop-n-preserved : goal.loop-n-preserved
loop-n-preserved c =
    let at = c.loop-n in
    let digits = c.number_bytes.ensures in
    record {
      left = omega (arith, at.invariant.left, digits.0, further_length c.in-Some.rest.now at.n-index c.loop-n-test.true);
      few = omega (arith, at.invariant.few, digits.1);
    }
