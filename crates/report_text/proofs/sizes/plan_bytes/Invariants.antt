-- `report_text::sizes::plan_bytes` meets its contract. The loop's invariant: the numbers from n on are still to be counted.
use Rattle.std.proofs.Common.{◌≡◌, ◌+◌, ◌*◌, ◌≤◌, length, drop}
use Rattle.report_text.specs.Report.{further_text, plan_text}
use Rattle.report_text.proofs.sizes.plan_bytes.Given as goal

abbrev pub invariant-loop-n : goal.invariant-loop-n
invariant-loop-n l = record {
  left : l.total + length (further_text (drop l.n-index l.rest)) ≡ length (plan_text l.plan);
  few : l.total ≤ 4 * (l.n-index + 1);
}
