-- `report_text::parts::put_plan` meets its contract. The loop's invariant: the numbers from n on are left to be put.
use Rattle.std.proofs.Common.{drop}
use Rattle.text_output.specs.Laws.Puts.{Left}
use Rattle.report_text.specs.Report.{further_text, plan_text}
use Rattle.report_text.proofs.parts.put_plan.Given as goal

abbrev pub invariant-loop-n : goal.invariant-loop-n
invariant-loop-n l = Left (plan_text l.plan) l.fn.out (further_text (drop l.n-index l.rest)) l.out
