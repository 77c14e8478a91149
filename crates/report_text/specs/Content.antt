-- What stands between a printed line's key and its newline.
use Rattle.std.specs.Prelude.{List, ℕ}
use Rattle.outcome.specs.Answer.{value_of}
use Rattle.report_text.specs.Report.{numeral, plan_text, answer_text}
use Rattle.report_text.specs.declared.parts.Content.{Content}
use Rattle.report_text.specs.declared.parts.Content.TheVariants.{Number, Answer, Plan}

abbrev pub content_text : Content → List ℕ
content_text (Number n) = numeral n
content_text (Answer a) = answer_text (value_of a)
content_text (Plan plan) = plan_text plan.now
