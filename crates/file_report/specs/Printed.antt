-- What the report program prints for a text (document 01: one hall, whole).
use Rattle.std.specs.Prelude.{◌≡◌, List, ◌++◌, ℕ, ◌+◌, ◌≤◌, length, drop}
use Rattle.strips.specs.Decision.{ask}
use Rattle.task_format.specs.Limits.{max_text}
use Rattle.task_format.specs.Deciders.{dec_at_most}
use Rattle.task_format.specs.Parse.{parse}
use Rattle.search.specs.Reachable.{Fits}
use Rattle.pareto.specs.Front.{Line, Front}
use Rattle.pareto.specs.Layout.{plans_for}
use Rattle.report_text.specs.Report.{report_text, refusal_text}
use Rattle.file_report.specs.TextCall.{places, room, plan_numbers}

-- how many bytes of an input are read: one more than a text may have, so that a longer input shows
abbrev pub input_bytes : ℕ
input_bytes = max_text + 1

-- how many bytes are lent for what is printed
abbrev pub output_bytes : ℕ
output_bytes = 8192

-- for a front of these lines: questions 14 to 16
unfoldable pub lines_printed : List Line → List ℕ
lines_printed lines =
    ask (dec_at_most (length lines) room) (refusal_text 14 0)
    (ask (dec_at_most (length (plans_for lines)) plan_numbers) (refusal_text 15 0)
    (ask (dec_at_most (length (report_text lines)) output_bytes) (refusal_text 16 0) (report_text lines)))

-- for a text: the questions about it, then 13, then those about the lines
pub data Prints (text : List ℕ) : List ℕ → Type 0 where
  text_refused : 1 ≤ (parse text).number → Prints text (refusal_text (parse text).number (parse text).place)
  reach_refused : (parse text).number ≡ 0 → (Fits (parse text).task places → ⊥) → Prints text (refusal_text 13 0)
  front_listed : {lines : List Line} → (parse text).number ≡ 0 → Fits (parse text).task places → Front (parse text).task lines
      → Prints text (lines_printed lines)

-- what is printed stands at the front of the output, which keeps what is beyond, and has r bytes
pub record AnswerPut (text before after : List ℕ) (r : ℕ) : Type 0 where
  pub printed : List ℕ
  pub prints : Prints text printed
  pub output : after ≡ printed ++ drop (length printed) before
  pub bytes : r ≡ length printed
