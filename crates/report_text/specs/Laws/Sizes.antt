-- The bytes of a front's text, part by part.
use Rattle.std.specs.Prelude.{◌≡◌, refl, List, [], ◌∷◌, ◌++◌, ℕ, ◌+◌, ◌*◌, ◌≤◌, ◌<◌, length, get_or, drop}
use Rattle.std.proofs.Common.{sym, ap, ◌∙◌, arith, add-one, length-append, drop-cons}
use Rattle.outcome.specs.Limits.{max_number}
use Rattle.outcome.specs.Answer.{Value, minutes, none, value_of}
use Rattle.task_format.specs.Text.{newline, comma}
use Rattle.task_format.specs.Lines.{outages_key, moves_key}
use Rattle.pareto.specs.Front.{Line}
use Rattle.outcome.specs.declared.Entry.{Entry}
use Rattle.pareto.specs.Layout.{answer_for, entry_for}
use Rattle.report_text.specs.Report.{entries_key, price_key, answer_key, numeral, further_text, plan_text, answer_text, printed}
use Rattle.report_text.specs.Report.{line_text, lines_text, head_text, report_text, refused_key, line_key, refusal_text}
use Rattle.report_text.specs.Entries.{line_of, entry_bytes}
use Rattle.text_output.specs.Puts.{number_digits}
use Rattle.report_text.specs.Laws.Numerals.{numeral_short, number_few}

-- ---- numbers

pub digits_one : (n : ℕ) → n < 10 → length (numeral n) ≡ 1
digits_one n h = ap length (numeral_short n h)

-- ---- plans

pub further_turn : (plan : List ℕ) (i : ℕ) → i < length plan
    → further_text (drop i plan) ≡ comma ∷ (numeral (get_or plan i 0) ++ further_text (drop (i + 1) plan))
unfolding further_text
further_turn plan i h = rw (add-one i, drop-cons plan i 0 h) refl

pub further_length : (plan : List ℕ) (i : ℕ) → i < length plan
    → length (further_text (drop i plan)) ≡ 1 + length (numeral (get_or plan i 0)) + length (further_text (drop (i + 1) plan))
further_length plan i h = ap length (further_turn plan i h)
    ∙ omega (arith, length-append (numeral (get_or plan i 0)) (further_text (drop (i + 1) plan)))

-- ---- lines

pub printed_length : (key v : List ℕ) → length (printed key v) ≡ length key + length v + 1
unfolding printed
printed_length key v = omega (arith, length-append key (v ++ (newline ∷ [])), length-append v (newline ∷ []))

pub four_length : (l : Line) → length (line_text l)
    ≡ length (printed price_key (numeral l.price))
    + (length (printed answer_key (answer_text l.answer))
    + (length (printed outages_key (plan_text l.leader_plan)) + length (printed moves_key (plan_text l.follower_plan))))
unfolding line_text
four_length l =
    let price = printed price_key (numeral l.price) in
    let answer = printed answer_key (answer_text l.answer) in
    let outages = printed outages_key (plan_text l.leader_plan) in
    let moves = printed moves_key (plan_text l.follower_plan) in
    omega (arith, length-append price (answer ++ (outages ++ moves)), length-append answer (outages ++ moves), length-append outages moves)

line_length : (l : Line) → length (line_text l)
    ≡ 31 + length (numeral l.price) + length (answer_text l.answer) + length (plan_text l.leader_plan) + length (plan_text l.follower_plan)
line_length l =
    omega (
      arith,
      four_length l,
      printed_length price_key (numeral l.price),
      printed_length answer_key (answer_text l.answer),
      printed_length outages_key (plan_text l.leader_plan),
      printed_length moves_key (plan_text l.follower_plan),
    )

pub entry_bytes_lem : (e : Entry) → entry_bytes e ≡ 31 + length (numeral e.price.0) + length (answer_text (value_of e.answer))
unfolding entry_bytes plan_text
entry_bytes_lem e = line_length (line_of e [] []) ∙ omega arith

answer_back : (a : Value) → value_of (answer_for a) ≡ a
unfolding answer_for
answer_back (minutes n) = refl
answer_back none = refl

-- the entry of a line with its plans says the line
pub entry_line : (e : Entry) (l : Line) → e ≡ entry_for l → line_of e l.leader_plan l.follower_plan ≡ l
unfolding entry_for
entry_line e l is =
    λ k. record {
      price = ap (λ (x : Entry). x.price.0) is k;
      answer = (ap (λ (x : Entry). value_of x.answer) is ∙ answer_back l.answer) k;
      leader_plan = l.leader_plan;
      follower_plan = l.follower_plan;
    }

pub line_bytes : (e : Entry) (l : Line) → e ≡ entry_for l
    → length (line_text l) ≡ entry_bytes e + length (plan_text l.leader_plan) + length (plan_text l.follower_plan)
line_bytes e l is =
    let whole = line_of e l.leader_plan l.follower_plan in
    ap (λ (x : Line). length (line_text x)) (sym (entry_line e l is)) ∙ omega (arith, line_length whole, entry_bytes_lem e)

-- ---- the whole text

pub head_length : (count : ℕ) → length (head_text count) ≡ 9 + length (numeral count)
unfolding head_text
head_length count = omega (arith, printed_length entries_key (numeral count))

pub lines_none : length (lines_text []) ≡ 0
unfolding lines_text
lines_none = refl

pub lines_more : (l : Line) (ls : List Line) → length (lines_text (l ∷ ls)) ≡ length (line_text l) + length (lines_text ls)
unfolding lines_text
lines_more l ls = length-append (line_text l) (lines_text ls)

pub report_length : (ls : List Line) → length (report_text ls) ≡ length (head_text (length ls)) + length (lines_text ls)
unfolding report_text
report_length ls = length-append (head_text (length ls)) (lines_text ls)

-- ---- refusals

pub refusal_length : (number place : ℕ) → length (refusal_text number place)
    ≡ length (printed refused_key (numeral number)) + length (printed line_key (numeral place))
unfolding refusal_text
refusal_length number place = length-append (printed refused_key (numeral number)) (printed line_key (numeral place))

-- of 32-bit numbers: 15 bytes are the keys and newlines
pub refusal_few : (number place : ℕ) → number ≤ max_number → place ≤ max_number → length (refusal_text number place) ≤ 15 + 2 * number_digits
refusal_few number place h l =
    let first = printed_length refused_key (numeral number) in
    let second = printed_length line_key (numeral place) in
    omega (arith, refusal_length number place, first, second, number_few number h, number_few place l)
