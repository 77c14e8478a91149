-- Different lists of lines have different texts.
use Rattle.std.specs.Prelude.{◌≡◌, refl, ℕ, length}
use Rattle.std.proofs.Common.{sym, ap, ◌∙◌, arith}
use mathlib.Core.List.{List, [], ◌∷◌, ◌++◌}
use Rattle.outcome.specs.Answer.{Value, minutes, none}
use Rattle.task_format.specs.Text.{newline}
use Rattle.task_format.specs.Lines.{outages_key, moves_key}
use Rattle.task_format.specs.Laws.Decimal.{Without}
use Rattle.pareto.specs.Front.{Line}
use Rattle.report_text.specs.Report.{price_key, answer_key, entries_key, numeral, answer_text, line_text, lines_text, head_text, report_text}
use Rattle.report_text.specs.Laws.Numerals.{numeral_injective}
use Rattle.report_text.specs.Laws.Injective.{numeral_without, plan_injective, plan_plain, printed_cut, no_number, four, line_some}

-- ---- answers

pub answer_injective : (a b : Value) → answer_text a ≡ answer_text b → a ≡ b
unfolding answer_text
answer_injective (minutes m) (minutes n) e = ap minutes (numeral_injective m n e)
answer_injective (minutes m) none e = absurd (no_number m e)
answer_injective none (minutes n) e = absurd (no_number n (sym e))
answer_injective none none e = refl

number_plain : (n : ℕ) → Without newline (numeral n)
number_plain n = numeral_without newline n (omega arith)

answer_plain : (a : Value) → Without newline (answer_text a)
unfolding answer_text
answer_plain (minutes n) = number_plain n
answer_plain none = ((λ e. omega (arith, e)), ((λ e. omega (arith, e)), ((λ e. omega (arith, e)), ((λ e. omega (arith, e)), tt))))

-- ---- lines

line_cut : (l m : Line) (x y : List ℕ) → line_text l ++ x ≡ line_text m ++ y → (l ≡ m) × (x ≡ y)
line_cut l m x y e =
    let p = printed_cut price_key _ _ _ _ (number_plain l.price) (number_plain m.price) (sym (four l x) ∙ e ∙ four m y) in
    let a = printed_cut answer_key _ _ _ _ (answer_plain l.answer) (answer_plain m.answer) p.rest in
    let o = printed_cut outages_key _ _ _ _ (plan_plain l.leader_plan) (plan_plain m.leader_plan) a.rest in
    let f = printed_cut moves_key _ _ _ _ (plan_plain l.follower_plan) (plan_plain m.follower_plan) o.rest in (
      (λ k. record {
        price = numeral_injective l.price m.price p.first k;
        answer = answer_injective l.answer m.answer a.first k;
        leader_plan = plan_injective l.leader_plan m.leader_plan o.first k;
        follower_plan = plan_injective l.follower_plan m.follower_plan f.first k;
      }),
      f.rest,
    )

lines_injective : (xs ys : List Line) → lines_text xs ≡ lines_text ys → xs ≡ ys
unfolding lines_text
lines_injective [] [] e = refl
lines_injective [] (m ∷ ys) e = absurd (omega (arith, ap length e, line_some m (lines_text ys)))
lines_injective (l ∷ xs) [] e = absurd (omega (arith, ap length e, line_some l (lines_text xs)))
lines_injective (l ∷ xs) (m ∷ ys) e = let r = line_cut l m (lines_text xs) (lines_text ys) e in λ k. r.0 k ∷ lines_injective xs ys r.1 k

pub report_injective : (xs ys : List Line) → report_text xs ≡ report_text ys → xs ≡ ys
unfolding report_text head_text
report_injective xs ys e =
    lines_injective xs ys (printed_cut entries_key _ _ (lines_text xs) (lines_text ys) (number_plain (length xs)) (number_plain (length ys)) e).rest
