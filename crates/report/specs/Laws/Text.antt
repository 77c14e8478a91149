-- The text put line by line: the plans of the lines that are left come next in the plan numbers.
use Rattle.std.specs.Prelude.{◌≡◌, ℕ, ◌+◌, ◌≤◌, ◌<◌, drop}
use Rattle.std.proofs.Math.Path.{refl, ap}
use Rattle.std.proofs.Common.{sym, ◌∙◌, add-one, arith, drop_of_length-le, drop-drop, drop_at}
use mathlib.Core.List.{List, [], ◌∷◌, ◌++◌, append_assoc}
use Rattle.std.proofs.Math.ListN.{length, length-append}
use Rattle.std.proofs.Math.Seq.{drop-cons}
use Rattle.outcome.specs.declared.Entry.{Entry}
use Rattle.pareto.specs.Front.{Line}
use Rattle.pareto.specs.Layout.{entry_for, plans_for}
use Rattle.front_lines.specs.Lines.{line_number}
use Rattle.text_output.specs.Puts.{HasRoom, Puts}
use Rattle.text_output.specs.declared.Output.{Output}
use Rattle.text_output.specs.Laws.Puts.{puts_append, Left, left_start, left_room, left_more, left_none}
use Rattle.report_text.specs.Report.{line_text, lines_text, head_text, report_text}
use Rattle.report_text.specs.Entries.{entry_steps, line_from}
use Rattle.report_text.specs.Laws.Entries.{leader_steps, follower_steps, line_from_lem}
use Rattle.report.specs.Inner.Text.{PlansFirst}

-- the next line, whose plans are the first of the plan numbers
module _ {rest : List ℕ} (beyond : List ℕ) (l : Line) (ls : List Line) (a : rest ≡ plans_for (l ∷ ls) ++ beyond) (e : Entry) (is : e ≡ entry_for l) where
  parts : rest ≡ l.leader_plan ++ (l.follower_plan ++ (plans_for ls ++ beyond))
  unfolding plans_for
  parts =
      a ∙ append_assoc l.leader_plan (l.follower_plan ++ plans_for ls) beyond
      ∙ ap (λ (p : List ℕ). l.leader_plan ++ p) (append_assoc l.follower_plan (plans_for ls) beyond)

  lead : length l.leader_plan ≡ e.leader_steps
  lead = rw is (sym (leader_steps l))

  follow : length l.follower_plan ≡ e.follower_steps
  follow = rw is (sym (follower_steps l))

  pub line_fits : entry_steps e ≤ length rest
  line_fits =
      let both = length-append l.leader_plan (l.follower_plan ++ (plans_for ls ++ beyond)) in
      omega (arith, lead, follow, ap length parts, both, length-append l.follower_plan (plans_for ls ++ beyond))

  pub line_is : line_from e rest ≡ l
  line_is = ap (line_from e) parts ∙ line_from_lem l e is (plans_for ls ++ beyond)

  -- behind them are those of the others
  pub plans_next : drop (entry_steps e) rest ≡ plans_for ls ++ beyond
  plans_next =
      sym (drop-drop e.follower_steps e.leader_steps rest)
      ∙ ap (drop e.follower_steps) (ap (drop e.leader_steps) parts ∙ drop_at l.leader_plan (l.follower_plan ++ (plans_for ls ++ beyond)) e.leader_steps lead)
      ∙ drop_at l.follower_plan (plans_for ls ++ beyond) e.follower_steps follow

pub lines_turn : (l : Line) (ls : List Line) → lines_text (l ∷ ls) ≡ line_text l ++ lines_text ls
unfolding lines_text
lines_turn l ls = refl

lines_end : lines_text [] ≡ []
unfolding lines_text
lines_end = refl

module _ (lines : List Line) (o : Output) where
  -- the lines before place k are put into o, and the plan numbers that are left begin with the plans of the others
  pub record InTurn (k : ℕ) (rest : List ℕ) (p : Output) : Type 0 where
    pub ahead : PlansFirst (drop k lines) rest
    pub left : Left (lines_text lines) o (lines_text (drop k lines)) p

  pub turn_start : {plans : List ℕ} → PlansFirst lines plans → InTurn 0 plans o
  turn_start first = record { ahead = first; left = left_start (lines_text lines) o }

  module _ {k : ℕ} {rest : List ℕ} {p : Output} (t : InTurn k rest p) where
    module _ (h : k < length lines) (e : Entry) (is : e ≡ entry_for (line_number lines k)) where
      this : Line
      this = line_number lines k

      others : List Line
      others = drop (k + 1) lines

      next : drop k lines ≡ this ∷ others
      unfolding this others
      next = rw (add-one k) (drop-cons lines k _ h)

      ahead : rest ≡ plans_for (this ∷ others) ++ t.ahead.0
      ahead = rw next at t.ahead.1

      text : lines_text (drop k lines) ≡ line_text this ++ lines_text others
      text = ap lines_text next ∙ lines_turn this others

      pub turn_fits : entry_steps e ≤ length rest
      unfolding this
      turn_fits = line_fits t.ahead.0 this others ahead e is

      pub turn_room : HasRoom (lines_text lines) o → HasRoom (line_text (line_from e rest)) p
      unfolding this
      turn_room room = rw (line_is t.ahead.0 this others ahead e is) (left_room t.left (line_text this) (lines_text others) text room)

      pub turn_more : {q : Output} → Puts (line_text (line_from e rest)) p q → InTurn (k + 1) (drop (entry_steps e) rest) q
      unfolding this others
      turn_more put = record {
        ahead = (t.ahead.0, plans_next t.ahead.0 this others ahead e is);
        left = left_more t.left (line_text this) (lines_text others) text (rw (line_is t.ahead.0 this others ahead e is) at put);
      }

    pub turn_end : length lines ≤ k → Puts (lines_text lines) o p
    turn_end h = left_none t.left (ap lines_text (drop_of_length-le lines h) ∙ lines_end)

-- the first printed line, and then the lines
pub report_puts : (lines : List Line) {o p q : Output} → Puts (head_text (length lines)) o p → Puts (lines_text lines) p q → Puts (report_text lines) o q
unfolding report_text
report_puts lines = puts_append
