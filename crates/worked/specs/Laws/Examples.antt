-- Every example of the table passes its test, and so what it claims is so.
use Rattle.std.specs.Prelude.{◌≡◌, refl, true, ℕ, eqb, leb, length}
use Rattle.std.proofs.Common.{ap, ◌∙◌, ⊎_elim, arith, eqb-true, leb-true, ltb-true}
use mathlib.Core.List.{List, [], ◌∷◌, ◌++◌}
use Rattle.std.proofs.Math.Logic.Dec
use Rattle.std.proofs.Math.Decide.{ℕ_discrete, dec_le, dec_lt}
use Rattle.strips.specs.Decision.{ask, says, dec_equivalent, dec_when, dec_all_below}
use Rattle.strips.specs.State.{dec_holds, after}
use Rattle.strips.specs.Task.{leader_actions, follower_actions}
use Rattle.strips.specs.Plan.{dec_known, cost}
use Rattle.strips.specs.Laws.Decision.{said_yes}
use Rattle.strips.specs.Deciders.{dec_valid, dec_places, dec_unused, dec_proper, dec_within}
use Rattle.outcome.specs.Answer.{Value, up_to}
use Rattle.outcome.specs.Laws.Answers.{up_to_is}
use Rattle.pareto.specs.Front.{Line}
use Rattle.replay.specs.Replay.{replayed, passing, end_state}
use Rattle.task_format.specs.Text.{newline, split, begins}
use Rattle.task_format.specs.Value.{decimal_from, members, set_of, content, InForm, Filled, Unpadded, InRange, Ascending}
use Rattle.task_format.specs.Lines.{key_of, kind_of, stored, with_action, action_key, part_of, action_field, field}
use Rattle.task_format.specs.Parse.{parse, follow, judged, fault, zeros}
use Rattle.task_format.specs.Deciders.{dec_same, dec_at_most, dec_true, dec_either, dec_empty, dec_all, dec_between, dec_rises_from, dec_rises, dec_digit}
use Rattle.task_format.specs.Deciders.{dec_present, dec_short, dec_no_leading_zero, dec_in_form, dec_filled, dec_unpadded, dec_in_range, dec_ascending}
use Rattle.task_format.specs.Render.{digits_of, facts_of, listed, value_text, line_text, lines_text, render}
use Rattle.round_trip.specs.Theorems.{written_read, written_cut_read}
use Rattle.worked.specs.Check.{both, either, every, some, every_up_to, when, same_list, same_value, below, holds, not_later, at_most, runs_to, serves, closed}
use Rattle.worked.specs.Check.{tabled, responds, answered, rises, stands, covers, attack_nodes, is_front, among, not, distinct, is_reach}
use Rattle.worked.specs.Laws.Tests.{both_first, both_second, either_of, same_list_lem, runs_to_lem}
use Rattle.worked.specs.Laws.Sound.{attack_response, front_is, reach_is}
use Rattle.worked.specs.Examples.{Example, front, reach, replay, refusal, file, covered, Claims, test, act, hall, worked, node, attack, line, attacks, second}
use Rattle.worked.specs.Examples.{lines, text, first_covers, FirstCovers, examples}

pub all_pass : every test examples ≡ true
unfolding every test examples both either some every_up_to when same_list same_value up_to below holds not_later at_most runs_to serves closed tabled responds
    answered rises stands covers attack_nodes is_front among not distinct is_reach act hall worked node attack line attacks second lines text
    first_covers render lines_text line_text value_text listed facts_of digits_of field action_field part_of action_key parse follow judged fault zeros
    content decimal_from members set_of InForm Filled Unpadded InRange Ascending key_of kind_of stored with_action split begins dec_digit dec_present
    dec_short dec_no_leading_zero dec_either dec_empty dec_all dec_between dec_rises_from dec_rises dec_in_form dec_filled dec_unpadded dec_in_range
    dec_ascending dec_same dec_at_most dec_true replayed passing end_state ask says
    leader_actions follower_actions dec_holds after cost ℕ_discrete dec_le dec_lt dec_valid dec_places dec_unused dec_proper dec_within dec_when
    dec_all_below Dec.and dec_equivalent dec_known
all_pass = refl

first_covers_lem : (ls : List Line) (price : ℕ) (a : Value) → first_covers ls price a ≡ true → FirstCovers ls price a
unfolding first_covers
first_covers_lem [] price a e = absurd (let z : ◌≡◌ {A = ℕ} 0 1 = cc in omega arith)
first_covers_lem (l ∷ ls) price a e = (leb-true l.price price (both_first _ _ e), up_to_is a l.answer (both_second (leb l.price price) _ e))

-- what passes its test is so
pub sound : (e : Example) → test e ≡ true → Claims e
unfolding test
sound (front t attacks lines) e = front_is t attacks lines e
sound (reach t attacks states enough short) e =
    let checked = both_first (is_reach t attacks states) _ e in
    let sizes = both_second (is_reach t attacks states) _ e in (
      (reach_is t attacks states checked enough).0 (leb-true _ _ (both_first (leb (length states) enough) _ sizes)),
      (reach_is t attacks states checked short).1 (ltb-true _ _ (both_second (leb (length states) enough) _ sizes)),
    )
sound (replay t p q number place) e = (eqb-true _ _ (both_first _ _ e), eqb-true _ _ (both_second (eqb (replayed t p q).number number) _ e))
sound (refusal text number place) e = (eqb-true _ _ (both_first _ _ e), eqb-true _ _ (both_second (eqb (parse text).number number) _ e))
sound (file t text n) e =
    let long = both_first (eqb (length text) n) _ e in
    let rest = both_second (eqb (length text) n) _ e in
    let valid = said_yes (dec_valid t) (both_first _ _ rest) in (
      eqb-true _ _ long,
      ⊎_elim (λ same. ap parse (same_list_lem text (render t) same) ∙ written_read t valid)
          (λ same. written_cut_read t valid text (same_list_lem (text ++ (newline ∷ [])) (render t) same))
          (either_of (same_list text (render t)) _ (both_second (says (dec_valid t)) _ rest)),
    )
sound (covered t attacks lines x price) e =
    let costs = eqb (cost (leader_actions t) x.node.plan) price in
    let runs = runs_to (leader_actions t) t.initial x.node.plan x.node.state in
    let more = both_second (is_front t attacks lines) _ e in
    let rest = both_second costs _ more in
    let attacked = both_first (both runs (answered t x)) _ rest in (
      front_is t attacks lines (both_first (is_front t attacks lines) _ e),
      eqb-true _ _ (both_first costs _ more),
      record {
        end = x.node.state;
        attacks = runs_to_lem (leader_actions t) t.initial x.node.plan x.node.state (both_first runs _ attacked);
        plan = x.response;
        response = attack_response t x (both_second runs _ attacked);
      },
      first_covers_lem lines price x.answer (both_second (both runs (answered t x)) _ rest),
    )
