-- The questions of the answer call: those about places, record and plans, and the stage after them.
use Rattle.std.specs.Prelude.{◌≡◌, refl, Bool, List, [], ◌++◌, map, ℕ, leb, Ok, Err}
use Rattle.std.proofs.Common.{sym, ◌∙◌, arith, leb-true}
use Rattle.std.proofs.Math.Path.{ap}
use Rattle.strips.specs.Task.{leader_actions}
use Rattle.strips.specs.declared.Task.{Task}
use Rattle.outcome.specs.Answer.{minutes}
use Rattle.outcome.specs.Refusal.{number_of, place_of}
use Rattle.outcome.specs.Laws.Refusal.{number_some}
use Rattle.outcome.specs.declared.Refusal.{Refusal}
use Rattle.replay.specs.Replay.{refused, ran, end_state, replayed}
use Rattle.replay.specs.Replay as replay
use Rattle.replay.specs.Laws.Replay.{BothRun, replayed_runs}
use Rattle.replay.specs.declared.Ended.{Ended}
use Rattle.search.specs.Reachable.{Reach}
use Rattle.search.specs.Laws.Reachable.{reach_leader}
use Rattle.rows.specs.Laws.Cleared.{everywhere_same, zeros_same}
use Rattle.questions.specs.Lent.{Lent, over}
use Rattle.questions.specs.Size.{SizesAllowed}
use Rattle.questions.specs.Memory.{Slice, Memory, is_one_of, before_use, cleared, places, nothing, leaves, memory}
use Rattle.questions.specs.Memory as lent
use Rattle.questions.specs.Asked.{no_to, yes_to}
use Rattle.questions.specs.Record.{record_asks}
use Rattle.questions.specs.Call.{Returned, Ends, place, Stage, Promise}
use Rattle.questions.specs.Call as call
use Rattle.questions.specs.Laws.Asked.{asked_map, each_by}
use Rattle.questions.specs.Laws.Replay.{plans_asks, replay_asked}
use Rattle.questions.specs.Laws.Workspace.{from_to, four_cleared}
use Rattle.questions.specs.Workspace.{slices_in, SameSlices}
use Rattle.questions.specs.declared.workspace.Workspace.{Workspace}
use Rattle.planner.specs.AnswerCall.{AnswerSteps, answer_call, returned}
use Rattle.planner.specs.Inner.Answer.{response_asks, slice, refusal, AnswerAsked}

-- what a replay returned
module _ (t : Task) (p : List ℕ) where
  pub told_ran : {e : Ended} → replay.returned (Ok e) ≡ replayed t p [] → ran e.price.0 e.minutes.0 e.state e.goal ≡ replayed t p []
  unfolding replay.returned
  told_ran g = g

  pub told_refused : (q : Refusal) → replay.returned (Err q) ≡ replayed t p [] → refused (number_of q) (place_of q) ≡ replayed t p []
  unfolding replay.returned
  told_refused q g = g

-- a replay ran: the plan leads to this state
module _ (t : Task) (p : List ℕ) {price cost s : ℕ} {goal : Bool} (e : ran price cost s goal ≡ replayed t p []) where
  runs : BothRun t p []
  runs = replayed_runs t p [] (sym (ap (λ (r : replay.Returned). r.number) e))

  pub ran_state : s ≡ end_state (leader_actions t) t.initial p
  unfolding end_state
  ran_state = ap (λ (r : replay.Returned). r.state) e ∙ runs.state

  pub ran_reach : Reach t s
  ran_reach = rw ran_state (reach_leader runs.leader)

module _ (slices : Lent (List Slice)) (plan : Lent (List ℕ)) (e : slices.after ≡ map cleared slices.before) where
  left : (o : List ℕ) → plan.after ≡ over o plan.before
      → (memory slices lent.none plan lent.none).after
      ≡ record { slices = map cleared slices.before; entries = []; plans = over o plan.before; text = [] }
  left o f = λ i. record { slices = e i; entries = []; plans = f i; text = [] }

  -- the last stage, when they have been cleared
  pub answer_stage : (t : Task) (p : List ℕ) {r : Returned AnswerSteps} → AnswerAsked t p (map places slices.before) plan r
      → Stage (answer_call t p) response_asks (memory slices lent.none plan lent.none) r
  answer_stage t p = asked_map
      (λ z. record { returns = z.0; leaves = left [] z.1 }, (λ z. record { returns = z.0; leaves = left [] z.1 }, tt))
      (λ d. record { it = d.it; found = d.found; holds = record { returns = d.holds.0; leaves = left d.it.plan d.holds.1 } })

-- the same, where a search has kept the slices, and they have been cleared then
pub stage_cleared : {w w₁ : Workspace} → SameSlices (from_to w w₁) → {after : List Slice} → after ≡ map cleared (slices_in (from_to w₁ w₁)).before
    → {plan : Lent (List ℕ)} (t : Task) (p : List ℕ) {r : Returned AnswerSteps}
    → AnswerAsked t p (map places (slices_in (from_to w w)).before) plan r
    → Stage (answer_call t p) response_asks (memory (record { before = (slices_in (from_to w w)).before; after = after }) lent.none plan lent.none) r
stage_cleared {w} same e = answer_stage _ _ (e ∙ four_cleared w.states.now w.index.now w.links.now w.rows.now (zeros_same _ _ same.state_places)
    (everywhere_same _ _ _ same.index_places) (everywhere_same _ _ _ same.link_places) (everywhere_same _ _ _ same.row_places))

-- what is returned and left where a replay says that question n gets no
abbrev RefusedBy : Task → List ℕ → Lent Memory → Returned AnswerSteps → ℕ → Type 0
RefusedBy t p m r n =
    replayed t p [] ≡ refused n (place (answer_call t p) n) → Ends m r (call.refused (answer_call t p) n) (leaves n nothing m.before)

-- the questions that it asks
abbrev replay_asks : List ℕ
replay_asks = record_asks ++ plans_asks

module _ (t : Task) (p : List ℕ) (slices : List Slice) (plan : List ℕ) where
  abbrev untouched : Lent Memory
  untouched = memory (record { before = slices; after = slices }) lent.none (slice plan plan) lent.none

  -- question 8
  pub sizes_refused : (SizesAllowed (map places slices) → ⊥) → Promise (answer_call t p) untouched (refusal 8)
  sizes_refused out = no_to {q = 8} out (record { returns = refl; leaves = refl })

  -- questions 9 to 12
  pub replay_refused : SizesAllowed (map places slices) → (q : Refusal) → refused (number_of q) (place_of q) ≡ replayed t p []
      → Promise (answer_call t p) untouched (returned (Err q))
  replay_refused ok q e = yes_to {q = 8} ok (replay_asked (answer_call t p) _
      (λ z. absurd (omega (arith, number_some q, ap (λ (r : replay.Returned). r.number) e, z)))
      (each_by {P = RefusedBy t p untouched (returned (Err q))} (λ n. is_one_of n before_use)
      (λ n h f. record {
        returns = ap (λ (r : replay.Returned). record { number = r.number; place = r.place; values = record { answer = minutes 0; steps = 0 } }) (e ∙ f);
        leaves = rw h refl;
      })
      replay_asks refl))

-- all of these have their yes
pub replay_ran : (t : Task) (p : List ℕ) (m : Lent Memory) {price cost s : ℕ} {goal : Bool} {r : Returned AnswerSteps}
    → SizesAllowed (map places m.before.slices) → ran price cost s goal ≡ replayed t p [] → Stage (answer_call t p) response_asks m r
    → Promise (answer_call t p) m r
replay_ran t p m {r = r} ok e stage = yes_to {q = 8} ok (replay_asked (answer_call t p) _ (λ z. stage)
    (each_by {P = RefusedBy t p m r} (leb 1)
    (λ n h f. absurd (omega (arith, leb-true 1 n h, ap (λ (x : replay.Returned). x.number) (e ∙ f)))) replay_asks refl))
