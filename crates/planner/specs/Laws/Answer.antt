-- Questions 13 and 15, and the answer, from the row that the search has found.
use Rattle.std.specs.Prelude.{◌≡◌, refl, List, ◌++◌, ℕ, ◌-◌, ◌/◌, ◌%◌, ◌≤◌, ◌<◌, length, get_or, take, drop, Option, None, Some, Result, Ok, Err}
use Rattle.std.proofs.Common.{sym, ap, subst, ◌∙◌, arith, length-take-le}
use Rattle.strips.specs.Task.{leader_actions}
use Rattle.strips.specs.declared.Task.{Task}
use Rattle.outcome.specs.Answer.{Value, minutes, none}
use Rattle.outcome.specs.declared.Refusal.{Refusal}
use Rattle.replay.specs.Replay.{end_state}
use Rattle.search.specs.Limits.{key_base}
use Rattle.search.specs.Reachable.{Fits}
use Rattle.search.specs.Response.{Response}
use Rattle.least_plans.specs.Links.{plan_of, key_steps}
use Rattle.least_plans.specs.Found.{keys_in, links_in}
use Rattle.least_plans.specs.Laws.Links.{length_back}
use Rattle.questions.specs.Lent.{over}
use Rattle.questions.specs.Size.{shortest}
use Rattle.questions.specs.Asked.{no_to, yes_to, answered}
use Rattle.planner.specs.AnswerCall.{AnswerPlan, returned}
use Rattle.planner.specs.Inner.Response.{ResponseEnd}
use Rattle.planner.specs.Inner.Answer.{slice, refusal, answer_of, AnswerAsked, PlanReady, RowAnswered}

-- the row of a search has a plan
pub plan_ready : (t : Task) (s places : ℕ) (R : List (List ℕ)) (found : Result (Option ℕ) Refusal) → ResponseEnd t s places R found → PlanReady R found
plan_ready t s places R (Ok None) g = tt
plan_ready t s places R (Ok (Some i)) g = g.1.plan
plan_ready t s places R (Err e) g = tt

-- in the first n of the rows
pub end_within : (t : Task) (s : ℕ) (found : Result (Option ℕ) Refusal) (n : ℕ) (R : List (List ℕ)) → n ≤ length R → ResponseEnd t s n (take n R) found
    → ResponseEnd t s (length (take n R)) (take n R) found
end_within t s found n R h x = subst (λ (k : ℕ). ResponseEnd t s k (take n R) found) (sym (length-take-le n R h)) x

-- from the state that a leader plan leads to
pub end_from : (t : Task) {s s' : ℕ} (places : ℕ) (R : List (List ℕ)) (found : Result (Option ℕ) Refusal) → s ≡ s' → ResponseEnd t s places R found
    → ResponseEnd t s' places R found
end_from t places R found e x = rw e at x

-- question 13 has its yes, and a response has been found
module _ (t : Task) (p sizes : List ℕ) {n : ℕ} (e : shortest sizes ≡ n) (f : Fits t n) {v : Value} {q : List ℕ}
    (x : Response t (end_state (leader_actions t) t.initial p) v q) (plan : List ℕ) where
  abbrev it : AnswerPlan
  it = record { answer = v; plan = q }

  -- question 15
  no_room : length plan < length q → AnswerAsked t p sizes (slice plan plan) (refusal 15)
  no_room l = yes_to {q = 13} (rw e f) (no_to {q = 15} (record { it = it; found = x; holds = λ z. omega (arith, z) }) (refl, refl))

  -- none is refused
  all_room : length q ≤ length plan → {after : List ℕ} → after ≡ over q plan → AnswerAsked t p sizes (slice plan after) (answer_of v (length q))
  all_room l w =
      yes_to {q = 13} (rw e f) (yes_to {q = 15} (record { it = it; found = x; holds = l }) (answered (record { it = it; found = x; holds = (refl, w) })))

module _ (R : List (List ℕ)) where
  -- question 13
  pub states_refused : {plan : List ℕ} (e : Refusal) → RowAnswered R (Err e) (slice plan plan) (returned (Err e))
  states_refused e t p sizes z g = rw g.0 (no_to {q = 13} (λ x. g.1 (rw z at x)) (refl, refl))

  pub none_answered : {plan : List ℕ} → RowAnswered R (Ok None) (slice plan plan) (answer_of none 0)
  none_answered {plan} t p sizes e g = all_room t p sizes e g.0 g.1 plan (omega arith) refl

  module _ (i : ℕ) {k : ℕ} (is : k ≡ get_or (keys_in R) i 0 - 1) (plan : List ℕ) where
    abbrev found_plan : List ℕ
    found_plan = plan_of (keys_in R) (links_in R) i

    steps : length found_plan ≡ k % key_base
    steps = length_back (links_in R) (key_steps (keys_in R) i) i ∙ ap (λ (n : ℕ). n % key_base) (sym is)

    pub plan_refused : length plan < k % key_base → RowAnswered R (Ok (Some i)) (slice plan plan) (refusal 15)
    plan_refused l t p sizes e g = no_room t p sizes e g.0 g.1.response plan (omega (arith, steps))

    pub plan_written : k % key_base ≤ length plan → {n : ℕ} → n ≡ key_steps (keys_in R) i → {after : List ℕ} → after ≡ found_plan ++ drop n plan
        → RowAnswered R (Ok (Some i)) (slice plan after) (answer_of (minutes (k / key_base)) (k % key_base))
    plan_written l m {after} w t p sizes e g =
        let x : Response t (end_state (leader_actions t) t.initial p) (minutes (k / key_base)) found_plan = rw is g.1.response in
        let w' = w ∙ ap (λ (j : ℕ). found_plan ++ drop j plan) (m ∙ ap (λ (j : ℕ). j % key_base) (sym is) ∙ sym steps) in
        rw (← steps) (all_room t p sizes e g.0 x plan (omega (arith, steps)) w')
