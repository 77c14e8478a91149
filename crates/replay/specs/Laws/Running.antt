-- A plan run step by step: from its start, over a step that applies, and where it ends.
use Rattle.std.specs.Prelude.{◌≡◌, refl, List, ℕ, ◌+◌, ◌*◌, ◌≤◌, ◌<◌, min, length, get_or, take}
use Rattle.std.proofs.Common.{sym, ap, ◌∙◌, arith, take_all}
use Rattle.strips.specs.Limits.{max_cost, max_steps}
use Rattle.strips.specs.State.{Applies, after}
use Rattle.strips.specs.Plan.{Known, action, cost}
use Rattle.strips.specs.declared.Action.{Action}
use Rattle.outcome.specs.Limits.{max_number}
use Rattle.outcome.specs.declared.Refusal.TheVariants.{NotApplicable}
use Rattle.replay.specs.Replay.{applied_steps, end_state}
use Rattle.replay.specs.Run.{Runnable, Running, Ran, Stuck}
use Rattle.replay.specs.Laws.Steps.{known_each, applied_more, applied_no_more, applied_end, end_more, cost_more}
use Rattle.replay.specs.declared.steps.Progress.{Progress}

-- the costs of a plan's steps stay below the largest number: there `plus` gives the plain sum
plain_sum : (i c a : ℕ) → i < max_steps → c ≤ i * max_cost → a ≤ max_cost → min (c + a) max_number ≡ c + a
plain_sum i c a h l k = omega arith

pub running_start : (acts : List Action) (s : ℕ) (p : List ℕ) {c : ℕ} → c ≡ 0 → Running acts s p 0 s c
unfolding end_state cost
running_start acts s p free = record { ahead = omega arith; state = refl; sum = free; low = omega arith }

-- at step i of a plan that can be run
module _ {acts : List Action} {p : List ℕ} (ok : Runnable acts p) {i : ℕ} (h : i < length p) where
  pub step_known : Known (length acts) (get_or p i 0)
  step_known = known_each (length acts) p ok.known i h

  module _ {s s' c : ℕ} (so_far : Running acts s p i s' c) where
    abbrev a : Action
    a = action acts (get_or p i 0)

    pub running_more : {c' : ℕ} → Applies a s' → c' ≡ min (c + a.cost) max_number → Running acts s p (i + 1) (after a s') c'
    running_more {c'} d e = record {
      ahead = omega (arith, so_far.ahead, applied_more acts s' p i h d);
      state = sym (end_more acts s p i h ∙ rw (← so_far.state) refl);
      sum = omega (arith, added, so_far.sum, cost_more acts s p i h);
      low = omega (arith, cheap, added, so_far.low);
    }
      where
        cheap : a.cost ≤ max_cost
        cheap = ok.priced _ (omega (arith, step_known))

        added : c' ≡ c + a.cost
        added = e ∙ plain_sum i c a.cost (omega (arith, ok.short)) so_far.low cheap

    pub running_stops : (earlier : ℕ) → (Applies a s' → ⊥) → Stuck acts s p earlier (NotApplicable (earlier + i + 1))
    running_stops earlier n =
        let here : applied_steps acts s p ≡ i = omega (arith, so_far.ahead, applied_no_more acts s' p i h n) in
        record { before = omega arith; refusal = ap (λ k. NotApplicable (earlier + k + 1)) (sym here) }

pub running_ends : {C : Type 0} (amount : C → ℕ) (acts : List Action) (s : ℕ) (p : List ℕ) (r : Progress C)
    → Running acts s p (length p) r.state (amount r.cost) → Ran amount acts s p r
running_ends amount acts s p r so_far =
    let whole : take (length p) p ≡ p = take_all (length p) p (omega arith) in
    record {
      steps = omega (arith, so_far.ahead, applied_end acts r.state p);
      state = so_far.state ∙ ap (end_state acts s) whole;
      cost = so_far.sum ∙ ap (cost acts) whole;
    }
