-- What a replay returns where a question about the plans' steps gets no, and where none does.
use Rattle.std.specs.Prelude.{◌≡◌, Bool, List, Ok, Err, ℕ, ◌≤◌, length}
use Rattle.std.proofs.Common.{sym, ap, ◌∙◌, arith}
use Rattle.strips.specs.Decision.{says}
use Rattle.strips.specs.Limits.{max_steps}
use Rattle.strips.specs.State.{dec_holds}
use Rattle.strips.specs.Task.{Valid, leader_actions, follower_actions}
use Rattle.strips.specs.declared.Task.{Task}
use Rattle.outcome.specs.declared.Minutes.{Minutes}
use Rattle.outcome.specs.declared.Price.{Price}
use Rattle.outcome.specs.declared.Refusal.{Refusal}
use Rattle.replay.specs.Replay.{returned, refused, replayed}
use Rattle.replay.specs.Run.{Ran, Stuck, AllKnown, Unknown, Numbered}
use Rattle.replay.specs.Laws.Replay.{middle, refuses_11_leader, refuses_11_follower, refuses_12_leader, refuses_12_follower, both_run}
use Rattle.replay.specs.declared.steps.Progress.{Progress}

module _ (t : Task) (p q : List ℕ) where
  module _ (v : Valid t) (l : length p ≤ max_steps) (k : length q ≤ max_steps) where
    pub unknown_leader : {e : Refusal} → Unknown t.leader_count p 0 e → returned (Err e) ≡ replayed t p q
    unfolding returned
    unknown_leader u = rw u.refusal (ap (refused 11) (omega arith) ∙ sym (refuses_11_leader t p q v l k u.before))

    pub unknown_follower : {e : Refusal} → AllKnown t.leader_count p → Unknown t.follower_count q (length p) e → returned (Err e) ≡ replayed t p q
    unfolding returned
    unknown_follower a u = rw u.refusal (sym (refuses_11_follower t p q v l k a u.before))

  module _ (n : Numbered t p q) where
    pub stops_leader : {e : Refusal} → Stuck (leader_actions t) t.initial p 0 e → returned (Err e) ≡ replayed t p q
    unfolding returned
    stops_leader u = rw u.refusal (ap (refused 12) (omega arith) ∙ sym (refuses_12_leader t p q n u.before))

    pub stops_follower : {C : Type 0} {amount : C → ℕ} {r : Progress C} {e : Refusal} → Ran amount (leader_actions t) t.initial p r
        → Stuck (follower_actions t) r.state q (length p) e → returned (Err e) ≡ replayed t p q
    unfolding returned
    stops_follower {e = e} d u =
        let s : Stuck (follower_actions t) (middle t p q) q (length p) e = rw d.state at u in
        rw s.refusal (sym (refuses_12_follower t p q n d.steps s.before))

    pub ends_both : {r : Progress Price} {u : Progress Minutes} {g : Bool} → Ran (λ x. x.0) (leader_actions t) t.initial p r
        → Ran (λ x. x.0) (follower_actions t) r.state q u
        → g ≡ says (dec_holds u.state t.goal) → returned (Ok (record { price = r.cost; minutes = u.cost; state = u.state; goal = g })) ≡ replayed t p q
    unfolding returned
    ends_both {u = u} d e h =
        let f : Ran (λ x. x.0) (follower_actions t) (middle t p q) q u = rw d.state at e in
        rw (h, d.cost, f.cost, f.state) (sym (both_run t p q n d.steps f.steps))
