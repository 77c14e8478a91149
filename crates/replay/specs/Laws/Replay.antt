-- What a replay returns, case by case; and that it ran just where both plans run.
use Rattle.std.specs.Prelude.{◌≡◌, List, ℕ, ◌+◌, ◌≤◌, ◌<◌, length, take}
use Rattle.std.proofs.Common.{ap, ◌∙◌, arith, length-take, get_or-take}
use Rattle.std.proofs.Math.Decide.{ℕ_discrete, dec_le, dec_lt}
use Rattle.strips.specs.Decision.{says}
use Rattle.strips.specs.Limits.{max_steps}
use Rattle.strips.specs.State.{dec_holds}
use Rattle.strips.specs.Task.{idle, Places, Valid, leader_actions, follower_actions}
use Rattle.strips.specs.Plan.{cost, Runs}
use Rattle.strips.specs.Laws.Decision.{asked_yes, asked_no}
use Rattle.strips.specs.Deciders.{dec_valid}
use Rattle.strips.specs.Laws.Validity.{leader_count, follower_count}
use Rattle.strips.specs.declared.Action.{Action}
use Rattle.strips.specs.declared.Task.{Task}
use Rattle.replay.specs.Replay.{Returned, refused, ran, known_steps, applied_steps, end_state, ask_steps, replayed}
use Rattle.replay.specs.Run.{Runnable, Numbered}
use Rattle.replay.specs.Laws.Steps.{known_most, applied_most, passes_runs, runs_known, runs_applied, runs_end}

-- of the places that a task uses, each holds an action that costs at most the limit
runnable : {facts size n : ℕ} {places : List Action} {p : List ℕ} → Places facts size n places → known_steps n p ≡ length p → length p ≤ max_steps
    → Runnable (take n places) p
runnable {n = n} {places = places} {p = p} v known short =
    let count : length (take n places) ≡ n = omega (arith, length-take n places, v.long, v.room) in
    record { known = rw count known; short = short; priced = λ i h. let l : i < n = omega arith in rw (get_or-take n places i idle l) (v.used i l).cost }

pub leader_runnable : {t : Task} {p q : List ℕ} → Numbered t p q → Runnable (leader_actions t) p
unfolding leader_actions
leader_runnable n = runnable n.valid.leader n.known_leader n.short_leader

pub follower_runnable : {t : Task} {p q : List ℕ} → Numbered t p q → Runnable (follower_actions t) q
unfolding follower_actions
follower_runnable n = runnable n.valid.follower n.known_follower n.short_follower

-- a question put to each step
module _ (n earlier : ℕ) (p : List ℕ) (passed : ℕ) (rest : Returned) where
  steps_pass : passed ≡ length p → ask_steps n earlier p passed rest ≡ rest
  steps_pass e = asked_yes (ℕ_discrete passed (length p)) e _ _

  steps_stop : passed < length p → ask_steps n earlier p passed rest ≡ refused n (earlier + passed + 1)
  steps_stop h = asked_no (ℕ_discrete passed (length p)) (λ e. omega arith) _ _

module _ (t : Task) (p q : List ℕ) where
  abbrev pub middle : ℕ
  middle = end_state (leader_actions t) t.initial p

  abbrev pub end : ℕ
  end = end_state (follower_actions t) middle q

  -- what is left of a replay from question 12 on, and from question 11 on
  abbrev from_12 : Returned
  from_12 =
      ask_steps 12 0 p (applied_steps (leader_actions t) t.initial p)
      (ask_steps 12 (length p) q (applied_steps (follower_actions t) middle q)
      (ran (cost (leader_actions t) p) (cost (follower_actions t) q) end (says (dec_holds end t.goal))))

  abbrev from_11 : Returned
  from_11 = ask_steps 11 0 p (known_steps (length (leader_actions t)) p) (ask_steps 11 (length p) q (known_steps (length (follower_actions t)) q) from_12)

  pub refuses_9 : (Valid t → ⊥) → replayed t p q ≡ refused 9 0
  unfolding replayed
  refuses_9 n = asked_no (dec_valid t) n _ _

  pub refuses_10_leader : Valid t → max_steps < length p → replayed t p q ≡ refused 10 0
  unfolding replayed
  refuses_10_leader v h = asked_yes (dec_valid t) v _ _ ∙ asked_no (dec_le (length p) max_steps) (λ l. omega arith) _ _

  pub refuses_10_follower : Valid t → length p ≤ max_steps → max_steps < length q → replayed t p q ≡ refused 10 0
  unfolding replayed
  refuses_10_follower v l h =
      asked_yes (dec_valid t) v _ _ ∙ asked_yes (dec_le (length p) max_steps) l _ _ ∙ asked_no (dec_le (length q) max_steps) (λ k. omega arith) _ _

  asks_11 : Valid t → length p ≤ max_steps → length q ≤ max_steps → replayed t p q ≡ from_11
  unfolding replayed
  asks_11 v l k = asked_yes (dec_valid t) v _ _ ∙ asked_yes (dec_le (length p) max_steps) l _ _ ∙ asked_yes (dec_le (length q) max_steps) k _ _

  pub refuses_11_leader : Valid t → length p ≤ max_steps → length q ≤ max_steps → known_steps t.leader_count p < length p
      → replayed t p q ≡ refused 11 (known_steps t.leader_count p + 1)
  refuses_11_leader v l k h = asks_11 v l k ∙ rw (leader_count v) (steps_stop 11 0 p _ _ h ∙ ap (refused 11) (omega arith))

  pub refuses_11_follower : Valid t → length p ≤ max_steps → length q ≤ max_steps → known_steps t.leader_count p ≡ length p
      → known_steps t.follower_count q < length q → replayed t p q ≡ refused 11 (length p + known_steps t.follower_count q + 1)
  refuses_11_follower v l k e h =
      asks_11 v l k ∙ rw (leader_count v, follower_count v) (steps_pass 11 0 p _ _ e ∙ steps_stop 11 (length p) q _ _ h)

  asks_12 : Numbered t p q → replayed t p q ≡ from_12
  asks_12 n =
      asks_11 n.valid n.short_leader n.short_follower
      ∙ rw (leader_count n.valid, follower_count n.valid) (steps_pass 11 0 p _ _ n.known_leader ∙ steps_pass 11 (length p) q _ _ n.known_follower)

  pub refuses_12_leader : Numbered t p q → applied_steps (leader_actions t) t.initial p < length p
      → replayed t p q ≡ refused 12 (applied_steps (leader_actions t) t.initial p + 1)
  refuses_12_leader n h = asks_12 n ∙ steps_stop 12 0 p _ _ h ∙ ap (refused 12) (omega arith)

  pub refuses_12_follower : Numbered t p q → applied_steps (leader_actions t) t.initial p ≡ length p
      → applied_steps (follower_actions t) middle q < length q → replayed t p q ≡ refused 12 (length p + applied_steps (follower_actions t) middle q + 1)
  refuses_12_follower n e h = asks_12 n ∙ steps_pass 12 0 p _ _ e ∙ steps_stop 12 (length p) q _ _ h

  pub both_run : Numbered t p q → applied_steps (leader_actions t) t.initial p ≡ length p → applied_steps (follower_actions t) middle q ≡ length q
      → replayed t p q ≡ ran (cost (leader_actions t) p) (cost (follower_actions t) q) end (says (dec_holds end t.goal))
  both_run n e f = asks_12 n ∙ steps_pass 12 0 p _ _ e ∙ steps_pass 12 (length p) q _ _ f

  -- plans that run are replayed to their end
  pub runs_replayed : {m e : ℕ} → Valid t → length p ≤ max_steps → length q ≤ max_steps
      → Runs (leader_actions t) t.initial p m → Runs (follower_actions t) m q e
      → replayed t p q ≡ ran (cost (leader_actions t) p) (cost (follower_actions t) q) e (says (dec_holds e t.goal))
  runs_replayed {m} {e} v l k r u =
      let at_middle : middle ≡ m = runs_end (leader_actions t) r in
      let u' : Runs (follower_actions t) middle q e = rw at_middle u in
      let at_end : end ≡ e = runs_end (follower_actions t) u' in
      both_run
      (record {
        valid = v;
        short_leader = l;
        short_follower = k;
        known_leader = rw (← leader_count v) (runs_known _ r);
        known_follower = rw (← follower_count v) (runs_known _ u);
      })
      (runs_applied _ r) (runs_applied _ u')
      ∙ ap (λ s. ran (cost (leader_actions t) p) (cost (follower_actions t) q) s (says (dec_holds s t.goal))) at_end

  -- and a replay that no question refused is one of plans that run
  pub record BothRun : Type 0 where
    pub valid : Valid t
    pub leader : Runs (leader_actions t) t.initial p middle
    pub follower : Runs (follower_actions t) middle q end
    pub state : (replayed t p q).state ≡ end

  pub replayed_runs : (replayed t p q).number ≡ 0 → BothRun
  replayed_runs z = ask_9 (dec_valid t)
    where
      never : {r : Returned} → replayed t p q ≡ r → (r.number ≡ 0 → ⊥) → BothRun
      never e n = absurd (n (rw (← e) z))

      leader_applied : (applied_steps (leader_actions t) t.initial p < length p → ⊥) → applied_steps (leader_actions t) t.initial p ≡ length p
      leader_applied h = omega (arith, applied_most (leader_actions t) t.initial p)

      follower_applied : (applied_steps (follower_actions t) middle q < length q → ⊥) → applied_steps (follower_actions t) middle q ≡ length q
      follower_applied h = omega (arith, applied_most (follower_actions t) middle q)

      ask_12 : Numbered t p q → Dec (applied_steps (leader_actions t) t.initial p < length p)
          → Dec (applied_steps (follower_actions t) middle q < length q) → BothRun
      ask_12 n (yes h) d = never (refuses_12_leader n h) (λ e. omega arith)
      ask_12 n (no h) (yes k) = never (refuses_12_follower n (leader_applied h) k) (λ e. omega arith)
      ask_12 n (no h) (no k) = record {
        valid = n.valid;
        leader = passes_runs (leader_actions t) t.initial p (rw (leader_count n.valid) n.known_leader) (leader_applied h);
        follower = passes_runs (follower_actions t) middle q (rw (follower_count n.valid) n.known_follower) (follower_applied k);
        state = ap (λ (r : Returned). r.state) (both_run n (leader_applied h) (follower_applied k));
      }

      ask_11 : Valid t → length p ≤ max_steps → length q ≤ max_steps
          → Dec (known_steps t.leader_count p < length p) → Dec (known_steps t.follower_count q < length q) → BothRun
      ask_11 v l k (yes h) d = never (refuses_11_leader v l k h) (λ e. omega arith)
      ask_11 v l k (no h) (yes i) = never (refuses_11_follower v l k (omega (arith, known_most t.leader_count p)) i) (λ e. omega arith)
      ask_11 v l k (no h) (no i) =
          ask_12
          (record {
            valid = v;
            short_leader = l;
            short_follower = k;
            known_leader = omega (arith, known_most t.leader_count p);
            known_follower = omega (arith, known_most t.follower_count q);
          })
          (dec_lt _ _) (dec_lt _ _)

      ask_10 : Valid t → Dec (length p ≤ max_steps) → Dec (length q ≤ max_steps) → BothRun
      ask_10 v (yes l) (yes k) = ask_11 v l k (dec_lt _ _) (dec_lt _ _)
      ask_10 v (yes l) (no k) = never (refuses_10_follower v l (omega arith)) (λ e. omega arith)
      ask_10 v (no l) d = never (refuses_10_leader v (omega arith)) (λ e. omega arith)

      ask_9 : Dec (Valid t) → BothRun
      ask_9 (yes v) = ask_10 v (dec_le _ _) (dec_le _ _)
      ask_9 (no n) = never (refuses_9 n) (λ e. omega arith)
