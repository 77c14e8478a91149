-- What the replay of a leader plan and then a follower plan returns: questions 9 to 12, the costs and the end.
use Rattle.std.specs.Prelude.{Result, Ok, Err, Bool, false, List, [], ◌∷◌, ℕ, suc, ◌+◌, length}
use Rattle.std.proofs.Math.Decide.{ℕ_discrete, dec_le}
use Rattle.strips.specs.Decision.{says, ask}
use Rattle.strips.specs.Limits.{max_steps}
use Rattle.strips.specs.State.{dec_holds, dec_applies, after}
use Rattle.strips.specs.Task.{leader_actions, follower_actions}
use Rattle.strips.specs.Plan.{dec_known, action, cost}
use Rattle.outcome.specs.Refusal.{number_of, place_of}
use Rattle.strips.specs.Deciders.{dec_valid}
use Rattle.strips.specs.declared.Action.{Action}
use Rattle.strips.specs.declared.Task.{Task}
use Rattle.outcome.specs.declared.Refusal.{Refusal}
use Rattle.replay.specs.declared.Ended.{Ended}

-- number and place of the first question that gets no, 0 and 0 where none does; both costs, the end state, whether it holds the goal
pub record Returned : Type 0 where
  pub number : ℕ
  pub place : ℕ
  pub price : ℕ
  pub minutes : ℕ
  pub state : ℕ
  pub goal : Bool

abbrev pub refused : ℕ → ℕ → Returned
refused n place = record { number = n; place = place; price = 0; minutes = 0; state = 0; goal = false }

abbrev pub ran : ℕ → ℕ → ℕ → Bool → Returned
ran price minutes state goal = record { number = 0; place = 0; price = price; minutes = minutes; state = state; goal = goal }

unfoldable pub returned : Result Ended Refusal → Returned
returned (Ok r) = ran r.price.0 r.minutes.0 r.state r.goal
returned (Err q) = refused (number_of q) (place_of q)

-- how many steps at the front of a plan pass a test, each in the state that the steps before it lead to
unfoldable pub passing : {P : ℕ → ℕ → Type 0} → ((s k : ℕ) → Dec (P s k)) → (ℕ → ℕ → ℕ) → ℕ → List ℕ → ℕ
passing test step s [] = 0
passing test step s (k ∷ p) = ask (test s k) 0 (suc (passing test step (step s k) p))

-- how many are numbers of n actions, whatever the state
abbrev pub known_steps : ℕ → List ℕ → ℕ
known_steps n p = passing (λ s k. dec_known n k) (λ s k. s) 0 p

-- how many apply, each when its turn comes
abbrev pub applied_steps : List Action → ℕ → List ℕ → ℕ
applied_steps acts s p = passing (λ s k. dec_applies (action acts k) s) (λ s k. after (action acts k) s) s p

-- the state after all steps of a plan
unfoldable pub end_state : List Action → ℕ → List ℕ → ℕ
end_state acts s [] = s
end_state acts s (k ∷ p) = end_state acts (after (action acts k) s) p

-- question n put to each step of p, of which `passed` get yes before the first no; steps are counted on from `earlier` ones
abbrev pub ask_steps : ℕ → ℕ → List ℕ → ℕ → Returned → Returned
ask_steps n earlier p passed rest = ask (ℕ_discrete passed (length p)) (refused n (earlier + passed + 1)) rest

unfoldable pub replayed : Task → List ℕ → List ℕ → Returned
replayed t p q =
    let leader = leader_actions t in
    let follower = follower_actions t in
    let middle = end_state leader t.initial p in
    let end = end_state follower middle q in
    ask (dec_valid t) (refused 9 0)
    (ask (dec_le (length p) max_steps) (refused 10 0)
    (ask (dec_le (length q) max_steps) (refused 10 0)
    (ask_steps 11 0 p (known_steps (length leader) p)
    (ask_steps 11 (length p) q (known_steps (length follower) q)
    (ask_steps 12 0 p (applied_steps leader t.initial p)
    (ask_steps 12 (length p) q (applied_steps follower middle q)
    (ran (cost leader p) (cost follower q) end (says (dec_holds end t.goal)))))))))
