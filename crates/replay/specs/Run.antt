-- What the parts of a replay are asked and say.
use Rattle.std.specs.Prelude.{◌≡◌, List, ℕ, ◌+◌, ◌*◌, ◌≤◌, ◌<◌, length, get_or, take, drop}
use Rattle.strips.specs.Limits.{max_cost, max_steps}
use Rattle.strips.specs.Task.{idle, Valid}
use Rattle.strips.specs.Plan.{cost}
use Rattle.strips.specs.declared.Action.{Action}
use Rattle.strips.specs.declared.Task.{Task}
use Rattle.outcome.specs.declared.Refusal.{Refusal}
use Rattle.outcome.specs.declared.Refusal.TheVariants.{UnknownAction, NotApplicable}
use Rattle.replay.specs.Replay.{known_steps, applied_steps, end_state}
use Rattle.replay.specs.declared.steps.Progress.{Progress}

-- question 11 for a plan whose steps are counted on from earlier ones:
-- each step is the number of one of n actions, or the refusal says which is the first that is not
abbrev pub AllKnown : ℕ → List ℕ → Type 0
AllKnown n p = known_steps n p ≡ length p

pub record Unknown (n : ℕ) (p : List ℕ) (earlier : ℕ) (e : Refusal) : Type 0 where
  pub before : known_steps n p < length p
  pub refusal : e ≡ UnknownAction (earlier + known_steps n p + 1)

-- the plan's numbers are those of the actions, and its cost fits
pub record Runnable (acts : List Action) (p : List ℕ) : Type 0 where
  pub known : AllKnown (length acts) p
  pub short : length p ≤ max_steps
  pub priced : (i : ℕ) → i < length acts → (get_or acts i idle).cost ≤ max_cost

-- the first i steps of the plan applied, and led to the state s' at the cost c
pub record Running (acts : List Action) (s : ℕ) (p : List ℕ) (i s' c : ℕ) : Type 0 where
  pub ahead : applied_steps acts s p ≡ i + applied_steps acts s' (drop i p)
  pub state : s' ≡ end_state acts s (take i p)
  pub sum : c ≡ cost acts (take i p)
  pub low : c ≤ i * max_cost

-- question 12: the plan was run to its end, or the refusal says which is its first step that does not apply; `amount` is the number of a cost
pub record Ran {C : Type 0} (amount : C → ℕ) (acts : List Action) (s : ℕ) (p : List ℕ) (r : Progress C) : Type 0 where
  pub steps : applied_steps acts s p ≡ length p
  pub state : r.state ≡ end_state acts s p
  pub cost : amount r.cost ≡ cost acts p

pub record Stuck (acts : List Action) (s : ℕ) (p : List ℕ) (earlier : ℕ) (e : Refusal) : Type 0 where
  pub before : applied_steps acts s p < length p
  pub refusal : e ≡ NotApplicable (earlier + applied_steps acts s p + 1)

-- questions 9 to 11 have their yes
pub record Numbered (t : Task) (p q : List ℕ) : Type 0 where
  pub valid : Valid t
  pub short_leader : length p ≤ max_steps
  pub short_follower : length q ≤ max_steps
  pub known_leader : AllKnown t.leader_count p
  pub known_follower : AllKnown t.follower_count q
