-- What every public call promises: what each question asks, and what is returned and left.
use Rattle.std.specs.Prelude.{◌≡◌, List, ℕ, ◌+◌, ◌≤◌, eqb, length}
use Rattle.std.proofs.Math.Logic.Dec
use Rattle.std.proofs.Math.Decide.{ℕ_discrete, dec_le}
use Rattle.strips.specs.Limits.{max_steps}
use Rattle.strips.specs.Task.{leader_actions, follower_actions}
use Rattle.strips.specs.declared.Task.{Task}
use Rattle.strips.specs.Choice.{pick}
use Rattle.replay.specs.Replay.{known_steps, applied_steps, end_state}
use Rattle.search.specs.Reachable.{Fits}
use Rattle.questions.specs.Lent.{Lent}
use Rattle.questions.specs.Asked.{Asked, ◌is◌then◌else◌}
use Rattle.questions.specs.Size.{SizesAllowed, shortest}
use Rattle.questions.specs.Memory.{Memory, Room, room_of, Output, nothing, leaves}
use Rattle.questions.specs.Record.{Record, dec_record}
use Rattle.questions.specs.Deciders.{dec_chosen}

-- number and place of the first question that gets no, 0 and 0 where none does, and the values of the call
pub record Returned (A : Type 0) : Type 0 where
  pub number : ℕ
  pub place : ℕ
  pub values : A

-- a call: its questions in their order, what it is given, what is to be found (the front, the response), and what is then written and returned
pub record Call (X A : Type 0) : Type 1 where
  pub asks : List ℕ
  pub task : Task
  pub leader_plan : List ℕ
  pub follower_plan : List ℕ
  pub Found : X → Type 0
  pub output : X → Output
  pub values : X → A
  pub zero : A

-- what is found has a property
pub record The {X : Type 0} (Found P : X → Type 0) : Type 0 where
  pub it : X
  pub found : Found it
  pub holds : P it

-- what is returned and left
pub record Ends {A : Type 0} (m : Lent Memory) (r returned : Returned A) (memory : Memory) : Type 0 where
  pub returns : r ≡ returned
  pub leaves : m.after ≡ memory

module _ {X A : Type 0} (c : Call X A) where
  -- how many steps get yes before the first no, counted on from the leader's to the follower's
  abbrev steps : ℕ → ℕ → ℕ
  steps first second = pick (eqb first (length c.leader_plan)) (first + second) first

  abbrev pub known : ℕ
  known = steps (known_steps (length (leader_actions c.task)) c.leader_plan) (known_steps (length (follower_actions c.task)) c.follower_plan)

  abbrev pub applied : ℕ
  applied =
      let leader = leader_actions c.task in
      let middle = end_state leader c.task.initial c.leader_plan in
      steps (applied_steps leader c.task.initial c.leader_plan) (applied_steps (follower_actions c.task) middle c.follower_plan)

  -- what each number asks of the plans and of the record
  abbrev pub Replay : ℕ → Type 0
  Replay q =
      let steps = length c.leader_plan + length c.follower_plan in
      q is 10 then ((length c.leader_plan ≤ max_steps) × (length c.follower_plan ≤ max_steps)) else
      q is 11 then (known ≡ steps) else
      q is 12 then (applied ≡ steps) else
      Record c.task q

  unfoldable pub dec_replay : (q : ℕ) → Dec (Replay q)
  dec_replay q =
      let steps = length c.leader_plan + length c.follower_plan in
      dec_chosen (eqb q 10) (Dec.and (dec_le (length c.leader_plan) max_steps) (dec_le (length c.follower_plan) max_steps))
      (dec_chosen (eqb q 11) (ℕ_discrete known steps)
      (dec_chosen (eqb q 12) (ℕ_discrete applied steps)
      (dec_record c.task q)))

  -- what each number asks, with this room
  abbrev pub Question : Room → (Type 0 → Type 0) → ℕ → Type 0
  Question room says q =
      q is 8 then says (SizesAllowed room.sizes) else
      q is 13 then says (Fits c.task (shortest room.sizes)) else
      q is 14 then The c.Found (λ x. says (length (c.output x).entries ≤ room.entries)) else
      q is 15 then The c.Found (λ x. says (length (c.output x).plans ≤ room.plans)) else
      q is 16 then The c.Found (λ x. says (length (c.output x).text ≤ room.text)) else
      says (Replay q)

  -- its place
  abbrev pub place : ℕ → ℕ
  place q = pick (eqb q 11) (known + 1) (pick (eqb q 12) (applied + 1) 0)

  abbrev pub refused : ℕ → Returned A
  refused q = record { number = q; place = place q; values = c.zero }

  abbrev pub done : X → Returned A
  done x = record { number = 0; place = 0; values = c.values x }

  -- some of its questions in their order: what holds where one gets no, and of what is found where all get yes
  abbrev pub Asks : List ℕ → Room → (ℕ → Type 0) → (X → Type 0) → Type 0
  Asks qs room Refused Done = Asked (Question room) Refused (The c.Found Done) qs

  -- the promise of a stage of the call that is left with these questions
  abbrev pub Stage : List ℕ → Lent Memory → Returned A → Type 0
  Stage qs m r = Asks qs (room_of m.before) (λ q. Ends m r (refused q) (leaves q nothing m.before)) (λ x. Ends m r (done x) (leaves 0 (c.output x) m.before))

  -- and of the call
  abbrev pub Promise : Lent Memory → Returned A → Type 0
  Promise = Stage c.asks
