-- The tasks that the test programs start from, and what an entry holds before a call.
use Rattle.std.specs.Prelude.{Some, List, [], ◌∷◌, ◌++◌, ℕ, ◌-◌, length, replicate}
use Rattle.strips.specs.Limits.{max_leader, max_follower}
use Rattle.strips.specs.Task.{idle}
use Rattle.strips.specs.declared.Action.{Action}
use Rattle.strips.specs.declared.Task.{Task}
use Rattle.outcome.specs.declared.Entry.{Entry}

abbrev pub act : ℕ → ℕ → ℕ → ℕ → Action
act c p d a = record { cost = c; precondition = p; delete = d; add = a }

-- facts 1 to 6 and no actions
abbrev pub bare_task : ℕ → ℕ → Task
bare_task initial goal = record {
  facts = 6;
  initial = initial;
  goal = goal;
  leader_count = 0;
  follower_count = 0;
  leader = replicate max_leader idle;
  follower = replicate max_follower idle;
}

-- the task with these actions in place of its own
abbrev pub with_actions : Task → (leader follower : List Action) → Task
with_actions t leader follower = record {
  facts = t.facts;
  initial = t.initial;
  goal = t.goal;
  leader_count = length leader;
  follower_count = length follower;
  leader = leader ++ replicate (max_leader - length leader) idle;
  follower = follower ++ replicate (max_follower - length follower) idle;
}

-- document 01's hall: 1 tray in the house, 2 tray at the dock, 3 upper belt runs, 4 lower belt runs
abbrev pub worked_hall : Task
worked_hall = record {
  facts = 4;
  initial = 13;
  goal = 2;
  leader_count = 2;
  follower_count = 2;
  leader = act 2 4 4 0 ∷ act 5 8 8 0 ∷ replicate 14 idle;
  follower = act 3 5 1 2 ∷ act 7 9 1 2 ∷ replicate 30 idle;
}

-- its first outage costs nothing
abbrev pub free_hall : Task
free_hall = with_actions worked_hall (act 0 4 4 0 ∷ act 5 8 8 0 ∷ []) (act 3 5 1 2 ∷ act 7 9 1 2 ∷ [])

-- it has no outages
abbrev pub calm_hall : Task
calm_hall = with_actions worked_hall [] (act 3 5 1 2 ∷ act 7 9 1 2 ∷ [])

-- it has no moves
abbrev pub stuck_hall : Task
stuck_hall = with_actions worked_hall (act 2 4 4 0 ∷ act 5 8 8 0 ∷ []) []

abbrev pub other_entry : Entry
other_entry = record { price = record { 0 = 77 }; answer = Some (record { 0 = 66 }); leader_steps = 55; follower_steps = 44 }
