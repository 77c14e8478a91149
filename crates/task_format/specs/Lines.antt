-- The lines of a hall file: which are due, the key and the kind of value of each, and the field of the record that each fills.
use Rattle.std.specs.Prelude.{List, ℕ, ◌+◌, ◌-◌, ◌*◌, ◌/◌, ◌%◌, ◌≤◌, ◌<◌, eqb, ltb, get_or, set}
use Rattle.strips.specs.Limits.{max_facts, max_leader, max_follower, max_cost}
use Rattle.strips.specs.Task.{idle}
use Rattle.strips.specs.declared.Action.{Action}
use Rattle.strips.specs.declared.Task.{Task}
use Rattle.strips.specs.Choice.{pick}
use Rattle.task_format.specs.Text.{bytes}
use Rattle.task_format.specs.declared.Kind.{Kind}
use Rattle.task_format.specs.declared.Kind.TheVariants.{Number, FactList}

-- the keys, each with its "="
abbrev pub facts_key : List ℕ
facts_key = bytes "facts="

abbrev pub start_key : List ℕ
start_key = bytes "start="

abbrev pub goal_key : List ℕ
goal_key = bytes "goal="

abbrev pub outages_key : List ℕ
outages_key = bytes "outages="

abbrev pub moves_key : List ℕ
moves_key = bytes "moves="

abbrev pub cost_key : List ℕ
cost_key = bytes "cost="

abbrev pub needs_key : List ℕ
needs_key = bytes "needs="

abbrev pub drops_key : List ℕ
drops_key = bytes "drops="

abbrev pub gives_key : List ℕ
gives_key = bytes "gives="

-- the keys of an action's four lines, by the remainder of the line's number by four
unfoldable pub action_key : ℕ → List ℕ
action_key r = pick (eqb r 2) cost_key (pick (eqb r 3) needs_key (pick (eqb r 0) drops_key gives_key))

-- the key at line n
unfoldable pub key_of : ℕ → List ℕ
key_of n =
    pick (eqb n 1) facts_key
    (pick (eqb n 2) start_key
    (pick (eqb n 3) goal_key
    (pick (eqb n 4) outages_key
    (pick (eqb n 5) moves_key (action_key (n % 4))))))

-- the kind of the value at line n, in a file with so many facts
unfoldable pub kind_of : ℕ → ℕ → Kind
kind_of facts n =
    pick (eqb n 1) (Number 1 max_facts)
    (pick (eqb n 2) (FactList facts)
    (pick (eqb n 3) (FactList facts)
    (pick (eqb n 4) (Number 0 max_leader)
    (pick (eqb n 5) (Number 0 max_follower)
    (pick (eqb (n % 4) 2) (Number 0 max_cost) (FactList facts))))))

-- the lines that are due are lines 1 to this one
abbrev pub last_line : Task → ℕ
last_line t = 5 + 4 * (t.leader_count + t.follower_count)

-- the actions have places
pub record Few (t : Task) : Type 0 where
  pub leader : t.leader_count ≤ max_leader
  pub follower : t.follower_count ≤ max_follower

-- an action's fields, by the remainder of their lines
unfoldable pub part_of : Action → ℕ → ℕ
part_of a r = pick (eqb r 2) a.cost (pick (eqb r 3) a.precondition (pick (eqb r 0) a.delete a.add))

unfoldable pub with_part : Action → ℕ → ℕ → Action
with_part a r x =
    pick (eqb r 2) (record { cost = x; precondition = a.precondition; delete = a.delete; add = a.add })
    (pick (eqb r 3) (record { cost = a.cost; precondition = x; delete = a.delete; add = a.add })
    (pick (eqb r 0) (record { cost = a.cost; precondition = a.precondition; delete = x; add = a.add })
    (record { cost = a.cost; precondition = a.precondition; delete = a.delete; add = x })))

-- the action that line n is about, counted from 0, the leader's before the follower's
abbrev pub action_of : ℕ → ℕ
action_of n = (n - 6) / 4

-- the action numbered i has a place
pub record Room (t : Task) (i : ℕ) : Type 0 where
  pub few : t.leader_count ≤ max_leader
  pub below : i < t.leader_count + max_follower

unfoldable pub action_field : Task → ℕ → ℕ → ℕ
action_field t i r =
    pick (ltb i t.leader_count)
    (part_of (get_or t.leader i idle) r)
    (part_of (get_or t.follower (i - t.leader_count) idle) r)

-- the record of these fields, in their order
abbrev pub task_of : (facts initial goal leader_count follower_count : ℕ) (leader follower : List Action) → Task
task_of f x g l m leader follower = record { facts = f; initial = x; goal = g; leader_count = l; follower_count = m; leader = leader; follower = follower }

unfoldable pub with_action : Task → ℕ → ℕ → ℕ → Task
with_action t i r x =
    let j = i - t.leader_count in
    pick (ltb i t.leader_count)
    (task_of t.facts t.initial t.goal t.leader_count t.follower_count (set t.leader i (with_part (get_or t.leader i idle) r x)) t.follower)
    (task_of t.facts t.initial t.goal t.leader_count t.follower_count t.leader (set t.follower j (with_part (get_or t.follower j idle) r x)))

-- the number or the set that the record holds for line n
unfoldable pub field : Task → ℕ → ℕ
field t n =
    pick (eqb n 1) t.facts
    (pick (eqb n 2) t.initial
    (pick (eqb n 3) t.goal
    (pick (eqb n 4) t.leader_count
    (pick (eqb n 5) t.follower_count
    (action_field t (action_of n) (n % 4))))))

-- the record with x in the field of line n
unfoldable pub stored : Task → ℕ → ℕ → Task
stored t n x =
    pick (eqb n 1) (task_of x t.initial t.goal t.leader_count t.follower_count t.leader t.follower)
    (pick (eqb n 2) (task_of t.facts x t.goal t.leader_count t.follower_count t.leader t.follower)
    (pick (eqb n 3) (task_of t.facts t.initial x t.leader_count t.follower_count t.leader t.follower)
    (pick (eqb n 4) (task_of t.facts t.initial t.goal x t.follower_count t.leader t.follower)
    (pick (eqb n 5) (task_of t.facts t.initial t.goal t.leader_count x t.leader t.follower)
    (with_action t (action_of n) (n % 4) x)))))
