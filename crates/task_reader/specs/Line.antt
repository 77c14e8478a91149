-- A text's first line, and what it adds to the record of the lines before it.
use Rattle.std.specs.Prelude.{◌≡◌, List, ℕ, ◌+◌, ◌≤◌, ◌<◌, length}
use Rattle.outcome.specs.Refusal.{number_of, place_of}
use Rattle.outcome.specs.declared.Refusal.{Refusal}
use Rattle.strips.specs.Limits.{max_facts, max_leader, max_follower}
use Rattle.strips.specs.declared.Task.{Task}
use Rattle.task_format.specs.Text.{lines}
use Rattle.task_format.specs.Lines.{kind_of, last_line, action_of, Room, stored}
use Rattle.task_format.specs.Parse.{refused, follow, zeros}
use Rattle.task_format.specs.declared.Kind.{Kind}
use Rattle.task_format.specs.declared.Kind.TheVariants.{Number, FactList}

-- a number is not above the upper bound of its kind
abbrev pub FitsKind : Kind → ℕ → Type 0
FitsKind (Number low high) x = x ≤ high
FitsKind (FactList most) x = Unit {0}

-- the first line of the text, which is line n and due, says x; `rest` is behind it
pub record Says (facts n : ℕ) (text : List ℕ) (x : ℕ) (rest : List ℕ) : Type 0 where
  pub small : FitsKind (kind_of facts n) x
  pub shorter : length rest < length text
  pub goes : (t : Task) → t.facts ≡ facts → n ≤ last_line t → follow (lines text) n t ≡ follow (lines rest) (n + 1) (stored t n x)

-- at the first line of the text, which is line n and due, a question gets no
abbrev pub Stops : ℕ → ℕ → List ℕ → Refusal → Type 0
Stops facts n text q = (t : Task) → t.facts ≡ facts → n ≤ last_line t → follow (lines text) n t ≡ refused (number_of q) (place_of q)

-- x fits the field of line n
pub record Storable (t : Task) (n x : ℕ) : Type 0 where
  pub one : 1 ≤ n
  pub room : Room t (action_of n)
  pub small : FitsKind (kind_of t.facts n) x

-- the counts are within their limits
pub record Small (t : Task) : Type 0 where
  pub facts : t.facts ≤ max_facts
  pub leader : t.leader_count ≤ max_leader
  pub follower : t.follower_count ≤ max_follower

-- the loop over lines: the record so far holds the lines before line n, and `rest` is still to be read
pub record OnLine (text : List ℕ) (t : Task) (n : ℕ) (rest : List ℕ) : Type 0 where
  pub one : 1 ≤ n
  pub small : Small t
  pub goes : follow (lines text) 1 zeros ≡ follow (lines rest) n t
