-- The lines of the rows that are noted.
use Rattle.std.specs.Prelude.{List, [], ◌++◌, map, ℕ, ◌≤◌, ◌<◌, length, get_or, take}
use Rattle.strips.specs.declared.Task.{Task}
use Rattle.outcome.specs.Answer.{none}
use Rattle.search.specs.Limits.{max_places}
use Rattle.pareto.specs.Front.{Line, Front}
use Rattle.planner.specs.Reading.{notes, Reading, reading_at}
use Rattle.planner.specs.Inner.Columns.{Readable}

-- the line that a row says
abbrev pub line_of : Reading → Line
line_of r = record { price = r.price; answer = r.answer; leader_plan = r.leader_plan; follower_plan = r.follower_plan }

-- the line of row i
unfoldable pub line_at : List (List ℕ) → ℕ → Line
line_at R i = line_of (reading_at R i)

-- line k of a list, counted from 0; behind the last it says nothing
abbrev pub line_number : List Line → ℕ → Line
line_number lines k = get_or lines k (record { price = 0; answer = none; leader_plan = []; follower_plan = [] })

-- both plans of a line, one after the other
abbrev pub plans_of : Line → List ℕ
plans_of l = l.leader_plan ++ l.follower_plan

-- the row that is noted k-th, counted from 0
abbrev pub note_at : List (List ℕ) → ℕ → ℕ
note_at R k = get_or (notes R) k 0

-- the lines of the rows that are noted first
unfoldable pub lines_in : List (List ℕ) → ℕ → List Line
lines_in R count = map (line_at R) (take count (notes R))

-- the first notes are rows that can be read
pub record Listed (R : List (List ℕ)) (count : ℕ) : Type 0 where
  pub inside : count ≤ length R
  pub few : count ≤ max_places
  pub readable : (k : ℕ) → k < count → Readable R (note_at R k)

-- the lines of the rows noted first are the front of the task
pub record Chosen (t : Task) (R : List (List ℕ)) (count : ℕ) : Type 0 where
  pub front : Front t (lines_in R count)
  pub listed : Listed R count
