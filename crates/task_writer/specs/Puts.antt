-- What is put of a member of a list, and of a line.
use Rattle.std.specs.Prelude.{Bool, List, [], ◌∷◌, ◌++◌, ℕ}
use Rattle.strips.specs.declared.Task.{Task}
use Rattle.strips.specs.Choice.{pick}
use Rattle.task_format.specs.Text.{newline, comma}
use Rattle.task_format.specs.Render.{digits, line_text}

-- what a fact adds to a list: its digits, behind a comma unless it is the first
abbrev pub member_text : Bool → ℕ → List ℕ
member_text first fact = pick first (digits fact) (comma ∷ digits fact)

-- a line with its newline
abbrev pub ended_line : Task → ℕ → List ℕ
ended_line t n = line_text t n ++ (newline ∷ [])
