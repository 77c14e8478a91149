-- What each line is about.
use Rattle.std.specs.Prelude.{◌≡◌, ℕ, ◌%◌}
use Rattle.task_format.specs.Lines.{action_of}
use Rattle.task_format.specs.declared.Part.{Part}
use Rattle.task_format.specs.declared.Part.TheVariants.{Cost, Precondition, Delete, Add}
use Rattle.task_format.specs.declared.Field.{Field}
use Rattle.task_format.specs.declared.Field.TheVariants.{Facts, Initial, Goal, LeaderCount, FollowerCount, Action}

-- none of lines 1 to 5
pub record Other (n : ℕ) : Type 0 where
  pub one : n ≡ 1 → ⊥
  pub two : n ≡ 2 → ⊥
  pub three : n ≡ 3 → ⊥
  pub four : n ≡ 4 → ⊥
  pub five : n ≡ 5 → ⊥

-- the remainder by four of the number of the line that is about a part of an action
abbrev pub remainder : Part → ℕ
remainder Cost = 2
remainder Precondition = 3
remainder Delete = 0
remainder Add = 1

-- line n is about the field
abbrev pub IsAt : Field → ℕ → Type 0
IsAt Facts n = n ≡ 1
IsAt Initial n = n ≡ 2
IsAt Goal n = n ≡ 3
IsAt LeaderCount n = n ≡ 4
IsAt FollowerCount n = n ≡ 5
IsAt (Action i p) n = Other n × (i ≡ action_of n) × (n % 4 ≡ remainder p)
