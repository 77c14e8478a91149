-- How lines are laid out in lent slices: an entry for each line, and the plans one after another.
use Rattle.std.specs.Prelude.{Option, Some, None, List, [], ◌∷◌, ◌++◌, ℕ, length}
use Rattle.outcome.specs.Answer.{Value, minutes, none}
use Rattle.outcome.specs.declared.Minutes.{Minutes}
use Rattle.pareto.specs.Front.{Line}
use Rattle.outcome.specs.declared.Entry.{Entry}

-- the entry of a line
unfoldable pub answer_for : Value → Option Minutes
answer_for (minutes n) = Some (record { 0 = n })
answer_for none = None

unfoldable pub entry_for : Line → Entry
entry_for l =
    record {
      price = record { 0 = l.price };
      answer = answer_for l.answer;
      leader_steps = length l.leader_plan;
      follower_steps = length l.follower_plan;
    }

-- the plans of the lines, the leader's before the follower's
unfoldable pub plans_for : List Line → List ℕ
plans_for [] = []
plans_for (l ∷ ls) = l.leader_plan ++ (l.follower_plan ++ plans_for ls)
