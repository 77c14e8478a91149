-- The lines of entries: what an entry says, and the plans that it marks off in the plan numbers.
use Rattle.std.specs.Prelude.{List, [], ℕ, ◌+◌, length, take, drop}
use Rattle.outcome.specs.Answer.{value_of}
use Rattle.outcome.specs.declared.Entry.{Entry}
use Rattle.pareto.specs.Front.{Line}
use Rattle.report_text.specs.Report.{line_text}

-- the line of an entry with these plans
abbrev pub line_of : Entry → List ℕ → List ℕ → Line
line_of e p q = record { price = e.price.0; answer = value_of e.answer; leader_plan = p; follower_plan = q }

-- the bytes of an entry's line apart from its plans
unfoldable pub entry_bytes : Entry → ℕ
entry_bytes e = length (line_text (line_of e [] []))

-- how many plan numbers an entry's line has
abbrev pub entry_steps : Entry → ℕ
entry_steps e = e.leader_steps + e.follower_steps

-- an entry's line with the plans at the front of the plan numbers, the leader's before the follower's
unfoldable pub line_from : Entry → List ℕ → Line
line_from e plans = line_of e (take e.leader_steps plans) (take e.follower_steps (drop e.leader_steps plans))
