-- The answer of a state (document 01), as all that stands above the searches says it: what it is stands here alone.
use Rattle.std.specs.Prelude.{List, ℕ}
use Rattle.strips.specs.declared.Task.{Task}
use Rattle.outcome.specs.Answer.{Value}
use Rattle.search.specs.Response.{Response}

-- the best response from the state: its cost and its plan, or none and no plan
abbrev pub AnswerOf : Task → ℕ → Value → List ℕ → Type 0
AnswerOf = Response
