-- What the answer call returns and leaves is determined by what it is given and lent.
use Rattle.std.specs.Prelude.{◌≡◌, List, ℕ}
use Rattle.strips.specs.declared.Task.{Task}
use Rattle.search.specs.Laws.Response.{answer_unique}
use Rattle.questions.specs.Memory.{Memory}
use Rattle.questions.specs.Call.{Returned, Promise}
use Rattle.questions.specs.Laws.Unique.{left, promise_unique}
use Rattle.planner.specs.AnswerCall.{AnswerSteps, answer_call}

pub answer_call_unique : (t : Task) (p : List ℕ) {b a₁ a₂ : Memory} {r₁ r₂ : Returned AnswerSteps}
    → Promise (answer_call t p) (left b a₁) r₁ → Promise (answer_call t p) (left b a₂) r₂ → (r₁ ≡ r₂) × (a₁ ≡ a₂)
answer_call_unique t p =
    promise_unique (answer_call t p) (λ x y e f. let same = answer_unique e f in λ i. record { answer = same.0 i; plan = same.1 i })
