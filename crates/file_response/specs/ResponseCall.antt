-- What the answer call promises where a text says the task: the refusal of the text, or the best response in the task.
use Rattle.std.specs.Prelude.{List, ℕ}
use Rattle.strips.specs.declared.Task.{Task}
use Rattle.task_format.specs.Parse.{Read}
use Rattle.questions.specs.Lent.{Lent}
use Rattle.questions.specs.Memory.{none}
use Rattle.questions.specs.Call.{Returned}
use Rattle.questions.specs.declared.workspace.Workspace.{Workspace}
use Rattle.planner.specs.AnswerCall.{AnswerSteps, answer_call}
use Rattle.text_call.specs.OnText.{OnText}

abbrev pub ResponseCall : Read → List ℕ → Lent Workspace → Lent (List ℕ) → Returned AnswerSteps → Type 0
ResponseCall read leader_plan work plan = OnText (λ (t : Task). answer_call t leader_plan) read work none plan none
