-- What the call returns and leaves is determined by the text, the leader plan and what is lent.
use Rattle.std.specs.Prelude.{◌≡◌, List, ℕ}
use Rattle.std.proofs.Common.{ap}
use Rattle.strips.specs.declared.Task.{Task}
use Rattle.task_format.specs.Parse.{Read}
use Rattle.questions.specs.Lent.{Lent, from}
use Rattle.questions.specs.Memory.{Memory}
use Rattle.questions.specs.Call.{Returned}
use Rattle.questions.specs.Workspace.{slices_in}
use Rattle.questions.specs.declared.workspace.Workspace.{Workspace}
use Rattle.planner.specs.AnswerCall.{AnswerSteps, answer_call}
use Rattle.planner.specs.Laws.AnswerCall.{answer_call_unique}
use Rattle.text_call.specs.Laws.OnText.{on_text_unique}
use Rattle.file_response.specs.ResponseCall.{ResponseCall}

pub response_call_unique : (leader_plan : List ℕ) (w₁ w₂ : Lent Workspace) {read : Read} {P P₁ P₂ : List ℕ} {r₁ r₂ : Returned AnswerSteps}
    → (slices_in w₁).before ≡ (slices_in w₂).before → ResponseCall read leader_plan w₁ (from P P₁) r₁ → ResponseCall read leader_plan w₂ (from P P₂) r₂
    → (r₁ ≡ r₂) × ((slices_in w₁).after ≡ (slices_in w₂).after) × (P₁ ≡ P₂)
response_call_unique leader_plan w₁ w₂ lends a b =
    let same = on_text_unique (λ (t : Task). answer_call t leader_plan) (λ t b a₁ a₂ r₁ r₂. answer_call_unique t leader_plan) w₁ w₂ lends a b in
    (same.0, ap (λ (m : Memory). m.slices) same.1, ap (λ (m : Memory). m.plans) same.1)
