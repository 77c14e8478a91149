-- What the exported calls tell in a lent slice of numbers, and leave in the others.
use Rattle.std.specs.Prelude.{◌≡◌, List, [], ◌∷◌, ◌++◌, ℕ, length, take, drop}
use Rattle.task_format.specs.Parse.{Read}
use Rattle.questions.specs.Lent.{Lent}
use Rattle.questions.specs.Memory.{workspace}
use Rattle.questions.specs.Call.{Returned}
use Rattle.questions.specs.Workspace.{slices_in}
use Rattle.questions.specs.declared.workspace.Workspace.{Workspace}
use Rattle.outcome.specs.Answer.{Value, minutes, none}
use Rattle.planner.specs.AnswerCall.{AnswerSteps}
use Rattle.report.specs.ReportCall.{Counts}
use Rattle.file_response.specs.ResponseCall.{ResponseCall}
use Rattle.file_report.specs.TextCall.{TextCall}

-- the first places hold the numbers, as many of them as there are places; the places beyond the numbers are as they were
unfoldable pub told_in : List ℕ → List ℕ → List ℕ
told_in numbers told = take (length told) numbers ++ drop (length numbers) told

-- of a text that is read: number and place of the first question that gets no, 0 and 0 where none does
abbrev pub read_numbers : Read → List ℕ
read_numbers r = r.number ∷ r.place ∷ []

-- of a report: these, and the number of entries and of bytes written
abbrev pub report_numbers : Returned Counts → List ℕ
report_numbers r = r.number ∷ r.place ∷ r.values.entries ∷ r.values.bytes ∷ []

-- of an answer: whether it is none (1, and else 0), and the minutes; 0 where it is none
abbrev pub answer_numbers : Value → List ℕ
answer_numbers (minutes m) = 0 ∷ m ∷ []
answer_numbers none = 1 ∷ 0 ∷ []

-- of a best response: number and place, these, and the number of its steps
abbrev pub response_numbers : Returned AnswerSteps → List ℕ
response_numbers r = r.number ∷ r.place ∷ (answer_numbers r.values.answer ++ (r.values.steps ∷ []))

-- a call in lent slices, which make up a workspace, and what is told of it
pub record Told {A : Type 0} (S : Lent (List ℕ)) (X L R : Lent (List (List ℕ))) (Called : Lent Workspace → Returned A → Type 0)
    (numbers : Returned A → List ℕ) (told : Lent (List ℕ)) : Type 0 where
  pub work : Lent Workspace
  pub lends : slices_in work ≡ workspace S X L R
  pub returned : Returned A
  pub call : Called work returned
  pub tells : told.after ≡ told_in (numbers returned) told.before

-- the report of a text
abbrev pub ReportTold : Read → Lent (List ℕ) → (X L R : Lent (List (List ℕ))) → (room : ℕ) → (plans output told : Lent (List ℕ)) → Type 0
ReportTold read S X L R room plans output = Told S X L R (λ w r. TextCall read w room plans output r) report_numbers

-- the best response in the task of a text
abbrev pub ResponseTold : Read → List ℕ → Lent (List ℕ) → (X L R : Lent (List (List ℕ))) → (plan told : Lent (List ℕ)) → Type 0
ResponseTold read leader_plan S X L R plan = Told S X L R (λ w r. ResponseCall read leader_plan w plan r) response_numbers
