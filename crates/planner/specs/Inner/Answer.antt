-- The stages of the answer call, after the questions about record and plans.
use Rattle.std.specs.Prelude.{◌≡◌, List, [], ◌∷◌, ℕ, length, Option, Result, IfSome, IfOk}
use Rattle.strips.specs.Task.{leader_actions}
use Rattle.strips.specs.declared.Task.{Task}
use Rattle.outcome.specs.Answer.{Value, minutes}
use Rattle.outcome.specs.declared.Refusal.{Refusal}
use Rattle.replay.specs.Replay.{end_state}
use Rattle.search.specs.Reachable.{Reach}
use Rattle.questions.specs.Lent.{Lent, over}
use Rattle.questions.specs.Size.{shortest}
use Rattle.questions.specs.Memory.{Room, memory, none}
use Rattle.questions.specs.Workspace.{sizes_of, slices_in}
use Rattle.questions.specs.declared.workspace.Workspace.{Workspace}
use Rattle.questions.specs.Call.{Returned, Asks, Stage, refused, done}
use Rattle.planner.specs.AnswerCall.{AnswerSteps, answer_call}
use Rattle.planner.specs.Searches.{Spacious}
use Rattle.planner.specs.Inner.Response.{PlanRow, ResponseEnd}

-- the questions about what is found
abbrev pub response_asks : List ℕ
response_asks = 13 ∷ 15 ∷ []

-- working slices of these sizes, and this plan slice
abbrev pub plan_room : List ℕ → List ℕ → Room
plan_room sizes plan = record { sizes = sizes; entries = 0; plans = length plan; text = 0 }

-- a plan slice before and after
abbrev pub slice : List ℕ → List ℕ → Lent (List ℕ)
slice b a = record { before = b; after = a }

-- a refusal that has no place, and an answer with so many steps
abbrev pub refusal : ℕ → Returned AnswerSteps
refusal q = record { number = q; place = 0; values = record { answer = minutes 0; steps = 0 } }

abbrev pub answer_of : Value → ℕ → Returned AnswerSteps
answer_of v n = record { number = 0; place = 0; values = record { answer = v; steps = n } }

-- what is returned, and what the plan slice holds then
abbrev pub AnswerAsked : Task → (leader_plan sizes : List ℕ) → Lent (List ℕ) → Returned AnswerSteps → Type 0
AnswerAsked t p sizes plan r =
    Asks (answer_call t p) response_asks (plan_room sizes plan.before) (λ q. (r ≡ refused (answer_call t p) q) × (plan.after ≡ plan.before))
    (λ a. (r ≡ done (answer_call t p) a) × (plan.after ≡ over a.plan plan.before))

-- a row that was found has a plan
abbrev pub PlanReady : List (List ℕ) → Result (Option ℕ) Refusal → Type 0
PlanReady R found = IfOk found (λ row. IfSome row (PlanRow R))

-- whatever task and leader plan the row was searched for
abbrev pub RowAnswered : List (List ℕ) → Result (Option ℕ) Refusal → Lent (List ℕ) → Returned AnswerSteps → Type 0
RowAnswered R found plan r =
    (t : Task) (p sizes : List ℕ) → shortest sizes ≡ length R → ResponseEnd t (end_state (leader_actions t) t.initial p) (length R) R found
    → AnswerAsked t p sizes plan r

-- n places for the reach of a task, to which s belongs
pub record Searching (t : Task) (s n : ℕ) (w : Workspace) : Type 0 where
  pub reach : Reach t s
  pub spacious : Spacious n w
  pub shortest : n ≡ shortest (sizes_of w)

-- the last stage, after a leader plan that leads to s
abbrev pub AnswerStage : Task → ℕ → Lent Workspace → Lent (List ℕ) → Returned AnswerSteps → Type 0
AnswerStage t s work plan r =
    (p : List ℕ) → s ≡ end_state (leader_actions t) t.initial p → Stage (answer_call t p) response_asks (memory (slices_in work) none plan none) r
