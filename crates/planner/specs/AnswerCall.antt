-- What the answer call promises (document 01: the answer after an outage plan).
use Rattle.std.specs.Prelude.{List, [], ◌∷◌, ◌++◌, ℕ, length, Result, Ok, Err}
use Rattle.strips.specs.Task.{leader_actions}
use Rattle.strips.specs.declared.Task.{Task}
use Rattle.outcome.specs.Answer.{Value, minutes, value_of}
use Rattle.outcome.specs.Refusal.{number_of, place_of}
use Rattle.outcome.specs.declared.Refusal.{Refusal}
use Rattle.replay.specs.Replay.{end_state}
use Rattle.search.specs.Answer.{AnswerOf}
use Rattle.questions.specs.Lent.{Lent}
use Rattle.questions.specs.Memory.{memory, none}
use Rattle.questions.specs.Workspace.{slices_in}
use Rattle.questions.specs.declared.workspace.Workspace.{Workspace}
use Rattle.questions.specs.Record.{record_asks}
use Rattle.questions.specs.Call.{Call, Returned, Promise}
use Rattle.planner.specs.declared.Answered.{Answered}

abbrev pub answer_asks : List ℕ
answer_asks = 8 ∷ record_asks ++ 10 ∷ 11 ∷ 12 ∷ 13 ∷ 15 ∷ []

-- an answer and its plan
pub record AnswerPlan : Type 0 where
  pub answer : Value
  pub plan : List ℕ

-- an answer and the number of its plan's steps
pub record AnswerSteps : Type 0 where
  pub answer : Value
  pub steps : ℕ

-- what is found is the best response from the state that the leader plan leads to: its plan is written, its answer and its steps are returned
abbrev pub answer_call : Task → List ℕ → Call AnswerPlan AnswerSteps
answer_call t leader_plan = record {
  asks = answer_asks;
  task = t;
  leader_plan = leader_plan;
  follower_plan = [];
  Found = λ a. AnswerOf t (end_state (leader_actions t) t.initial leader_plan) a.answer a.plan;
  output = λ a. record { entries = []; plans = a.plan; text = [] };
  values = λ a. record { answer = a.answer; steps = length a.plan };
  zero = record { answer = minutes 0; steps = 0 };
}

abbrev pub AnswerCall : Task → List ℕ → Lent Workspace → Lent (List ℕ) → Returned AnswerSteps → Type 0
AnswerCall t leader_plan work plan = Promise (answer_call t leader_plan) (memory (slices_in work) none plan none)

-- what is returned, as number, place, answer and steps
abbrev pub returned : Result Answered Refusal → Returned AnswerSteps
returned (Ok a) = record { number = 0; place = 0; values = record { answer = value_of a.answer; steps = a.steps } }
returned (Err q) = record { number = number_of q; place = place_of q; values = record { answer = minutes 0; steps = 0 } }
