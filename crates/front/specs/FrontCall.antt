-- What the front call promises (document 01: the front).
use Rattle.std.specs.Prelude.{List, [], ◌∷◌, ◌++◌, map, ℕ, length, Result, Ok, Err}
use Rattle.strips.specs.declared.Task.{Task}
use Rattle.outcome.specs.Refusal.{number_of, place_of}
use Rattle.outcome.specs.declared.Entry.{Entry}
use Rattle.outcome.specs.declared.Refusal.{Refusal}
use Rattle.questions.specs.Lent.{Lent}
use Rattle.questions.specs.Memory.{memory, none}
use Rattle.questions.specs.Record.{record_asks}
use Rattle.questions.specs.Call.{Call, Returned, Promise}
use Rattle.questions.specs.Workspace.{slices_in}
use Rattle.questions.specs.declared.workspace.Workspace.{Workspace}
use Rattle.pareto.specs.Front.{Line, Front}
use Rattle.pareto.specs.Layout.{entry_for, plans_for}

abbrev pub front_asks : List ℕ
front_asks = 8 ∷ record_asks ++ 13 ∷ 14 ∷ 15 ∷ []

-- what is found is the front: its entries and plans are written, and this text of it
abbrev pub lines_call : {A : Type 0} → List ℕ → (List Line → List ℕ) → (List Line → A) → A → Task → Call (List Line) A
lines_call asks text_of values zero t = record {
  asks = asks;
  task = t;
  leader_plan = [];
  follower_plan = [];
  Found = Front t;
  output = λ lines. record { entries = map entry_for lines; plans = plans_for lines; text = text_of lines };
  values = values;
  zero = zero;
}

-- no text is written, and the number of lines is returned
abbrev pub front_call : Task → Call (List Line) ℕ
front_call = lines_call front_asks (λ lines. []) length 0

abbrev pub FrontCall : Task → Lent Workspace → Lent (List Entry) → Lent (List ℕ) → Returned ℕ → Type 0
FrontCall t work entries plans = Promise (front_call t) (memory (slices_in work) entries plans none)

-- what is returned, as number, place and number of lines
abbrev pub returned : Result ℕ Refusal → Returned ℕ
returned (Ok k) = record { number = 0; place = 0; values = k }
returned (Err q) = record { number = number_of q; place = place_of q; values = 0 }
