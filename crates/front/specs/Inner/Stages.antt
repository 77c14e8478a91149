-- The stages of the search for the front's lines, with n places for states.
use Rattle.std.specs.Prelude.{◌≡◌, List, [], ◌∷◌, ℕ, ◌≤◌, length, Result, MatchResult}
use Rattle.strips.specs.declared.Task.{Task}
use Rattle.outcome.specs.declared.Refusal.{Refusal}
use Rattle.search.specs.Reachable.{Fits}
use Rattle.questions.specs.Lent.{Lent}
use Rattle.questions.specs.Memory.{Room}
use Rattle.questions.specs.Call.{Returned, Asks, done, refused}
use Rattle.questions.specs.Workspace.{Cleared, RowsKept}
use Rattle.questions.specs.declared.workspace.Workspace.{Workspace}
use Rattle.pareto.specs.Layout.{plans_for}
use Rattle.planner.specs.Searches.{Fitted}
use Rattle.front_lines.specs.Lines.{Chosen}
use Rattle.front.specs.FrontCall.{front_call}
use Rattle.front.specs.Asked.{InRows, RefusedLeft, DoneLeft}

-- so many rows are noted, whose lines are the front; or the states do not fit
abbrev pub LinesFound : Task → ℕ → List (List ℕ) → Result ℕ Refusal → Type 0
LinesFound t n R r = Fitted (λ k. Fits t n × Chosen t R k) (Fits t n) r

-- the questions about the lines
abbrev pub lines_asks : List ℕ
lines_asks = 13 ∷ 14 ∷ 15 ∷ []

-- n places for states, and room for so many entries and plan numbers
abbrev pub places_room : ℕ → ℕ → ℕ → Room
places_room n entries numbers = record { sizes = n ∷ []; entries = entries; plans = numbers; text = 0 }

-- what is returned, and what the rows hold then
abbrev pub LinesAsked : Task → (n entries numbers : ℕ) → List (List ℕ) → Returned ℕ → Type 0
LinesAsked t n entries numbers R r =
    Asks (front_call t) lines_asks (places_room n entries numbers) (λ q. r ≡ refused (front_call t) q)
    (λ lines. (r ≡ done (front_call t) lines) × InRows R lines × (length lines ≤ entries) × (length (plans_for lines) ≤ numbers))

-- all is cleared, but for the rows of lines
abbrev pub UsedCleared : Result ℕ Refusal → Lent Workspace → Type 0
UsedCleared r w = MatchResult r (λ k. RowsKept w) (λ q. Cleared w)

-- the same questions, with the whole workspace
abbrev pub LinesListed : Task → (n entries numbers : ℕ) → Lent Workspace → Returned ℕ → Type 0
LinesListed t n entries numbers w r = Asks (front_call t) lines_asks (places_room n entries numbers) (RefusedLeft t w r) (DoneLeft t w entries numbers r)
