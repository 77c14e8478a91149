-- All questions of the front call in their order.
use Rattle.std.specs.Prelude.{◌≡◌, refl, List, ℕ, ◌≤◌, ◌<◌, Result, Err}
use Rattle.std.proofs.Common.{ap, ◌∙◌, arith}
use Rattle.strips.specs.Task.{Valid}
use Rattle.strips.specs.declared.Task.{Task}
use Rattle.outcome.specs.declared.Refusal.{Refusal}
use Rattle.outcome.specs.declared.Refusal.TheVariants.{WorkspaceSize, InvalidTask}
use Rattle.search.specs.Limits.{max_places}
use Rattle.questions.specs.Asked.{no_to, yes_to}
use Rattle.questions.specs.Record.{record_fault}
use Rattle.questions.specs.Size.{SizesAllowed, shortest, capacity}
use Rattle.questions.specs.Call.{Returned, Asks, refused}
use Rattle.questions.specs.Laws.Asked.{asked_other}
use Rattle.questions.specs.Laws.Record.{record_asked, record_valid, record_invalid, fault_before_use, fault_place}
use Rattle.questions.specs.Laws.Size.{capacity_none, capacity_some}
use Rattle.questions.specs.Laws.Workspace.{from_to}
use Rattle.questions.specs.Workspace.{sizes_of}
use Rattle.questions.specs.declared.workspace.Workspace.{Workspace}
use Rattle.planner.specs.Laws.Workspace.{spacious}
use Rattle.pareto.specs.Front.{Line}
use Rattle.front.specs.FrontCall.{front_call, returned}
use Rattle.front.specs.Asked.{room_in, FrontAsked}
use Rattle.front.specs.Inner.Stages.{lines_asks, places_room, LinesListed}
use Rattle.front.specs.Laws.Stages.{one_size}

-- questions 13 to 15 with other sizes of the same number of places
other_sizes : (t : Task) (n entries numbers : ℕ) (w : Workspace) {P : ℕ → Type 0} {Q : List Line → Type 0} → n ≤ max_places → n ≡ shortest (sizes_of w)
    → Asks (front_call t) lines_asks (places_room n entries numbers) P Q → Asks (front_call t) lines_asks (room_in w entries numbers) P Q
other_sizes t n entries numbers w small e =
    asked_other ((λ f. rw (one_size n small, e) at f, λ a x. a (rw (one_size n small, e) x)), ((λ x. x, λ x. x), ((λ x. x, λ x. x), tt)))

module _ (t : Task) (w : Workspace) (n : ℕ) (e : n ≡ capacity (sizes_of w)) where
  abbrev Untouched : (entries numbers : ℕ) → Returned ℕ → Type 0
  Untouched entries numbers r = FrontAsked t (from_to w w) entries numbers r

  -- question 8
  pub sizes_refused : (entries numbers : ℕ) {r : Result ℕ Refusal} {q : Refusal} → n < 1 → q ≡ WorkspaceSize → r ≡ Err q
      → Untouched entries numbers (returned r)
  sizes_refused entries numbers h x f =
      no_to {q = 8} (capacity_none (sizes_of w) e h) (record { some = omega arith; returns = ap returned (f ∙ ap Err x); slices = refl })

  module _ (some : 1 ≤ n) where
    allowed : SizesAllowed (sizes_of w) × (n ≡ shortest (sizes_of w))
    allowed = capacity_some (sizes_of w) e some

    -- question 9
    pub record_refused : (entries numbers : ℕ) {r : Result ℕ Refusal} → (Valid t → ⊥) → r ≡ Err InvalidTask → Untouched entries numbers (returned r)
    record_refused entries numbers n e =
        yes_to {q = 8} allowed.0
        (record_asked (front_call t) (room_in w entries numbers) (λ z. absurd (omega (arith, z, record_invalid t n)))
        (λ k g h. record { some = h; returns = ap returned e ∙ returns k g h; slices = rw (fault_before_use t k g h) refl }))
      where
        returns : (k : ℕ) → record_fault t ≡ k → 1 ≤ k → returned (Err InvalidTask) ≡ refused (front_call t) k
        returns k g h = rw (record_invalid t n ∙ g, fault_place t k g h (front_call t)) refl

    -- and those about the lines
    pub lines_asked : {w' : Workspace} {r : Returned ℕ} {valid : Task} (entries numbers : ℕ) → Valid t → valid ≡ t
        → LinesListed valid n entries numbers (from_to w w') r → FrontAsked t (from_to w w') entries numbers r
    lines_asked entries numbers v same x =
        yes_to {q = 8} allowed.0
        (record_asked (front_call t) (room_in w entries numbers)
        (λ y. other_sizes t n entries numbers w (spacious w e some).small allowed.1 (rw same at x))
        (λ k g h. absurd (omega (arith, record_valid t v, g, h))))

-- whichever of them is the first that gets no, or none is
pub ruleset all_questions = (sizes_refused, record_refused, lines_asked)
