-- With plans and entries written, what `ask_front` promises is what the call promises; and that determines all.
use Rattle.std.specs.Prelude.{◌≡◌, refl, List, ◌++◌, map, ℕ, ◌≤◌, length, drop, replicate, Ok, Err}
use Rattle.std.proofs.Math.Path.{ap}
use Rattle.std.proofs.Common.{◌∙◌, arith}
use Rattle.std.proofs.lemmas.List.{length-map}
use Rattle.strips.specs.declared.Task.{Task}
use Rattle.outcome.specs.Laws.Refusal.{number_some}
use Rattle.outcome.specs.declared.Entry.{Entry}
use Rattle.outcome.specs.declared.Refusal.{Refusal}
use Rattle.rows.specs.Cleared.{everywhere}
use Rattle.rows.specs.Laws.Cleared.{everywhere_same}
use Rattle.questions.specs.Lent.{Lent, over}
use Rattle.questions.specs.Memory.{Memory, Slice, memory, none}
use Rattle.questions.specs.Call.{Call, Returned, Promise, done}
use Rattle.questions.specs.Laws.Asked.{asked_all}
use Rattle.questions.specs.Laws.Unique.{left, promise_unique}
use Rattle.questions.specs.Laws.Workspace.{from_to, with_rows, four_cleared}
use Rattle.questions.specs.Workspace.{slices_in}
use Rattle.questions.specs.declared.workspace.Workspace.{Workspace}
use Rattle.pareto.specs.Front.{Line}
use Rattle.pareto.specs.Layout.{entry_for, plans_for}
use Rattle.pareto.specs.Laws.Unique.{front_unique}
use Rattle.front_lines.specs.Lines.{lines_in}
use Rattle.front.specs.FrontCall.{lines_call, front_call, returned}
use Rattle.front.specs.Asked.{FrontAsked, LinesWritten}
use Rattle.front.specs.Laws.Stages.{some_lines}

-- untouched
abbrev same : {A : Type 0} → A → Lent A
same x = record { before = x; after = x }

-- a call that finds the front, whose entries are stored last, from the rows
module _ {A : Type 0} (asks : List ℕ) (text_of : List Line → List ℕ) (values : List Line → A) (zero : A) (t : Task) where
  abbrev call : Call (List Line) A
  call = lines_call asks text_of values zero t

  module _ {b a₁ : Workspace} (es : List Entry) {plans text : Lent (List ℕ)} {r : Returned A}
      (written : LinesWritten call (from_to b a₁) plans text (length es) r) where
    -- no entry is stored after a refusal
    pub none_stored : 1 ≤ r.number → Promise call (memory (slices_in (from_to b a₁)) (same es) plans text) r
    none_stored some = asked_all
        (λ q y. record { returns = y.returns; leaves = rw (y.slices, y.plans_kept, y.text_kept) refl })
        (λ d. absurd (omega (arith, some, ap (λ (z : Returned A). z.number) d.holds.returns)))
        written

    module _ (R' : List (List ℕ)) (es' : List Entry) (k : ℕ) (count : (lines : List Line) → r ≡ done call lines → k ≡ length lines) where
      abbrev R₁ : List (List ℕ)
      R₁ = a₁.rows.now

      -- where only the rows have been written to since
      abbrev ending : Lent Workspace
      ending = from_to b (with_rows a₁ R')

      -- what is left in what is lent
      all_left : {s : List Slice} {es'' : List Entry} {ps ts : List ℕ} → (slices_in ending).after ≡ s → es' ≡ es'' → plans.after ≡ ps → text.after ≡ ts
          → ◌≡◌ {A = Memory} (record { slices = (slices_in ending).after; entries = es'; plans = plans.after; text = text.after })
          (record { slices = s; entries = es''; plans = ps; text = ts })
      all_left x y z v = rw (x, y, z, v) refl

      -- with the entries of the lines
      pub all_stored : r.number ≡ 0 → es' ≡ map entry_for (lines_in R₁ k) ++ drop k es → (1 ≤ k → R' ≡ everywhere (replicate 8 0) R₁)
          → Promise call (memory (slices_in ending) (record { before = es; after = es' }) plans text) r
      all_stored z e clear = asked_all
          (λ q y. absurd (omega (arith, z, y.some, ap (λ (x : Returned A). x.number) y.returns)))
          (λ d.
          let y = d.holds in
          let size = count d.it y.returns in
          let lines : lines_in R₁ k ≡ d.it = ap (lines_in R₁) size ∙ y.left.held.same in
          let entries : es' ≡ over (map entry_for d.it) es = e ∙ rw (lines, size, length-map d.it entry_for) refl in
          let rows = clear (omega (arith, size, some_lines d.found)) ∙ everywhere_same (replicate 8 0) b.rows.now R₁ y.left.size in
          record {
            it = d.it;
            found = d.found;
            holds = record {
              returns = y.returns;
              leaves = all_left (four_cleared _ _ _ _ y.left.states y.left.index y.left.links rows) entries y.plans_written y.text_written;
            };
          })
          written

-- the front call: its questions are asked before plans are written
module _ (t : Task) (b a₁ : Workspace) (entries : ℕ) (plans : List ℕ) where
  abbrev Written : List ℕ → Returned ℕ → Type 0
  Written plans' r = LinesWritten (front_call t) (from_to b a₁) (record { before = plans; after = plans' }) none entries r

  pub none_written : (q : Refusal) → FrontAsked t (from_to b a₁) entries (length plans) (returned (Err q)) → Written plans (returned (Err q))
  none_written q = asked_all
      (λ k y. record { some = y.some; returns = y.returns; slices = y.slices; plans_kept = refl; text_kept = refl })
      (λ d. absurd (omega (arith, number_some q, ap (λ (z : Returned ℕ). z.number) d.holds.returns)))

  pub all_written : (k : ℕ) {plans' : List ℕ} → plans' ≡ over (plans_for (lines_in a₁.rows.now k)) plans
      → FrontAsked t (from_to b a₁) entries (length plans) (returned (Ok k)) → Written plans' (returned (Ok k))
  all_written k p = asked_all
      (λ q y. absurd (omega (arith, y.some, ap (λ (z : Returned ℕ). z.number) y.returns)))
      (λ d.
      let y = d.holds in
      let lines = ap (λ (z : Returned ℕ). lines_in a₁.rows.now z.values) y.returns ∙ y.left.held.same in
      record {
        it = d.it;
        found = d.found;
        holds = record {
          returns = y.returns;
          left = y.left;
          entries_fit = y.entries_fit;
          plans_written = p ∙ ap (λ (ls : List Line). over (plans_for ls) plans) lines;
          text_written = refl;
        };
      })

-- the promise determines what is returned, and what every lent place holds then
pub front_call_unique : (t : Task) {b a₁ a₂ : Memory} {r₁ r₂ : Returned ℕ}
    → Promise (front_call t) (left b a₁) r₁ → Promise (front_call t) (left b a₂) r₂ → (r₁ ≡ r₂) × (a₁ ≡ a₂)
front_call_unique t = promise_unique (front_call t) (λ x y e f. front_unique t e f)
