-- The questions of the report call in their order.
use Rattle.std.specs.Prelude.{◌≡◌, refl, List, [], ◌∷◌, ℕ, ◌≤◌, length, replicate, Ok, Err}
use Rattle.std.proofs.Common.{ap, ◌∙◌, arith}
use Rattle.strips.specs.declared.Task.{Task}
use Rattle.outcome.specs.Laws.Refusal.{number_some}
use Rattle.outcome.specs.declared.Refusal.{Refusal}
use Rattle.rows.specs.Cleared.{everywhere}
use Rattle.rows.specs.Laws.Cleared.{everywhere_same}
use Rattle.questions.specs.Lent.{Lent}
use Rattle.questions.specs.Asked.{Asked, no_to, yes_to, answered}
use Rattle.questions.specs.Memory.{Room}
use Rattle.questions.specs.Call.{Returned, The, Question}
use Rattle.questions.specs.Laws.Asked.{asked_all, asked_other, asked_then}
use Rattle.questions.specs.Laws.Workspace.{from_to, with_rows, four_cleared}
use Rattle.questions.specs.declared.workspace.Workspace.{Workspace}
use Rattle.pareto.specs.Front.{Line, Front}
use Rattle.front_lines.specs.Lines.{lines_in}
use Rattle.front.specs.FrontCall.{front_asks, front_call}
use Rattle.front.specs.FrontCall as F
use Rattle.front.specs.Asked.{LinesLeft, DoneLeft, FrontAsked, RefusedWritten, DoneWritten, room_with}
use Rattle.report.specs.ReportCall.{Counts, counts, report_call, returned}
use Rattle.report.specs.Asked.{LinesPrinted, no_room, printed, ReportListed}

-- the questions of the front call are questions of the report call too, with any room for text
module _ (t : Task) (room : Room) (text : ℕ) {Refused : ℕ → Type 0} {Done : Type 0} where
  with_text : Asked (Question (front_call t) room) Refused Done front_asks
      → Asked (Question (report_call t) (record { sizes = room.sizes; entries = room.entries; plans = room.plans; text = text })) Refused Done front_asks
  with_text = asked_other ((λ x. x, λ x. x), ((λ x. x, λ x. x), ((λ x. x, λ x. x), ((λ x. x, λ x. x), ((λ x. x, λ x. x), tt)))))

module _ (t : Task) (b a₁ : Workspace) (R' : List (List ℕ)) (plans text : Lent (List ℕ)) (entries : ℕ) (r : Returned Counts) where
  -- the rows are left as R'
  abbrev here : Lent Workspace
  here = from_to b (with_rows a₁ R')

  abbrev room : Room
  room = room_with (report_call t) here plans text entries r

  abbrev RefusedHere : ℕ → Type 0
  RefusedHere = RefusedWritten (report_call t) here plans text entries r

  abbrev DoneHere : Type 0
  DoneHere = The (Front t) (DoneWritten (report_call t) here plans text entries r)

  -- the rows are cleared after a refusal, and left as they are else
  module _ (cleared : 1 ≤ r.number → R' ≡ everywhere (replicate 8 0) a₁.rows.now) (kept : r.number ≡ 0 → R' ≡ a₁.rows.now) where
    -- question 16 about the front's lines
    text_asked : (lines : List Line) → Front t lines → LinesLeft (from_to b a₁) lines → length lines ≤ entries → LinesPrinted lines plans text r
        → Asked (Question (report_call t) room) RefusedHere DoneHere (16 ∷ [])
    text_asked lines f x fit (no_room h e p q) =
        let rows = cleared (omega (arith, ap (λ (y : Returned Counts). y.number) e)) in
        let clear = rows ∙ everywhere_same (replicate 8 0) b.rows.now a₁.rows.now x.size in
        no_to {q = 16} (record { it = lines; found = f; holds = λ z. omega (arith, z, h) })
        (record { some = omega arith; returns = e; slices = four_cleared _ _ _ _ x.states x.index x.links clear; plans_kept = p; text_kept = q })
    text_asked lines f x fit (printed h e p q) =
        let rows = kept (ap (λ (y : Returned Counts). y.number) e) in
        yes_to {q = 16} (record { it = lines; found = f; holds = h })
        (answered (record {
          it = lines;
          found = f;
          holds = record {
            returns = e;
            left = record { states = x.states; index = x.index; links = x.links; held = rw rows x.held; size = ap length rows ∙ x.size };
            entries_fit = fit;
            plans_written = p;
            text_written = q;
          };
        }))

    pub report_listed : (k : ℕ) → FrontAsked t (from_to b a₁) entries (length plans.before) (F.returned (Ok k))
        → LinesPrinted (lines_in a₁.rows.now k) plans text r → ReportListed t here plans text entries r
    report_listed k asked p =
        asked_then (asked_all (λ q y. absurd (omega (arith, y.some, ap (λ (x : Returned ℕ). x.number) y.returns))) (λ d. asks d)
        (with_text t _ (length text.before) asked))
      where
        asks : The (Front t) (DoneLeft t (from_to b a₁) entries (length plans.before) (F.returned (Ok k)))
            → Asked (Question (report_call t) room) RefusedHere DoneHere (16 ∷ [])
        asks d =
            let x = d.holds.left in
            let count : k ≡ length d.it = ap (λ (x : Returned ℕ). x.values) d.holds.returns in
            let same : lines_in a₁.rows.now k ≡ d.it = ap (lines_in a₁.rows.now) count ∙ x.held.same in
            text_asked d.it d.found x d.holds.entries_fit (rw same at p)

-- a question before 16 gets no
pub report_refused : (t : Task) (w : Lent Workspace) (plans text : List ℕ) (entries : ℕ) (q : Refusal)
    → FrontAsked t w entries (length plans) (F.returned (Err q))
    → ReportListed t w (record { before = plans; after = plans }) (record { before = text; after = text }) entries (returned (Err q))
report_refused t w plans text entries q asked =
    asked_then (asked_all (λ n y. record {
      some = y.some;
      returns = ap (λ (x : Returned ℕ). record { number = x.number; place = x.place; values = counts 0 0 }) y.returns;
      slices = y.slices;
      plans_kept = refl;
      text_kept = refl;
    }) (λ d. absurd (omega (arith, number_some q, ap (λ (x : Returned ℕ). x.number) d.holds.returns)))
    (with_text t _ (length text) asked))
