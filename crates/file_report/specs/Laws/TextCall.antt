-- The answer is determined by the text and what is lent, and says the front.
use Rattle.std.specs.Prelude.{◌≡◌, List, ℕ, ◌≤◌, length, take, drop}
use Rattle.std.proofs.Math.Path.{refl}
use Rattle.std.proofs.Common.{ap, ◌∙◌, arith, take_at}
use Rattle.strips.specs.declared.Task.{Task}
use Rattle.task_format.specs.Parse.{Read}
use Rattle.questions.specs.Lent.{Lent, from}
use Rattle.questions.specs.Memory.{Memory, Slice}
use Rattle.questions.specs.Asked.{no_to, yes_to, answered}
use Rattle.questions.specs.Call.{Returned, Ends, Promise, refused}
use Rattle.questions.specs.Workspace.{slices_in}
use Rattle.questions.specs.declared.workspace.Workspace.{Workspace}
use Rattle.pareto.specs.Front.{Line, Front}
use Rattle.pareto.specs.Laws.Unique.{front_unique}
use Rattle.report_text.specs.Report.{report_text}
use Rattle.report.specs.ReportCall.{Counts, report_call, own_entries, PrintCall}
use Rattle.report.specs.Laws.Promise.{text_call_unique}
use Rattle.text_call.specs.OnText.{OnText, unread, read_as}
use Rattle.text_call.specs.Laws.OnText.{on_text_unique, accepted_called}
use Rattle.file_report.specs.TextCall.{TextCall}

-- all that is lent, but for entries
pub record Same (r₁ r₂ : Returned Counts) (W₁ W₂ : List Slice) (P₁ P₂ T₁ T₂ : List ℕ) : Type 0 where
  pub returned : r₁ ≡ r₂
  pub slices : W₁ ≡ W₂
  pub plans : P₁ ≡ P₂
  pub text : T₁ ≡ T₂

module _ (room : ℕ) (w₁ w₂ : Lent Workspace) {P P₁ P₂ T T₁ T₂ : List ℕ} {r₁ r₂ : Returned Counts} (lends : (slices_in w₁).before ≡ (slices_in w₂).before) where
  -- two answers to one text agree, where the same is lent
  pub text_unique : {read : Read} → TextCall read w₁ room (from P P₁) (from T T₁) r₁ → TextCall read w₂ room (from P P₂) (from T T₂) r₂
      → Same r₁ r₂ (slices_in w₁).after (slices_in w₂).after P₁ P₂ T₁ T₂
  text_unique a b =
      let same = on_text_unique report_call (λ t b a₁ a₂ r₁ r₂. text_call_unique report_text t) w₁ w₂ lends a.1 b.1 in
      record {
        returned = same.0;
        slices = ap (λ (m : Memory). m.slices) same.1;
        plans = ap (λ (m : Memory). m.plans) same.1;
        text = ap (λ (m : Memory). m.text) same.1;
      }

  -- and so do two reports of one task without entries: they are answers to a text that says it
  pub print_unique : {t : Task} → PrintCall t w₁ room (from P P₁) (from T T₁) r₁ → PrintCall t w₂ room (from P P₂) (from T T₂) r₂
      → Same r₁ r₂ (slices_in w₁).after (slices_in w₂).after P₁ P₂ T₁ T₂
  print_unique {t} a b = text_unique (a.0, accepted_called report_call t refl a.1) (b.0, accepted_called report_call t refl b.1)

-- what is written is the report of the front
module _ {t : Task} {m : Lent Memory} {r : Returned Counts} (z : r.number ≡ 0) {lines : List Line} (front : Front t lines) where
  not_refused : {q : ℕ} {after : Memory} → Ends m r (refused (report_call t) q) after → 1 ≤ q → ⊥
  not_refused e h = omega (arith, z, h, ap (λ (u : Returned Counts). u.number) e.returns)

  promise_report : Promise (report_call t) m r → take r.values.bytes m.after.text ≡ report_text lines
  promise_report (no_to a e) = absurd (not_refused e (omega arith))
  promise_report (yes_to _ (no_to a e)) = absurd (not_refused e (omega arith))
  promise_report (yes_to _ (yes_to _ (no_to a e))) = absurd (not_refused e (omega arith))
  promise_report (yes_to _ (yes_to _ (yes_to _ (no_to a e)))) = absurd (not_refused e (omega arith))
  promise_report (yes_to _ (yes_to _ (yes_to _ (yes_to _ (no_to a e))))) = absurd (not_refused e (omega arith))
  promise_report (yes_to _ (yes_to _ (yes_to _ (yes_to _ (yes_to _ (no_to a e)))))) = absurd (not_refused e (omega arith))
  promise_report (yes_to _ (yes_to _ (yes_to _ (yes_to _ (yes_to _ (yes_to _ (answered d))))))) =
      let whole = report_text d.it in
      rw (ap (λ (u : Returned Counts). u.values.bytes) d.holds.returns, ap (λ (x : Memory). x.text) d.holds.leaves)
      (take_at whole (drop (length whole) m.before.text) (length whole) refl)
      ∙ ap report_text (front_unique t d.found front)

pub text_report : (room : ℕ) {read : Read} {w : Lent Workspace} {plans text : Lent (List ℕ)} {r : Returned Counts}
    → TextCall read w room plans text r → r.number ≡ 0
    → {lines : List Line} → Front read.task lines → take r.values.bytes text.after ≡ report_text lines
text_report room {read} {w} {plans} {text} {r} a z {lines} g = of a.1
  where
    of : OnText report_call read w (own_entries room a.0) plans text r → take r.values.bytes text.after ≡ report_text lines
    of (unread f x) = absurd (omega (arith, z, f, ap (λ (y : Returned Counts). y.number) x.returns))
    of (read_as y x) = promise_report z g x
