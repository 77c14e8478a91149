-- With the entries stored, what `list_report` promises is what the calls promise; and that determines all.
use Rattle.std.specs.Prelude.{◌≡◌, refl, List, ◌++◌, map, ℕ, ◌≤◌, length, drop, replicate, Ok, Err}
use Rattle.std.proofs.Common.{ap, arith}
use Rattle.std.proofs.lemmas.List.{length-replicate}
use Rattle.strips.specs.declared.Task.{Task}
use Rattle.outcome.specs.Laws.Refusal.{number_some}
use Rattle.outcome.specs.declared.Entry.{Entry}
use Rattle.outcome.specs.declared.Refusal.{Refusal}
use Rattle.rows.specs.Cleared.{everywhere}
use Rattle.questions.specs.Lent.{Lent}
use Rattle.questions.specs.Memory.{Memory}
use Rattle.questions.specs.Call.{Returned, Promise}
use Rattle.questions.specs.Laws.Asked.{asked_either}
use Rattle.questions.specs.Laws.Unique.{left, promise_unique}
use Rattle.questions.specs.Laws.Workspace.{from_to, with_rows}
use Rattle.questions.specs.Workspace.{rows_in}
use Rattle.questions.specs.declared.workspace.Workspace.{Workspace}
use Rattle.pareto.specs.Front.{Line}
use Rattle.pareto.specs.Layout.{entry_for}
use Rattle.pareto.specs.Laws.Unique.{front_unique}
use Rattle.front_lines.specs.Lines.{lines_in, Listed}
use Rattle.front.specs.Laws.Promise.{none_stored, all_stored}
use Rattle.report.specs.declared.Written.{Written}
use Rattle.report.specs.ReportCall.{Counts, text_call, blank, PrintCall, returned}
use Rattle.report.specs.Asked.{ReportListed}

-- there is room for the entries of the lines, which can be read
pub entries_room : {t : Task} {w : Lent Workspace} {plans text : Lent (List ℕ)} {entries : ℕ} (found : Written)
    → ReportListed t w plans text entries (returned (Ok found)) → (found.entries ≤ entries) × Listed (rows_in w).after found.entries
entries_room {w = w} {entries = entries} found = asked_either
    (λ q x. absurd (omega (arith, x.some, ap (λ (y : Returned Counts). y.number) x.returns)))
    (λ d.
    let z : found.entries ≡ length d.it = ap (λ (y : Returned Counts). y.values.entries) d.holds.returns in
    rw z (d.holds.entries_fit, d.holds.left.held.listed))

-- where no entries are lent
module _ (t : Task) (b a₁ : Workspace) (room : ℕ) (plans text : Lent (List ℕ)) where
  own : List Entry
  own = replicate room blank

  with_own : {r : Returned Counts} → ReportListed t (from_to b a₁) plans text room r → ReportListed t (from_to b a₁) plans text (length own) r
  unfolding own
  with_own x = rw (length-replicate room blank) x

  pub refusal_printed : (q : Refusal) → ReportListed t (from_to b a₁) plans text room (returned (Err q))
      → PrintCall t (from_to b a₁) room plans text (returned (Err q))
  unfolding own
  refusal_printed q x = (own, none_stored _ _ _ _ t own (with_own x) (number_some q))

  pub lines_printed : {R' : List (List ℕ)} (found : Written) → ReportListed t (from_to b a₁) plans text room (returned (Ok found))
      → R' ≡ everywhere (replicate 8 0) a₁.rows.now → PrintCall t (from_to b (with_rows a₁ R')) room plans text (returned (Ok found))
  unfolding own
  lines_printed {R'} found x l =
      let left = map entry_for (lines_in a₁.rows.now found.entries) ++ drop found.entries own in
      (left, all_stored _ _ _ _ t own (with_own x) R' left found.entries (λ lines e. ap (λ (z : Returned Counts). z.values.entries) e) refl refl (λ _. l))

-- the promise determines what is returned, and what every lent place holds then; whatever the text of the lines
pub text_call_unique : (text_of : List Line → List ℕ) (t : Task) {b a₁ a₂ : Memory} {r₁ r₂ : Returned Counts} → Promise (text_call text_of t) (left b a₁) r₁
    → Promise (text_call text_of t) (left b a₂) r₂ → (r₁ ≡ r₂) × (a₁ ≡ a₂)
text_call_unique text_of t = promise_unique (text_call text_of t) (λ x y e f. front_unique t e f)
