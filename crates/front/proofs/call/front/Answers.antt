-- `front::call::front` meets its contract.
use Rattle.std.proofs.Common.{◌≡◌, refl, ap, ◌∙◌, ℕ, rules, Err}
use Rattle.outcome.specs.Laws.Refusal.{number_some}
use Rattle.questions.specs.Call.{Returned}
use Rattle.front_entries.specs.Laws.Entries.{left_cleared}
use Rattle.front.specs.Laws.Promise.{none_stored, all_stored, none_written, all_written}
use Rattle.front.proofs.call.front.Goals as goal

pub returns-in_err-count-clause-called : goal.returns-in_err-count-clause-called
returns-in_err-count-clause-called c =
    let e : c.from_residual.result ≡ Err c.in_err-count.field-0.0 = search rules in
    rw e (none_stored _ _ _ _ _ _ (none_written _ _ _ _ _ _ c.in_err-count.ensures.asked) (number_some _))

pub returns-clause-called : goal.returns-clause-called
returns-clause-called c =
    let take = c.take_entries.ensures in
    let written = all_written _ _ _ _ _ _ (rw c.new.ensures.lines at c.write_plans.ensures) c.in_ok-count.ensures.asked in
    all_stored _ _ _ _ _ _ written _ _ _ (λ lines e. ap (λ (r : Returned ℕ). r.values) e) refl take.0 (λ h. take.1 ∙ left_cleared _ _ h)
