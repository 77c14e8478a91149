-- `report::call::report` meets its contract.
use Rattle.std.proofs.Common.{◌≡◌, refl, ap, ◌∙◌, rules, Err}
use Rattle.outcome.specs.Laws.Refusal.{number_some}
use Rattle.questions.specs.Call.{Returned}
use Rattle.front_entries.specs.Laws.Entries.{left_cleared}
use Rattle.front.specs.Laws.Promise.{none_stored, all_stored}
use Rattle.report.specs.ReportCall.{Counts}
use Rattle.report.specs.Laws.Promise.{entries_room}
use Rattle.report.proofs.call.report.Goals as goal

pub returns-in_err-written-clause-called : goal.returns-in_err-written-clause-called
returns-in_err-written-clause-called c =
    let e : c.from_residual.result ≡ Err c.in_err-written.field-0.0 = search rules in
    rw e (none_stored _ _ _ _ _ _ c.in_err-written.ensures.listed (number_some _))

pub take_entries-requires : goal.take_entries-requires
take_entries-requires c = entries_room _ c.in_ok-written.ensures.listed

pub returns-clause-called : goal.returns-clause-called
returns-clause-called c =
    let take = c.take_entries.ensures in
    all_stored _ _ _ _ _ _ c.in_ok-written.ensures.listed _ _ _ (λ lines e. ap (λ (r : Returned Counts). r.values.entries) e) refl take.0
    (λ h. take.1 ∙ left_cleared _ _ h)
