-- `report::call::print` meets its contract.
use Rattle.std.proofs.Common.{◌≡◌, rules, Err}
use Rattle.rows.specs.Laws.Cleared.{filled_rows}
use Rattle.report.specs.Laws.Promise.{refusal_printed, lines_printed}
use Rattle.report.proofs.call.print.Goals as goal

pub returns-in_err-written-clause-called : goal.returns-in_err-written-clause-called
returns-in_err-written-clause-called c =
    let e : c.from_residual.result ≡ Err c.in_err-written.field-0.0 = search rules in
    rw e (refusal_printed _ _ _ _ _ _ _ c.in_err-written.ensures.listed)

pub returns-clause-called : goal.returns-clause-called
returns-clause-called c = lines_printed _ _ _ _ _ _ _ c.in_ok-written.ensures.listed (filled_rows 8 _ c.fill.ensures.after)
