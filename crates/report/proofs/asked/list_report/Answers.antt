-- `report::asked::list_report` meets its contract.
use Rattle.std.specs.Prelude.{Result, Ok, Err}
use Rattle.std.specs.Result.{is_err}
use Rattle.std.proofs.Common.{◌≡◌, true, false, ◌≤◌, refl, arith}
use Rattle.outcome.specs.Laws.Refusal.{number_some}
use Rattle.outcome.specs.declared.Refusal.{Refusal}
use Rattle.rows.specs.Laws.Cleared.{filled_rows}
use Rattle.report.specs.declared.Written.{Written}
use Rattle.report.specs.ReportCall.{returned}
use Rattle.report.specs.Laws.Listed.{report_listed}
use Rattle.report.proofs.asked.list_report.Goals as goal

refused : (r : Result Written Refusal) → true ≡ is_err r → 1 ≤ (returned r).number
refused (Ok w) e = grind arith
refused (Err q) e = number_some q

done : (r : Result Written Refusal) → false ≡ is_err r → (returned r).number ≡ 0
done (Ok w) e = refl
done (Err q) e = grind arith

pub returns-then-is_err-clause-listed : goal.returns-then-is_err-clause-listed
returns-then-is_err-clause-listed c =
    let some = refused _ c.if-is_err.ensures.value in
    report_listed _ _ _ _ _ _ _ _ (λ _. filled_rows 8 _ c.fill.ensures.after) (λ h. absurd (omega (arith, h, some)))
    _ c.in_ok-count.ensures.asked (rw c.new.ensures.lines at c.print_lines-printed.ensures)

pub returns-else-is_err-clause-listed : goal.returns-else-is_err-clause-listed
returns-else-is_err-clause-listed c =
    let none = done _ c.if-is_err.ensures.value in
    report_listed _ _ _ _ _ _ _ _ (λ h. absurd (omega (arith, h, none))) (λ _. refl)
    _ c.in_ok-count.ensures.asked (rw c.new.ensures.lines at c.print_lines-printed.ensures)
