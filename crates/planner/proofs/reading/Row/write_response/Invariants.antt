-- `planner::reading::Row::write_response` meets its contract. The loop's invariant: k steps are written, and row x has those that are left.
use Rattle.planner.specs.Laws.Reading.{Walked}
use Rattle.planner.proofs.reading.Row.write_response.Given as goal

abbrev pub invariant-loop-step : goal.invariant-loop-step
invariant-loop-step l = Walked l.self-inside.rows.now l.self-inside.i l.step-index l.x l.initial.step-items l.step-items
