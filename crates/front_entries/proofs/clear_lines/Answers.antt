-- `front_entries::clear_lines` meets its contract.
use Rattle.std.proofs.Common.{sym, ◌∙◌}
use Rattle.rows.specs.Laws.Cleared.{filled_rows}
use Rattle.front_entries.specs.Laws.Entries.{left_cleared}
use Rattle.front_entries.proofs.clear_lines.Goals as goal

pub returns-then-n-gt0 : goal.returns-then-n-gt0
returns-then-n-gt0 c = filled_rows 8 _ c.fill.ensures.after ∙ sym (left_cleared _ _ c.if-n-gt0.true)
