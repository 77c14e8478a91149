-- `front_lines::selection::is_preferred` meets its contract.
use Rattle.std.proofs.Common.{sym, ◌∙◌}
use Rattle.front_lines.specs.Laws.Selection.{higher_answer}
use Rattle.front_lines.proofs.selection.is_preferred.Goals as goal

pub returns-then-not-is_at_most : goal.returns-then-not-is_at_most
returns-then-not-is_at_most c =
    higher_answer c.args.row.now c.args.other.now (rw (c.answer-a.ensures, c.answer-b.ensures) at (sym c.is_at_most.ensures ∙ c.if-not-is_at_most.true))
