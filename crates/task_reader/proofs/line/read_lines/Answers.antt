-- `task_reader::line::read_lines` meets its contract.
use Rattle.std.proofs.Common.{arith, rules}
use Rattle.std.proofs.lemmas.List.{nil_from_length}
use Rattle.strips.specs.Laws.Zeros.{default_zeros}
use Rattle.task_format.specs.Parse.{zeros}
use Rattle.task_reader.specs.Laws.Line.{on_begin, on_next, on_end, on_more}
use Rattle.task_reader.proofs.line.read_lines.Goals as goal

pub loop-line-init : goal.loop-line-init
unfolding zeros
loop-line-init c = on_begin _ _ (default_zeros _ c.default-task.ensures)

pub loop-line-preserved : goal.loop-line-preserved
loop-line-preserved c = on_next c.loop-line.invariant (omega arith) _ _ c.in_ok-content.ensures.ok _ c.store.ensures

pub returns-then-not-is_empty : goal.returns-then-not-is_empty
returns-then-not-is_empty c = on_more c.loop-line.invariant (omega arith) (λ e. search rules)

pub returns : goal.returns
returns c = on_end c.loop-line.invariant (omega arith) (search (rules, nil_from_length))
