-- `task_writer::numbers::put_list` meets its contract. The loop's invariant: the facts from this one on are left to be put.
use Rattle.std.proofs.Common.{◌+◌, ◌-◌, true}
use Rattle.task_format.specs.Render.{facts_of, listed}
use Rattle.text_output.specs.Laws.Puts.{Left}
use Rattle.task_writer.proofs.numbers.put_list.Given as goal

abbrev pub invariant-loop-fact : goal.invariant-loop-fact
invariant-loop-fact l = Left (listed true (facts_of l.facts 1 l.set)) l.fn.out (listed l.first (facts_of (l.facts + 1 - l.fact) l.fact l.rest)) l.out
