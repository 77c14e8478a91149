-- `task_writer::lines::put_lines` meets its contract. The loop's invariant: the lines from this one on are left to be put.
use Rattle.std.proofs.Common.{◌+◌, ◌-◌}
use Rattle.task_format.specs.Lines.{last_line}
use Rattle.task_format.specs.Render.{lines_text, render}
use Rattle.text_output.specs.Laws.Puts.{Left}
use Rattle.task_writer.proofs.lines.put_lines.Given as goal

abbrev pub invariant-loop-line : goal.invariant-loop-line
invariant-loop-line l = Left (render l.task) l.fn.out (lines_text (last_line l.task + 1 - l.line) l.line l.task) l.out
