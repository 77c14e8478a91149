-- `task_writer::lines::put_lines` meets its contract.
use Rattle.std.proofs.Common.{◌+◌, ◌-◌, ◌≤◌, arith}
use Rattle.task_format.specs.Lines.{last_line}
use Rattle.task_format.specs.Render.{lines_text, render}
use Rattle.text_output.specs.Laws.Puts.{Left, left_start, left_room, left_more, left_none}
use Rattle.task_writer.specs.Puts.{ended_line}
use Rattle.task_writer.specs.Laws.Puts.{lines_turn, lines_done, render_is}
use Rattle.task_writer.proofs.lines.put_lines.Goals.{In-loop-line, After-put_line}
use Rattle.task_writer.proofs.lines.put_lines.Goals as goal

-- the loop goes up to the last line
inside : (c : In-loop-line) → c.loop-line.line ≤ last_line c.args.task
inside c = let end = rw c.task.ensures.same at c.last_line-line-end.ensures in omega (arith, end)

-- and leaves the lines behind this one
more : (c : After-put_line)
    → Left (render c.args.task) c.args.out.now
    (lines_text (last_line c.args.task + 1 - (c.loop-line.line + 1)) (c.loop-line.line + 1) c.args.task)
    c.put_line.new.out
more c =
    let t = c.args.task in
    let n = c.loop-line.line in
    left_more c.loop-line.invariant (ended_line t n) _ (lines_turn t n (last_line t) (inside (goal.at.After-put_line c).In-loop-line)) c.put_line.ensures

pub loop-line-init : goal.loop-line-init
loop-line-init c = rw (← render_is c.args.task) (left_start _ _)

pub put_line-requires : goal.put_line-requires
put_line-requires c =
    let t = c.args.task in
    let n = c.loop-line.line in
    let low = inside (goal.at.put_line-requires c).In-loop-line in
    (omega arith, low, left_room c.loop-line.invariant (ended_line t n) _ (lines_turn t n (last_line t) low) c.requires)

pub loop-line-preserved : goal.loop-line-preserved
loop-line-preserved c = more (goal.at.loop-line-preserved c).After-put_line

pub returns-2 : goal.returns-2
returns-2 c =
    let end = rw c.task.ensures.same at c.last_line-line-end.ensures in
    left_none (more (goal.at.returns-2 c).After-put_line) (lines_done c.args.task (c.loop-line.line + 1) (last_line c.args.task) (omega (arith, end)))
