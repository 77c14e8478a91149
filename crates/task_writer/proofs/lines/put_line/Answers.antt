-- `task_writer::lines::put_line` meets its contract: the key, the value and the newline, one behind the other.
use Rattle.std.proofs.Common.{◌≡◌, ap, arith, length}
use Rattle.task_format.specs.Lines.{kind_of, field}
use Rattle.task_format.specs.Render.{value_text}
use Rattle.text_output.specs.Laws.Puts.{puts_append}
use Rattle.task_writer.specs.Laws.Puts.{line_length, line_is, value_same, value_holds}
use Rattle.task_writer.proofs.lines.put_line.Goals.{After-field_of}
use Rattle.task_writer.proofs.lines.put_line.Goals as goal

-- the value that is put is the one of the line
same : (c : After-field_of)
    → value_text c.kind_of.result c.field_of.result ≡ value_text (kind_of c.args.task.facts c.args.line) (field c.args.task c.args.line)
same c =
    let task = c.task-task.ensures.same in
    value_same c.args.task c.args.line _ _ (rw task at c.kind_of.ensures) (rw task at c.field_of.ensures)

pub put_bytes-requires : goal.put_bytes-requires
put_bytes-requires c = omega (arith, c.requires, ap length c.key_of.ensures, line_length c.args.task c.args.line)

pub put_value-requires : goal.put_value-requires
put_value-requires c =
    let a = c.args in
    let task = c.task-task.ensures in
    let holds = value_holds a.task task.valid a.line c.requires.0 c.requires.1 _ _ (rw task.same at c.kind_of.ensures) (rw task.same at c.field_of.ensures) in
    let long = ap length (same (goal.at.put_value-requires c).After-field_of) in
    (holds.0, holds.1, omega (arith, c.requires, ap length c.key_of.ensures, long, line_length a.task a.line))

pub put_byte-requires : goal.put_byte-requires
put_byte-requires c =
    let long = ap length (same (goal.at.put_byte-requires c).After-field_of) in
    omega (arith, c.requires, ap length c.key_of.ensures, long, line_length c.args.task c.args.line)

pub returns : goal.returns
returns c =
    let key = rw c.key_of.ensures at c.put_bytes.ensures in
    let value = rw (same (goal.at.returns c).After-field_of) at c.put_value.ensures in
    let put = puts_append key (puts_append value c.put_byte.ensures) in
    rw (line_is c.args.task c.args.line) (record { same = put.same; text = put.text; end = omega (arith, put.end); size = put.size })
