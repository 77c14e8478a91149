-- `task_writer::write` meets its contract.
use Rattle.std.proofs.Common.{◌≡◌, ap, ◌∙◌, rules, arith, Err}
use Rattle.std.proofs.Math.Seq.{take-append_seam}
use Rattle.strips.specs.Task.{Valid}
use Rattle.outcome.specs.declared.Refusal.TheVariants.{InvalidTask}
use Rattle.task_format.specs.Render.{render}
use Rattle.task_writer.specs.Written.{wrote, returned}
use Rattle.task_writer.specs.Laws.Written.{write_invalid, write_valid, wrote_no, wrote_yes, roomy}
use Rattle.task_writer.proofs.write.Goals.{In_ok-task}
use Rattle.task_writer.proofs.write.Goals as goal

-- the task is valid where the text is made
valid : (c : In_ok-task) → (c.in_ok-task.task ≡ c.args.task) × Valid c.args.task
valid c = (search rules, search rules)

pub returns-in_err-task : goal.returns-in_err-task
returns-in_err-task c =
    let e : c.from_residual.result ≡ Err InvalidTask = search rules in
    let invalid : Valid c.args.task → ⊥ = search rules in
    rw e (write_invalid c.args.task c.args.out.now invalid)

pub write_text-n-requires : goal.write_text-n-requires
write_text-n-requires c =
    let v = valid (goal.at.write_text-n-requires c).In_ok-task in
    rw v.0 (roomy c.args.task v.1)

pub returns-then-out-n : goal.returns-then-out-n
returns-then-out-n c =
    let t = c.args.task in
    let v = valid (goal.at.returns-then-out-n c).In_ok-task in
    let made = rw v.0 at c.write_text-n.ensures in
    write_valid t c.args.out.now _ _ v.1 (wrote_no t c.args.out.now (omega (arith, made.bytes)))

pub returns : goal.returns
unfolding returned
returns c =
    let t = c.args.task in
    let v = valid (goal.at.returns c).In_ok-task in
    let made = rw v.0 at c.write_text-n.ensures in
    let whole = write_valid t c.args.out.now _ _ v.1 (wrote_yes t c.args.out.now (omega (arith, made.bytes))) in
    record {
      output = rw (c.copy_from_slice.ensures.after, made.text, made.bytes, take-append_seam (render t)) whole.output;
      answer = ap wrote (omega (arith, made.bytes)) ∙ whole.answer;
    }
