-- `text_output::put_number` meets its contract.
use Rattle.std.proofs.Common.{refl, ap, ◌∙◌, ◌∷◌, [], ◌+◌, ◌%◌, ◌/◌, arith, length}
use Rattle.std.proofs.Math.Seq.{length-sets}
use Rattle.task_format.specs.Render.{digits_of}
use Rattle.text_output.specs.Puts.{number_digits}
use Rattle.text_output.specs.Laws.Digits.{number_short, number_long, long_length}
use Rattle.text_output.specs.Laws.Puts.{sets_append}
use Rattle.text_output.proofs.+put_number.Goals.{After-slice_known-2-1}
use Rattle.text_output.proofs.+put_number.Goals as goal

pub bounds-bytes-at : goal.bounds-bytes-at
bounds-bytes-at t c = omega (arith, ap length (number_short c.args.n c.if-n-lt10.true))

pub returns-then-n-lt10-clause-text : goal.returns-then-n-lt10-clause-text
returns-then-n-lt10-clause-text t c = rw (number_short c.args.n c.if-n-lt10.true) refl

pub returns-then-n-lt10-clause-end : goal.returns-then-n-lt10-clause-end
returns-then-n-lt10-clause-end t c = omega (arith, ap length (number_short c.args.n c.if-n-lt10.true))

pub put_number-end-requires : goal.put_number-end-requires
put_number-end-requires t c = omega (arith, long_length c.args.n c.if-n-lt10.false (omega arith))

pub bounds-bytes-end : goal.bounds-bytes-end
bounds-bytes-end t c =
    let front = digits_of number_digits (c.args.n / 10) in
    let size = ap length c.put_number-end.ensures.text ∙ length-sets c.args.bytes.now c.args.at front in
    omega (arith, size, c.put_number-end.ensures.end, long_length c.args.n c.if-n-lt10.false (omega arith))

pub overflow_add-result-2 : goal.overflow_add-result-2
overflow_add-result-2 t c = omega (arith, c.put_number-end.ensures.end, long_length c.args.n c.if-n-lt10.false (omega arith))

pub returns-clause-text : goal.returns-clause-text
returns-clause-text t c =
    let front = digits_of number_digits (c.args.n / 10) in
    let p = c.put_number-end.ensures in
    rw (p.text, p.end, number_long c.args.n c.if-n-lt10.false (omega arith)) (sets_append front ((48 + c.args.n % 10) ∷ []) c.args.bytes.now c.args.at)

pub returns-clause-end : goal.returns-clause-end
returns-clause-end t c = omega (arith, c.put_number-end.ensures.end, long_length c.args.n c.if-n-lt10.false (omega arith))
