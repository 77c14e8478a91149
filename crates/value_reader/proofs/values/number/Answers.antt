-- `value_reader::values::number` meets its contract.
use Rattle.std.proofs.Common.{arith}
use Rattle.value_reader.specs.Laws.Numbers.{digits_more, digits_all}
use Rattle.value_reader.proofs.values.number.Goals as goal

pub loop-byte-preserved : goal.loop-byte-preserved
loop-byte-preserved c =
    let d = c.if-not-is_ascii_digit.ensures.cases in
    rw c.from.ensures (digits_more c.loop-byte.invariant c.loop-byte-test.true (omega (arith, d), omega (arith, d)))

pub returns-clause-some : goal.returns-clause-some
returns-clause-some c =
    let d = digits_all c.loop-byte.invariant c.loop-byte-test.false in
    (d.0, omega (arith, c.if-bytes-gt-MAX_DIGITS.false), d.1)
