-- `value_reader::values::number` meets its contract. The loop's invariant: the bytes so far are digits, which say the number so far.
use Rattle.value_reader.specs.Laws.Numbers.{Digits}
use Rattle.value_reader.proofs.values.number.Given as goal

abbrev pub invariant-loop-byte : goal.invariant-loop-byte
invariant-loop-byte l = Digits l.bytes l.byte-index l.n
