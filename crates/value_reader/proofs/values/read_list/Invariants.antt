-- `value_reader::values::read_list` meets its contract. The loop's invariant: the parts so far get a yes to 4, the marks tell of 17 and 18, and `members` is
-- what the parts come to.
use Rattle.std.specs.Prelude.{map}
use Rattle.value_reader.specs.Laws.Answered.{Listed}
use Rattle.value_reader.proofs.values.read_list.Given as goal

abbrev pub invariant-loop-part : goal.invariant-loop-part
invariant-loop-part l = Listed l.most l.line (map (λ p. p.now) l.yielded) l.filled l.unpadded l.members
