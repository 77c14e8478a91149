-- `text_output::Output::put_bytes` meets its contract. The loop's invariant is `Putting`.
use Rattle.text_output.specs.Laws.Puts.{Putting}
use Rattle.text_output.proofs.Output.put_bytes.Given as goal

abbrev pub invariant-loop-i : goal.invariant-loop-i
invariant-loop-i l = Putting l.bytes l.fn.self l.i l.self
