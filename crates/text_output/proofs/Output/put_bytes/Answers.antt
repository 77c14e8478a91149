-- `text_output::Output::put_bytes` meets its contract.
use Rattle.std.proofs.Common.{arith}
use Rattle.text_output.specs.Laws.Puts.{putting_start, putting_more, putting_all}
use Rattle.text_output.proofs.Output.put_bytes.Goals as goal

pub loop-i-init : goal.loop-i-init
loop-i-init c = putting_start _ _

pub overflow_add-self : goal.overflow_add-self
overflow_add-self c = omega (arith, c.loop-i.invariant.end)

pub bounds-self-self : goal.bounds-self-self
bounds-self-self c = omega (arith, c.loop-i.invariant.end, c.loop-i.invariant.size)

pub loop-i-preserved : goal.loop-i-preserved
loop-i-preserved c = putting_more c.loop-i.invariant c.loop-i-test.true

pub returns : goal.returns
returns c = putting_all c.loop-i.invariant (omega arith)
