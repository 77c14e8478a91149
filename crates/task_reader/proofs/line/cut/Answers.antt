-- `task_reader::line::cut` meets its contract.
use Rattle.std.specs.Prelude.{ℕ, get_or}
use Rattle.std.proofs.Common.{arith}
use Rattle.task_reader.specs.Cut.{Adds}
use Rattle.task_reader.specs.Laws.Cut.{cutting_start, cut_all, cut_here, adds_plain, cut_more, cut_not}
use Rattle.task_reader.proofs.line.cut.Goals as goal

pub loop-i-init : goal.loop-i-init
loop-i-init c = cutting_start _ _

pub returns-then-byte-eq10-clause-some : goal.returns-then-byte-eq10-clause-some
returns-then-byte-eq10-clause-some c = let here = cut_here c.loop-i.invariant c.loop-i-test.true (omega arith) in grind arith

pub loop-i-preserved : goal.loop-i-preserved
loop-i-preserved c =
    let adds : Adds c.args.kind c.loop-i.digits (get_or c.args.text.now c.loop-i.i 0) c.in-Some.more = grind arith in
    let plain = adds_plain c.loop-i.invariant c.loop-i-test.true _ adds in
    cut_more c.loop-i.invariant c.loop-i-test.true plain _ adds

pub returns-in_default-clause-none : goal.returns-in_default-clause-none
returns-in_default-clause-none c =
    let none : (m : ℕ) → Adds c.args.kind c.loop-i.digits (get_or c.args.text.now c.loop-i.i 0) m → ⊥ = grind arith in
    cut_not c.loop-i.invariant c.loop-i-test.true (omega arith) none

pub returns-clause-some : goal.returns-clause-some
returns-clause-some c = let all = cut_all c.loop-i.invariant (omega arith) in grind arith
