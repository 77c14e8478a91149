-- `value_reader::values::join` meets its contract.
use Rattle.std.proofs.Common.{rules, arith}
use Rattle.std.proofs.lemmas.Result.{err_from_is_err_and}
use Rattle.value_reader.specs.Laws.Members.{join_outside, join_bad, join_flat, join_good}
use Rattle.value_reader.proofs.values.join.Goals as goal

pub returns-then-member-lt1 : goal.returns-then-member-lt1
returns-then-member-lt1 c ms r =
    let a = c.args in
    join_outside a.most a.line a.member ms (λ b. search rules)

pub returns-in_err-before : goal.returns-in_err-before
returns-in_err-before c ms r =
    let a = c.args in
    let p = err_from_is_err_and c.from_residual.result c.from_residual.ensures.1 in
    let read = rw c.in_err-before.was at r in
    rw (p.1, p.2) (join_bad a.most a.line a.member (omega arith, omega arith) ms _ read)

pub returns-then-member-before : goal.returns-then-member-before
returns-then-member-before c ms r =
    let a = c.args in
    let read = rw c.in_ok-before.was at r in
    join_flat a.most a.line a.member (omega arith, omega arith) ms _ read (omega arith)

pub returns : goal.returns
returns c ms r =
    let a = c.args in
    let read = rw c.in_ok-before.was at r in
    join_good a.most a.line a.member (omega arith, omega arith) ms _ read (omega arith) c.requires.0
