-- `value_reader::values::read_number` meets its contract.
use Rattle.std.specs.Prelude.{◌≡◌}
use Rattle.std.proofs.Common.{arith, rules}
use Rattle.std.proofs.lemmas.Result.{err_from_is_err_and}
use Rattle.outcome.specs.declared.Refusal.TheVariants.{Malformed}
use Rattle.task_format.specs.Value.{All, IsDigit, Short, IsNumber, decimal}
use Rattle.value_reader.specs.Laws.Answered.{number_malformed, number_padded, number_outside, number_inside}
use Rattle.value_reader.proofs.values.read_number.Goals as goal

pub returns-in_err-n : goal.returns-in_err-n
returns-in_err-n c =
    let a = c.args in
    let p = err_from_is_err_and c.from_residual.result c.from_residual.ensures.1 in
    let q : c.in_err-n.field-0.0 ≡ Malformed a.line = grind arith in
    rw (p.1, p.2, q) (number_malformed a.low a.high a.line a.value.now (λ f. grind arith))

pub returns-then-is_empty : goal.returns-then-is_empty
returns-then-is_empty c = let a = c.args in number_malformed a.low a.high a.line a.value.now (λ f. search rules)

pub returns-then-not-no_leading_zero : goal.returns-then-not-no_leading_zero
returns-then-not-no_leading_zero c =
    let a = c.args in
    let w : All IsDigit a.value.now × Short a.value.now × (c.in_ok-n.n ≡ decimal a.value.now) = grind arith in
    number_padded a.low a.high a.line a.value.now w.0 w.1 (search rules) (search rules)

pub returns-then-n-low : goal.returns-then-n-low
returns-then-n-low c =
    let a = c.args in
    let w : IsNumber a.value.now × (c.in_ok-n.n ≡ decimal a.value.now) = grind arith in
    number_outside a.low a.high a.line a.value.now w.0 c.in_ok-n.n w.1 (λ b. search rules)

pub returns : goal.returns
returns c =
    let a = c.args in
    let w : IsNumber a.value.now × (c.in_ok-n.n ≡ decimal a.value.now) = grind arith in
    rw c.from.ensures (number_inside a.low a.high a.line a.value.now w.0 c.in_ok-n.n w.1 (search rules))
