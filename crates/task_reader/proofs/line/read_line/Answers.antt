-- `task_reader::line::read_line` meets its contract.
use Rattle.std.specs.Prelude.{◌≡◌, ◌++◌, [], Some, None}
use Rattle.std.proofs.Common.{refl, arith, rules}
use Rattle.std.proofs.lemmas.List.{nil_from_length}
use Rattle.std.proofs.lemmas.Result.{err_from_is_err_and}
use Rattle.outcome.specs.declared.Refusal.TheVariants.{WrongKey, Malformed}
use Rattle.task_format.specs.Lines.{key_of}
use Rattle.task_format.specs.Text.{first_line, behind_line}
use Rattle.task_format.specs.Value.{InForm}
use Rattle.task_format.specs.Laws.Fields.{modest}
use Rattle.task_reader.specs.Laws.Line.{key_found, key_missing, stops_missing, stops_key, stops_form, stops_value, says_value}
use Rattle.task_reader.proofs.line.read_line.Goals.{After-cut, In_ok-value}
use Rattle.task_reader.proofs.line.read_line.Goals as goal

pub returns-then-is_empty-clause-err : goal.returns-then-is_empty-clause-err
returns-then-is_empty-clause-err c = stops_missing _ _ _ (search (rules, nil_from_length))

pub returns-in_err-from_value-clause-err : goal.returns-in_err-from_value-clause-err
returns-in_err-from_value-clause-err c =
    let some : c.args.text.now ≡ [] → ⊥ = λ e. search rules in
    let p = err_from_is_err_and c.from_residual.result c.from_residual.ensures.1 in
    let none : c.strip_prefix.result ≡ None = grind arith in
    let q : c.in_err-from_value.field-0.0 ≡ WrongKey c.args.line = grind arith in
    rw (p.1, p.2, q) (stops_key _ _ _ some (key_missing _ _ _ c.key_of.ensures _ c.strip_prefix.ensures.cases none))

-- where the key is found, the text goes on with the value
key : (c : After-cut) → c.args.text.now ≡ key_of c.args.line ++ c.in_ok-from_value.from_value.now
key c =
    let found : c.strip_prefix.result ≡ Some c.in_ok-from_value.from_value = grind arith in
    key_found c.args.line _ _ c.key_of.ensures _ c.strip_prefix.ensures.cases found

some : (c : After-cut) → c.args.text.now ≡ [] → ⊥
some c e = search rules

pub returns-in_err-value-clause-err : goal.returns-in_err-value-clause-err
returns-in_err-value-clause-err c =
    let at = goal.at.returns-in_err-value-clause-err c in
    let p = err_from_is_err_and c.from_residual-in_err-value.result c.from_residual-in_err-value.ensures.1 in
    let q : c.in_err-value.field-0.0 ≡ Malformed c.args.line = grind arith in
    let none : InForm c.kind_of-kind.result (first_line c.in_ok-from_value.from_value.now) → ⊥ = grind arith in
    rw (p.1, p.2, q) (stops_form _ _ _ (some at.After-cut) _ (key at.After-cut) _ refl _ refl (rw c.kind_of-kind.ensures at none))

-- where no byte speaks against it, the value and the text behind its line are there
cut : (c : In_ok-value) → let u = c.in_ok-from_value.from_value.now in (c.in_ok-value.value.now ≡ first_line u) × (c.in_ok-value.rest.now ≡ behind_line u)
cut c = grind arith

pub read_value-requires : goal.read_value-requires
read_value-requires c = rw c.kind_of-kind.ensures (modest c.args.facts c.requires c.args.line)

pub returns-in_err-content-clause-err : goal.returns-in_err-content-clause-err
returns-in_err-content-clause-err c =
    let at = goal.at.returns-in_err-content-clause-err c in
    let p = err_from_is_err_and c.from_residual-in_err-content.result c.from_residual-in_err-content.ensures.1 in
    let parts = cut at.In_ok-value in
    let answered = rw c.kind_of-kind.ensures at c.in_err-content.ensures in
    rw (p.1, p.2) (stops_value _ _ _ (some at.After-cut) _ (key at.After-cut) _ parts.0 _ parts.1 _ answered)

pub returns-clause-ok : goal.returns-clause-ok
returns-clause-ok c =
    let at = goal.at.returns-clause-ok c in
    let parts = cut at.In_ok-value in
    let answered = rw c.kind_of-kind.ensures at c.in_ok-content.ensures in
    says_value _ _ _ (some at.After-cut) _ (key at.After-cut) _ parts.0 _ parts.1 _ answered
