-- `value_reader::values::read_list` meets its contract.
use Rattle.std.specs.Prelude.{◌≡◌, None, [], map}
use Rattle.std.proofs.Common.{arith, rules, tests}
use Rattle.std.proofs.lemmas.List.{map-append, nil_from_length}
use Rattle.std.proofs.lemmas.Result.{err_from_is_err_and}
use Rattle.outcome.specs.declared.Refusal.TheVariants.{Malformed}
use Rattle.task_format.specs.Text.{parts}
use Rattle.task_format.specs.Value.{All, IsDigit, Short, decimal}
use Rattle.value_reader.specs.Laws.Answered.{Listed, listed_begin, listed_more}
use Rattle.value_reader.specs.Laws.Answered.{list_empty, list_malformed, list_not_filled, list_padded, list_good, list_bad}
use Rattle.value_reader.proofs.Parts.{part_turn, part_end}
use Rattle.value_reader.proofs.values.read_list.Goals.{After-split-part-items, After-next}
use Rattle.value_reader.proofs.values.read_list.Goals as goal

-- the value is not empty where it is split
some : (c : After-split-part-items) → c.args.value.now ≡ [] → ⊥
some c e = search rules

-- and where the loop ends, all its parts are read
all : (c : After-next) → c.next.result ≡ None
    → Listed c.args.most c.args.line (parts c.args.value.now) c.loop-part.filled c.loop-part.unpadded c.loop-part.members
all c e =
    let read : map (λ p. p.now) c.loop-part.yielded ≡ parts c.args.value.now =
    part_end _ _ _ c.loop-part.yielded _ c.loop-part.yielded_by _ _ c.next.ensures.steps (cc) (cc) (λ x b q k. search (rules, tests)) e in
    rw (← read) c.loop-part.invariant

pub returns-then-is_empty : goal.returns-then-is_empty
returns-then-is_empty c = list_empty c.args.most c.args.line c.args.value.now (search (rules, nil_from_length))

pub loop-part-init : goal.loop-part-init
loop-part-init c = listed_begin _ _

pub returns-in_err-member : goal.returns-in_err-member
returns-in_err-member c =
    let a = c.args in
    let p = err_from_is_err_and c.from_residual.result c.from_residual.ensures.1 in
    let q : c.in_err-member.field-0.0 ≡ Malformed a.line = grind arith in
    let step = c.next.ensures.steps in
    let turn = part_turn _ a.value.now _ c.loop-part.yielded _ c.loop-part.yielded_by _ _ step (cc) (cc) (λ x b q k. search (rules, tests)) _ c.in-Some.is in
    rw (p.1, p.2, q) (list_malformed _ _ _ (some (goal.at.returns-in_err-member c).After-split-part-items) _ _ _ turn.0 turn.1 (grind arith))

pub loop-part-preserved : goal.loop-part-preserved
loop-part-preserved c =
    let w : All IsDigit c.in-Some.part.now × Short c.in-Some.part.now × (c.in_ok-member.member ≡ decimal c.in-Some.part.now) = grind arith in
    simp map-append (listed_more _ _ _ _ _ _ _ c.loop-part.invariant w.0 w.1 w.2 (search (rules, tests)) c.no_leading_zero.ensures c.join-members.ensures)

pub returns-then-not-filled : goal.returns-then-not-filled
returns-then-not-filled c =
    let at = goal.at.returns-then-not-filled c in
    list_not_filled _ _ _ (some at.After-split-part-items) (all at.After-next c.in-None.is) (search rules)

pub returns-then-not-unpadded : goal.returns-then-not-unpadded
returns-then-not-unpadded c =
    let at = goal.at.returns-then-not-unpadded c in
    list_padded _ _ _ (some at.After-split-part-items) (all at.After-next c.in-None.is) (search rules) (search rules)

pub returns-in_err-members : goal.returns-in_err-members
returns-in_err-members c =
    let at = goal.at.returns-in_err-members c in
    let p = err_from_is_err_and c.from_residual-in_err-members.result c.from_residual-in_err-members.ensures.1 in
    rw (p.1, p.2)
    (list_bad _ _ _ (some at.After-split-part-items) (all at.After-next c.in-None.is) (search rules) (search rules) _ c.in_err-members.was)

pub returns : goal.returns
returns c =
    let at = goal.at.returns c in
    list_good _ _ _ (some at.After-split-part-items) (all at.After-next c.in-None.is) (search rules) (search rules) _ c.in_ok-members.was
