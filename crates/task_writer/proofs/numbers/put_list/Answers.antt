-- `task_writer::numbers::put_list` meets its contract.
use Rattle.std.proofs.Common.{Bool, false, ◌+◌, ◌/◌, ◌≤◌, ◌∙◌, arith}
use Rattle.text_output.specs.Laws.Puts.{left_room, left_more, left_none}
use Rattle.task_writer.specs.Puts.{member_text}
use Rattle.task_writer.specs.Laws.Puts.{list_turn, list_skip, list_done}
use Rattle.task_writer.proofs.numbers.put_list.Goals.{then-rest-eq1, else-rest-eq1}
use Rattle.task_writer.proofs.numbers.put_list.Goals as goal

pub put_member-requires : goal.put_member-requires
put_member-requires c =
    let at = c.loop-fact in
    let turn = list_turn at.first c.args.facts at.fact at.rest (omega arith) c.if-rest-eq1.true in
    (omega arith, left_room at.invariant (member_text at.first at.fact) _ turn c.requires.1)

pub loop-fact-preserved : goal.loop-fact-preserved
loop-fact-preserved c =
    let at = c.loop-fact in
    let few : at.fact ≤ c.args.facts = omega arith in
    elim c.if-rest-eq1.branch [
      | then-rest-eq1 w ↦
          let turn = list_turn at.first c.args.facts at.fact at.rest few w.if-rest-eq1.true in
          rw (w.first-is, w.out-is) (left_more at.invariant (member_text at.first at.fact) _ turn w.put_member.ensures)
      | else-rest-eq1 w ↦
          rw (w.first-is, w.out-is, ← list_skip at.first c.args.facts at.fact at.rest few w.if-rest-eq1.false) at.invariant
    ]

pub returns : goal.returns
returns c = left_none c.loop-fact.invariant (list_done c.loop-fact.first c.args.facts c.loop-fact.fact c.loop-fact.rest (omega arith))

pub returns-after-rest-eq1 : goal.returns-after-rest-eq1
returns-after-rest-eq1 c =
    let at = c.loop-fact in
    let few : at.fact ≤ c.args.facts = omega arith in
    let none = λ (first : Bool). list_done first c.args.facts (at.fact + 1) (at.rest / 2) (omega arith) in
    elim c.if-rest-eq1.branch [
      | then-rest-eq1 w ↦
          let turn = list_turn at.first c.args.facts at.fact at.rest few w.if-rest-eq1.true in
          rw w.out-is (left_none (left_more at.invariant (member_text at.first at.fact) _ turn w.put_member.ensures) (none false))
      | else-rest-eq1 w ↦
          rw w.out-is (left_none at.invariant (list_skip at.first c.args.facts at.fact at.rest few w.if-rest-eq1.false ∙ none at.first))
    ]
