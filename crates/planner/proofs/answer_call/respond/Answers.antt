-- `planner::answer_call::respond` meets its contract.
use Rattle.std.proofs.Common.{rules, sym, ◌∙◌, ◌≤◌, arith, length, length-take-le}
use Rattle.rows.specs.Cleared.{everywhere}
use Rattle.planner.specs.Laws.Answer.{end_within, end_from, plan_ready}
use Rattle.planner.specs.Laws.Questions.{stage_cleared}
use Rattle.planner.proofs.answer_call.respond.Goals as goal

pub answer_row-answered-requires : goal.answer_row-answered-requires
answer_row-answered-requires c =
    let x = c.find_response_within-found in
    let room : c.args.n ≤ length x.new.work.rows.now = omega (arith, c.requires.spacious.rows, x.ensures.same.row_places) in
    plan_ready _ _ _ _ _ (end_within c.args.task c.args.s x.result _ _ room x.ensures.found)

pub returns-clause-answered : goal.returns-clause-answered
unfolding everywhere
returns-clause-answered c p e =
    let x = c.find_response_within-found in
    let room : c.args.n ≤ length x.new.work.rows.now = omega (arith, c.requires.spacious.rows, x.ensures.same.row_places) in
    let searched = end_within c.args.task c.args.s x.result _ _ room x.ensures.found in
    stage_cleared {w = c.args.work.now} {w₁ = x.new.work} x.ensures.same (search rules) c.args.task p
    (c.answer_row-answered.ensures c.args.task p _ (sym c.requires.shortest ∙ sym (length-take-le _ _ room)) (end_from c.args.task _ _ x.result e searched))
