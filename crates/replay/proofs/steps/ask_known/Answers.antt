-- `replay::steps::ask_known` meets its contract.
use Rattle.std.proofs.Common.{◌≡◌, ◌+◌, ap, arith, rules, sym, length, drop, get_or}
use Rattle.strips.specs.Plan.{Known}
use Rattle.outcome.specs.declared.Refusal.TheVariants.{UnknownAction}
use Rattle.replay.specs.Replay.{known_steps}
use Rattle.replay.specs.Laws.Steps.{known_more, known_no_more, known_end}
use Rattle.replay.proofs.steps.ask_known.Goals as goal

pub returns-then-not-contains : goal.returns-then-not-contains
returns-then-not-contains c =
    let earlier = c.args.earlier in
    let unknown : Known c.args.count (get_or c.args.plan.now c.loop-i.i 0) → ⊥ = λ k. search rules in
    let no_more = known_no_more c.args.count c.args.plan.now c.loop-i.i c.loop-i-test.true unknown in
    let here : known_steps c.args.count c.args.plan.now ≡ c.loop-i.i = omega (arith, c.loop-i.invariant, no_more) in
    record { before = omega arith; refusal = ap (λ n. UnknownAction (earlier + n + 1)) (sym here) }

pub loop-i-preserved : goal.loop-i-preserved
loop-i-preserved c =
    let known : Known c.args.count (get_or c.args.plan.now c.loop-i.i 0) = search rules in
    omega (arith, c.loop-i.invariant, known_more c.args.count c.args.plan.now c.loop-i.i c.loop-i-test.true known)

pub returns : goal.returns
returns c =
    let plan = c.args.plan.now in
    let whole : c.loop-i.i ≡ length plan = omega arith in
    omega (arith, c.loop-i.invariant, ap (λ i. known_steps c.args.count (drop i plan)) whole, known_end c.args.count plan)
