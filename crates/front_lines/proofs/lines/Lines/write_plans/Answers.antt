-- `front_lines::lines::Lines::write_plans` meets its contract.
use mathlib.Core.Path.{ap}
use native.Mathlib.Omega.{arith}
use lib.ListN.{length, length-drop}
use Rattle.std.proofs.Common.{◌<◌}
use Rattle.pareto.specs.Laws.Layout.{rest_of}
use Rattle.front_lines.specs.Lines.{plans_of}
use Rattle.front_lines.specs.Laws.Plans.{written_start, line_fits, written_more}
use Rattle.front_lines.proofs.lines.Lines.write_plans.Goals as goal

pub loop-k-init : goal.loop-k-init
loop-k-init c = written_start c.args.self.now c.args.plans.now

pub write_line-at-requires : goal.write_line-at-requires
write_line-at-requires c =
    let at = c.loop-k in
    let inside : at.k < length c.args.self.now = omega (arith, c.loop-k-test.true, c.count-k-end.ensures.0) in
    let fits = line_fits c.args.self.now c.args.plans.now at.invariant inside c.requires in
    rw (ap plans_of c.row.ensures.line) (omega (arith, fits, ap length (rest_of at.at at.plans), length-drop at.at at.plans))

pub loop-k-preserved : goal.loop-k-preserved
loop-k-preserved c =
    let at = c.loop-k in
    let inside : at.k < length c.args.self.now = omega (arith, c.loop-k-test.true, c.count-k-end.ensures.0) in
    let fits = line_fits c.args.self.now c.args.plans.now at.invariant inside c.requires in
    let wrote = rw (ap plans_of c.row.ensures.line) at c.write_line-at.ensures in
    written_more c.args.self.now c.args.plans.now at.invariant _ _ inside (omega (arith, fits)) wrote.0 (omega arith) wrote.1
