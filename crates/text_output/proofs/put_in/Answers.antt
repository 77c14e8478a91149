-- `text_output::put_in` meets its contract.
use Rattle.std.proofs.Common.{refl, rules}
use Rattle.std.specs.Fn.{FnOnceReturnsAtMut}
use Rattle.text_output.proofs.put_in.Goals as goal

pub returns : goal.returns
returns g c =
    let x : FnOnceReturnsAtMut g.F.FnOnce c.args.put _ c.put.result _ = record { shown = _; shows = refl; left = _; met = c.put.ensures; leaves = refl } in
    let same = c.requires.may.same _ _ _ x in
    record { first = _; last = _; begins = c.new-out.ensures.end; bytes = c.new-out.ensures.text; r = _; returns = x; left = search rules; ends = refl }
