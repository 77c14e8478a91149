-- `rows::words::put` meets its contract. The loan of the row as a slice says how many words it has.
use native.Mathlib.Omega.{arith}
use Rattle.std.specs.Prelude.{[], ◌<◌, length, get_or}
use Rattle.rows.specs.Laws.Columns.{stored}
use Rattle.rows.proofs.words.put.Goals as goal

pub returns : goal.returns
returns g c =
    let inside : c.args.c < length (get_or c.args.rows.now c.args.i []) = omega arith in
    stored _ _ _ _ _ inside
