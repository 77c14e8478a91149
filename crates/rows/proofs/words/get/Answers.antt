-- `rows::words::get` meets its contract. The loan of the row as a slice says how many words it has.
use native.Mathlib.Omega.{arith}
use Rattle.std.specs.Prelude.{◌<◌, length}
use Rattle.rows.specs.Laws.Columns.{column_read}
use Rattle.rows.proofs.words.get.Goals as goal

pub returns : goal.returns
returns g c =
    let inside : c.args.c < length c.index-rows-i.result = omega arith in
    column_read _ _ c.requires.0 inside c.index-rows-i.is c.index-row-c.is
