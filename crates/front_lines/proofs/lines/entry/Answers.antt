-- `front_lines::lines::entry` meets its contract.
use Rattle.std.proofs.Common.{rules}
use Rattle.front_lines.specs.Laws.Entries.{entry_read}
use Rattle.front_lines.proofs.lines.entry.Goals as goal

pub returns : goal.returns
returns c = entry_read c.args.row.now _ _ _ _ (search rules) (search rules) (search rules) (search rules)
