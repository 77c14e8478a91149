-- `planner::reading::put_note` meets its contract.
use borrow.Author.Rules.{rules}
use Rattle.planner.specs.Laws.Reading.{noted}
use Rattle.planner.proofs.reading.put_note.Goals as goal

pub returns : goal.returns
returns c = noted c.put.ensures (search rules)
