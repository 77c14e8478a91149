-- `front::asked::ask_front` meets its contract.
use Rattle.planner.specs.Laws.Workspace.{spacious}
use Rattle.front.proofs.asked.ask_front.Goals as goal

pub list_lines-requires : goal.list_lines-requires
list_lines-requires c = let size = c.in_ok-n.ensures in spacious c.args.work.now size.1 size.0
