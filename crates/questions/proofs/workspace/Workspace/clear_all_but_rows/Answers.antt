-- `questions::workspace::Workspace::clear_all_but_rows` meets its contract.
use Rattle.std.proofs.Common.{refl}
use Rattle.rows.specs.Laws.Cleared.{filled, filled_rows}
use Rattle.questions.proofs.workspace.Workspace.clear_all_but_rows.Goals as goal

pub returns : goal.returns
returns c = record {
  same = record {
    states = refl;
    index = refl;
    links = refl;
    rows = refl;
    state_places = c.fill.auto.self;
    index_places = c.fill-2.auto.self;
    link_places = c.fill-3.auto.self;
    row_places = refl;
  };
  states = filled _ c.fill.ensures.after;
  index = filled_rows 4 _ c.fill-2.ensures.after;
  links = filled_rows 64 _ c.fill-3.ensures.after;
  rows = refl;
}
