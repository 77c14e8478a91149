-- `questions::workspace::Workspace::clear` meets its contract.
use Rattle.std.proofs.Common.{◌∙◌}
use Rattle.rows.specs.Laws.Cleared.{filled_rows, everywhere_same}
use Rattle.questions.specs.Laws.Workspace.{four_cleared}
use Rattle.questions.proofs.workspace.Workspace.clear.Goals as goal

pub returns : goal.returns
returns c =
    let kept = c.clear_all_but_rows.ensures in
    let same = kept.same in
    record {
      same = record {
        states = same.states;
        index = same.index;
        links = same.links;
        rows = same.rows;
        state_places = same.state_places;
        index_places = same.index_places;
        link_places = same.link_places;
        row_places = c.fill.auto.self ∙ same.row_places;
      };
      slices = four_cleared _ _ _ _ kept.states kept.index kept.links (filled_rows 8 _ c.fill.ensures.after ∙ everywhere_same _ _ _ same.row_places);
    }
