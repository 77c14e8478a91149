-- A workspace that is passed on: its slices stay the same, and only their places count where they are cleared in the end.
use Rattle.std.specs.Prelude.{◌≡◌, refl, List, ℕ, map, replicate}
use Rattle.std.proofs.Common.{◌∙◌}
use Rattle.rows.specs.Cleared.{everywhere, zeros}
use Rattle.rows.specs.Laws.Cleared.{everywhere_same, zeros_same}
use Rattle.questions.specs.Lent.{Lent}
use Rattle.questions.specs.Memory.{four_slices, cleared}
use Rattle.questions.specs.Workspace.{SameSlices, Cleared}
use Rattle.questions.specs.declared.workspace.Workspace.{Workspace}

-- before and after
abbrev pub from_to : Workspace → Workspace → Lent Workspace
from_to b a = record { before = b; after = a }

-- other rows in the same slice
abbrev pub with_rows : Workspace → List (List ℕ) → Workspace
with_rows w R = record {
  states = w.states;
  index = w.index;
  links = w.links;
  rows = record { ref_ptr = w.rows.ref_ptr; ghost_name = w.rows.ghost_name; now = R };
}

pub same_slices : (w : Workspace) → SameSlices (from_to w w)
same_slices w = record {
  states = refl;
  index = refl;
  links = refl;
  rows = refl;
  state_places = refl;
  index_places = refl;
  link_places = refl;
  row_places = refl;
}

pub same_on : {w w₁ w₂ : Workspace} → SameSlices (from_to w w₁) → SameSlices (from_to w₁ w₂) → SameSlices (from_to w w₂)
same_on a b = record {
  states = b.states ∙ a.states;
  index = b.index ∙ a.index;
  links = b.links ∙ a.links;
  rows = b.rows ∙ a.rows;
  state_places = b.state_places ∙ a.state_places;
  index_places = b.index_places ∙ a.index_places;
  link_places = b.link_places ∙ a.link_places;
  row_places = b.row_places ∙ a.row_places;
}

pub four_cleared : (S : List ℕ) (X L R : List (List ℕ)) {S' : List ℕ} {X' L' R' : List (List ℕ)} → S' ≡ zeros S → X' ≡ everywhere (replicate 4 0) X
    → L' ≡ everywhere (replicate 64 0) L → R' ≡ everywhere (replicate 8 0) R → four_slices S' X' L' R' ≡ map cleared (four_slices S X L R)
four_cleared S X L R a b c d = λ i. four_slices (a i) (b i) (c i) (d i)

pub cleared_on : {w w₁ w₂ : Workspace} → SameSlices (from_to w w₁) → Cleared (from_to w₁ w₂) → Cleared (from_to w w₂)
cleared_on {w} {w₁} a c = record {
  same = same_on a c.same;
  slices = c.slices ∙ four_cleared w.states.now w.index.now w.links.now w.rows.now (zeros_same _ _ a.state_places)
      (everywhere_same _ _ _ a.index_places) (everywhere_same _ _ _ a.link_places) (everywhere_same _ _ _ a.row_places);
}
