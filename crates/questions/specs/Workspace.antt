-- A workspace, which is lent to a call: its slices, each as it was before the call and after it.
use Rattle.std.specs.Prelude.{◌≡◌, List, [], ◌∷◌, map, ℕ, length, replicate}
use Rattle.rows.specs.Cleared.{everywhere, zeros}
use Rattle.questions.specs.Lent.{Lent}
use Rattle.questions.specs.Memory.{Slice, cleared, workspace}
use Rattle.questions.specs.declared.workspace.Workspace.{Workspace}

abbrev pub states_in : Lent Workspace → Lent (List ℕ)
states_in w = record { before = w.before.states.now; after = w.after.states.now }

abbrev pub index_in : Lent Workspace → Lent (List (List ℕ))
index_in w = record { before = w.before.index.now; after = w.after.index.now }

abbrev pub links_in : Lent Workspace → Lent (List (List ℕ))
links_in w = record { before = w.before.links.now; after = w.after.links.now }

abbrev pub rows_in : Lent Workspace → Lent (List (List ℕ))
rows_in w = record { before = w.before.rows.now; after = w.after.rows.now }

-- the slices together
abbrev pub slices_in : Lent Workspace → Lent (List Slice)
slices_in w = workspace (states_in w) (index_in w) (links_in w) (rows_in w)

-- how many places each slice has
abbrev pub sizes_of : Workspace → List ℕ
sizes_of w = length w.states.now ∷ length w.index.now ∷ length w.links.now ∷ length w.rows.now ∷ []

-- the same slices are lent still, with as many places
pub record SameSlices (w : Lent Workspace) : Type 0 where
  pub states : w.after.states.ghost_name ≡ w.before.states.ghost_name
  pub index : w.after.index.ghost_name ≡ w.before.index.ghost_name
  pub links : w.after.links.ghost_name ≡ w.before.links.ghost_name
  pub rows : w.after.rows.ghost_name ≡ w.before.rows.ghost_name
  pub state_places : length w.after.states.now ≡ length w.before.states.now
  pub index_places : length w.after.index.now ≡ length w.before.index.now
  pub link_places : length w.after.links.now ≡ length w.before.links.now
  pub row_places : length w.after.rows.now ≡ length w.before.rows.now

-- and they are cleared
pub record Cleared (w : Lent Workspace) : Type 0 where
  pub same : SameSlices w
  pub slices : (slices_in w).after ≡ map cleared (slices_in w).before

-- and they are cleared but for the rows, which are as they were
pub record RowsKept (w : Lent Workspace) : Type 0 where
  pub same : SameSlices w
  pub states : (states_in w).after ≡ zeros (states_in w).before
  pub index : (index_in w).after ≡ everywhere (replicate 4 0) (index_in w).before
  pub links : (links_in w).after ≡ everywhere (replicate 64 0) (links_in w).before
  pub rows : (rows_in w).after ≡ (rows_in w).before
