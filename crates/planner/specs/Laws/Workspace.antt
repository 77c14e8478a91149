-- The four working slices: their places.
use Rattle.std.specs.Prelude.{◌≡◌, refl, List, ℕ, ◌≤◌, length}
use mathlib.Core.List.{Memᴰ}
use Rattle.std.proofs.Common.{sym, ◌∙◌, arith}
use Rattle.questions.specs.Size.{shortest, capacity}
use Rattle.questions.specs.Workspace.{sizes_of, SameSlices}
use Rattle.questions.specs.Laws.Size.{capacity_some, shortest_least, shortest_small}
use Rattle.questions.specs.Laws.Workspace.{from_to}
use Rattle.questions.specs.declared.workspace.Workspace.{Workspace}
use Rattle.planner.specs.Searches.{OneSize, Ready, Spacious}

-- as many places as the shortest of them has
module _ (w : Workspace) {n : ℕ} (e : n ≡ capacity (sizes_of w)) (some : 1 ≤ n) where
  short : n ≡ shortest (sizes_of w)
  short = (capacity_some (sizes_of w) e some).1

  least : (m : ℕ) → Memᴰ m (sizes_of w) → n ≤ m
  least m h = omega (arith, short, shortest_least (sizes_of w) m h)

  pub spacious : Spacious n w
  spacious = record {
    some = some;
    small = omega (arith, short, shortest_small (sizes_of w));
    states = least _ (Memᴰ.head refl);
    index = least _ (Memᴰ.tail (Memᴰ.head refl));
    links = least _ (Memᴰ.tail (Memᴰ.tail (Memᴰ.head refl)));
    rows = least _ (Memᴰ.tail (Memᴰ.tail (Memᴰ.tail (Memᴰ.head refl))));
  }

-- slices that keep their lengths stay slices of one length
pub workspace_kept : {S S' : List ℕ} {X X' L L' R R' : List (List ℕ)} → length S' ≡ length S → length X' ≡ length X → length L' ≡ length L
    → length R' ≡ length R → OneSize S X L R → OneSize S' X' L' R'
workspace_kept s x l r w = record {
  sized = record { some = rw s w.sized.some; small = rw s w.sized.small; size = x ∙ w.sized.size ∙ sym s };
  links = l ∙ w.links ∙ sym s;
  rows = r ∙ w.rows ∙ sym s;
}

-- so do those of a workspace in which the same slices are lent still
pub still_ready : {w w' : Workspace} → SameSlices (from_to w w') → Ready w → Ready w'
still_ready k r = workspace_kept k.state_places k.index_places k.link_places k.row_places r
