-- One pass over the rows by rising price: the next row takes the place of the one noted last, is noted behind it, or is passed over.
use Rattle.std.specs.Prelude.{◌≡◌, Bool, true, false, List, ℕ, ◌+◌, ◌-◌, ◌≤◌, ◌<◌}
use Rattle.outcome.specs.Answer.{UpTo, Below}
use Rattle.planner.specs.Reading.{Reading, reading_at, settled_at, SameReading, Noted}
use Rattle.front_lines.specs.Lines.{note_at}
use Rattle.front_lines.specs.declared.selection.Place.{Place}
use Rattle.front_lines.specs.declared.selection.Place.TheVariants.{Instead, Behind, Nowhere}

-- of two rows of one price, the first is at least as good: by the higher answer, then by the lower rank
pub record Preferred (x y : Reading) : Type 0 where
  pub answer : UpTo y.answer x.answer
  pub tie : x.answer ≡ y.answer → x.rank ≤ y.rank

abbrev pub Better : Reading → Reading → Bool → Type 0
Better x y true = Preferred x y
Better x y false = Preferred y x

-- the first row is at least as good as the second, at no higher price
pub record Serves (x y : Reading) : Type 0 where
  pub price : x.price ≤ y.price
  pub answer : UpTo y.answer x.answer
  pub tie : x.price ≡ y.price → x.answer ≡ y.answer → x.rank ≤ y.rank

pub record Under (x y : Reading) : Type 0 where
  pub price : x.price < y.price
  pub answer : Below x.answer y.answer

-- the place of a row says how it stands to the last line's row, which is not dearer
abbrev pub Placed : (row last : Reading) → Place → Type 0
Placed row last Instead = Serves row last
Placed row last Behind = Under last row
Placed row last Nowhere = last.price ≤ row.price → Serves last row

-- by what the rows say
module _ (v : ℕ → Reading) where
  -- what becomes of the first `count` notes when row i is looked at; r of them are the lines then
  pub data Visited (R : List (List ℕ)) (count i : ℕ) (R' : List (List ℕ)) (r : ℕ) : Type 0 where
    first : count ≡ 0 → Noted R 0 i R' → r ≡ 1 → Visited R count i R' r
    instead : 1 ≤ count → Placed (v i) (v (note_at R (count - 1))) Instead → Noted R (count - 1) i R' → r ≡ count → Visited R count i R' r
    behind : 1 ≤ count → Placed (v i) (v (note_at R (count - 1))) Behind → Noted R count i R' → r ≡ count + 1 → Visited R count i R' r
    passed : 1 ≤ count → Placed (v i) (v (note_at R (count - 1))) Nowhere → R' ≡ R → r ≡ count → Visited R count i R' r

  -- the first `count` notes N are the lines of the first `done` rows of the order S of m rows
  pub record Selected (S N : ℕ → ℕ) (m done count : ℕ) : Type 0 where
    pub few : count ≤ done
    pub row : (k : ℕ) → k < count → N k < m
    pub rising : (a b : ℕ) → a < b → b < count → Under (v (N a)) (v (N b))
    pub served : (p : ℕ) → p < done → (k : ℕ) × (k < count) × Serves (v (N k)) (v (S p))
    -- no row that is still to come is cheaper
    pub cheaper : (k p : ℕ) → k < count → done ≤ p → p < m → (v (N k)).price ≤ (v (S p)).price

-- where the pass over the rows R₀ stands: p rows are behind it, the lines so far are noted, and nothing else is new
pub record Pass (R₀ : List (List ℕ)) (m : ℕ) (R : List (List ℕ)) (p count : ℕ) : Type 0 where
  pub within : p ≤ m
  pub same : SameReading R₀ R
  pub selected : Selected (reading_at R₀) (settled_at R₀) (note_at R) m p count
