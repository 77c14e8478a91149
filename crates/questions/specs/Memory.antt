-- What can be lent to a call, and what a call leaves in it.
use Rattle.std.specs.Prelude.{Bool, true, false, List, [], ◌∷◌, map, ℕ, eqb, length, replicate}
use Rattle.strips.specs.Choice.{pick}
use Rattle.outcome.specs.declared.Entry.{Entry}
use Rattle.rows.specs.Cleared.{everywhere, zeros}
use Rattle.questions.specs.Lent.{Lent, over}

-- a working slice: of numbers, or of rows of so many numbers
pub data Slice : Type 0 where
  numbers : List ℕ → Slice
  rows : ℕ → List (List ℕ) → Slice

abbrev pub places : Slice → ℕ
places (numbers s) = length s
places (rows width s) = length s

abbrev pub cleared : Slice → Slice
cleared (numbers s) = numbers (zeros s)
cleared (rows width s) = rows width (everywhere (replicate width 0) s)

-- the working slices, and the slices that are written to
pub record Memory : Type 0 where
  pub slices : List Slice
  pub entries : List Entry
  pub plans : List ℕ
  pub text : List ℕ

-- the places of each
pub record Room : Type 0 where
  pub sizes : List ℕ
  pub entries : ℕ
  pub plans : ℕ
  pub text : ℕ

abbrev pub room_of : Memory → Room
room_of m = record { sizes = map places m.slices; entries = length m.entries; plans = length m.plans; text = length m.text }

-- what is written
pub record Output : Type 0 where
  pub entries : List Entry
  pub plans : List ℕ
  pub text : List ℕ

abbrev pub nothing : Output
nothing = record { entries = []; plans = []; text = [] }

abbrev pub is_one_of : ℕ → List ℕ → Bool
is_one_of q [] = false
is_one_of q (n ∷ ns) = pick (eqb q n) true (is_one_of q ns)

-- the questions that are asked before the working slices are used
abbrev pub before_use : List ℕ
before_use = 1 ∷ 2 ∷ 3 ∷ 4 ∷ 5 ∷ 6 ∷ 7 ∷ 8 ∷ 9 ∷ 10 ∷ 11 ∷ 12 ∷ []

-- the working slices after a refusal by question q, or after success, where q is 0: as they were, or cleared
abbrev pub slices_after : ℕ → List Slice → List Slice
slices_after q s = pick (is_one_of q before_use) s (map cleared s)

-- what is left then, when this was written: what is not written to keeps its content
abbrev pub leaves : ℕ → Output → Memory → Memory
leaves q o m = record {
  slices = slices_after q m.slices;
  entries = over o.entries m.entries;
  plans = over o.plans m.plans;
  text = over o.text m.text;
}

-- what is lent to one call, together
abbrev pub memory : Lent (List Slice) → Lent (List Entry) → Lent (List ℕ) → Lent (List ℕ) → Lent Memory
memory slices entries plans text = record {
  before = record { slices = slices.before; entries = entries.before; plans = plans.before; text = text.before };
  after = record { slices = slices.after; entries = entries.after; plans = plans.after; text = text.after };
}

-- what is not lent
abbrev pub none : {A : Type 0} → Lent (List A)
none = record { before = []; after = [] }

-- the four working slices: the states, the index that finds them, their transitions, and the columns of the searches
abbrev pub four_slices : List ℕ → (index links table : List (List ℕ)) → List Slice
four_slices states index links table = numbers states ∷ rows 4 index ∷ rows 64 links ∷ rows 8 table ∷ []

abbrev pub workspace : Lent (List ℕ) → (index links table : Lent (List (List ℕ))) → Lent (List Slice)
workspace states index links table = record {
  before = four_slices states.before index.before links.before table.before;
  after = four_slices states.after index.after links.after table.after;
}
