-- Single words of a slice of rows: word c of row i, and what a store or a clearing changes.
use Rattle.std.specs.Prelude.{◌≡◌, ◌≢◌, List, [], ℕ, ◌<◌, get_or}
use Rattle.rows.specs.Columns.{word}

-- word c of row i
unfoldable pub word_at : List (List ℕ) → ℕ → ℕ → ℕ
word_at R i c = word c (get_or R i [])

-- word c of row i is v, and nothing else is new
pub record WordStored (R : List (List ℕ)) (i c v : ℕ) (R' : List (List ℕ)) : Type 0 where
  pub this : word_at R' i c ≡ v
  pub other_row : (j d : ℕ) → j ≢ i → word_at R' j d ≡ word_at R j d
  pub other_word : (j d : ℕ) → d ≢ c → word_at R' j d ≡ word_at R j d

-- the words of row i are 0, and nothing else is new
pub record RowCleared (R : List (List ℕ)) (i : ℕ) (R' : List (List ℕ)) : Type 0 where
  pub this : (c : ℕ) → word_at R' i c ≡ 0
  pub other : (j c : ℕ) → j ≢ i → word_at R' j c ≡ word_at R j c

-- the words of the first n rows are 0
abbrev pub RowsClear : List (List ℕ) → ℕ → Type 0
RowsClear R n = (i c : ℕ) → i < n → word_at R i c ≡ 0
