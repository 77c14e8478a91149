-- A slice of rows of words. Word c of every row is column c, a list of numbers: what is said of lists can be said of columns.
use Rattle.std.specs.Prelude.{List, map, ◌≡◌, ◌≢◌, ℕ, get_or, set}

-- column c: word c of each row, and z where a row has no such word
unfoldable pub column : {A : Type 0} → A → ℕ → List (List A) → List A
column z c R = map (λ row. get_or row c z) R

-- row i has v as its word c, and nothing else is new
pub record StoredIn {A : Type 0} (z : A) (R : List (List A)) (i c : ℕ) (v : A) (R' : List (List A)) : Type 0 where
  pub this : column z c R' ≡ set (column z c R) i v
  pub rest : (d : ℕ) → d ≢ c → column z d R' ≡ column z d R

-- the same of words that are numbers
abbrev pub word : ℕ → List ℕ → ℕ
word c row = get_or row c 0

abbrev pub col : ℕ → List (List ℕ) → List ℕ
col = column 0

abbrev pub Stored : List (List ℕ) → ℕ → ℕ → ℕ → List (List ℕ) → Type 0
Stored = StoredIn 0

-- the columns of the searches
abbrev pub key_column : ℕ
key_column = 0

abbrev pub link_column : ℕ
link_column = 1

abbrev pub order_column : ℕ
order_column = 2

abbrev pub value_column : ℕ
value_column = 3

abbrev pub hop_column : ℕ
hop_column = 4

abbrev pub note_column : ℕ
note_column = 5

abbrev pub place_column : ℕ
place_column = 6

abbrev pub heap_column : ℕ
heap_column = 7
