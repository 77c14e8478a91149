-- Columns and stores.
use Rattle.std.specs.Prelude.{◌≡◌, refl, List, [], ◌∷◌, ℕ, zero, suc, ◌<◌, length, get_or, set}
use Rattle.std.proofs.Common.{arith, sym, ap, ◌∙◌, get_or-set_same, get_or-set_other}
use Rattle.std.proofs.lemmas.List.{set-get_or, get_or_default}
use Rattle.std.proofs.lemmas.Grind.{common_steps}
use Rattle.rows.specs.Columns.{column, StoredIn, word, col}

module _ {A : Type 0} (z : A) where
  -- a column is as long as the table
  pub column_length : (c : ℕ) (R : List (List A)) → length (column z c R) ≡ length R
  unfolding column
  column_length c R = grind (arith, common_steps)

  -- word c of row i stands at place i of column c
  pub column_get : (c : ℕ) (R : List (List A)) (i : ℕ) → get_or (column z c R) i z ≡ get_or (get_or R i []) c z
  unfolding column
  column_get c R i = grind (arith, common_steps)

  -- word c of a row that has it
  pub column_read : (R : List (List A)) {i c : ℕ} {row : List A} {x : A} → i < length R → c < length row → row ≡ get_or R i row → x ≡ get_or row c x
      → x ≡ get_or (column z c R) i z
  column_read R {i} {c} {row} {x} l h at is =
      is ∙ get_or_default row c x z h ∙ ap (λ (r : List A). get_or r c z) (at ∙ get_or_default R i row [] l) ∙ sym (column_get c R i)

  -- a row replaced
  pub column_set : (c : ℕ) (R : List (List A)) (i : ℕ) (r : List A) → column z c (set R i r) ≡ set (column z c R) i (get_or r c z)
  unfolding column
  column_set c [] i r = refl
  column_set c (x ∷ R) zero r = refl
  column_set c (x ∷ R) (suc i) r = ap {B = List A} (λ l. get_or x c z ∷ l) (column_set c R i r)

  -- a word set in a row that has it
  pub stored : (R : List (List A)) (i c : ℕ) (v : A) → c < length (get_or R i []) → StoredIn z R i c v (set R i (set (get_or R i []) c v))
  stored R i c v h = record {
    this = column_set c R i _ ∙ ap (λ (w : A). set (column z c R) i w) (get_or-set_same (get_or R i []) c v z h);
    rest = λ d ne. column_set d R i _ ∙ ap (λ (w : A). set (column z d R) i w) (get_or-set_other (get_or R i []) c d v z ne ∙ sym (column_get d R i))
        ∙ set-get_or (column z d R) i z;
  }

-- the same of numbers
pub col_length : (c : ℕ) (R : List (List ℕ)) → length (col c R) ≡ length R
col_length = column_length 0

pub col_get : (c : ℕ) (R : List (List ℕ)) (i : ℕ) → get_or (col c R) i 0 ≡ word c (get_or R i [])
col_get = column_get 0

-- columns of one length are of tables of one length
pub same_length : (c : ℕ) (R R' : List (List ℕ)) → col c R' ≡ col c R → length R' ≡ length R
same_length c R R' e = sym (col_length c R') ∙ ap length e ∙ col_length c R
