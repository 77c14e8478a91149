-- Texts taken apart: the first line and the others, the first part of a list and the others; and what is known of each key.
use Rattle.std.specs.Prelude.{◌≡◌, refl, List, [], ◌∷◌, ℕ, suc, ◌+◌, ◌%◌, ◌<◌, eqb, length}
use Rattle.std.proofs.Common.{ap, ◌∙◌, ⊎_elim, arith, eq-eqb, ne_eqb, rules}
use Rattle.std.proofs.lemmas.Bool.{cases_eq}
use Rattle.task_format.specs.Text.{newline, comma, push, split, lines, parts, line_end, first_line, behind_line}
use Rattle.task_format.specs.Value.{All}
use Rattle.task_format.specs.Lines.{key_of, action_key}
use Rattle.strips.specs.Laws.Choice.{by_test, either}

module _ (c : ℕ) (end : List (List ℕ)) where
  pub split_at : (b : ℕ) (t : List ℕ) → b ≡ c → split c end (b ∷ t) ≡ [] ∷ split c end t
  unfolding split
  split_at b t e = rw (eq-eqb b c e)

  pub split_more : (b : ℕ) (t : List ℕ) → (b ≡ c → ⊥) → split c end (b ∷ t) ≡ push b (split c end t)
  unfolding split
  split_more b t n = rw (ne_eqb b c n)

-- ---- the parts of a list

pub record Parts (ps : List (List ℕ)) : Type 0 where
  pub first : List ℕ
  pub others : List (List ℕ)
  pub are : ps ≡ first ∷ others

pub parts_some : (v : List ℕ) → Parts (parts v)
unfolding split
parts_some [] = record { first = []; others = []; are = refl }
parts_some (b ∷ v) =
    by_test Parts (eqb b comma) _ _ (λ _. record { first = []; others = parts v; are = refl })
    (λ _. let r = parts_some v in record { first = b ∷ r.first; others = r.others; are = ap (push b) r.are })

-- ---- the lines of a text

pub first_ends : (b : ℕ) (t : List ℕ) → b ≡ newline → (first_line (b ∷ t) ≡ []) × (behind_line (b ∷ t) ≡ t)
first_ends b t e = rw (eq-eqb b newline e) (refl, refl)

pub first_more : (b : ℕ) (t : List ℕ) → (b ≡ newline → ⊥) → (first_line (b ∷ t) ≡ b ∷ first_line t) × (behind_line (b ∷ t) ≡ behind_line t)
first_more b t n =
    let p : 1 + line_end t ≡ suc (line_end t) = omega arith in
    let q : suc (line_end t) + 1 ≡ suc (line_end t + 1) = omega arith in
    rw (ne_eqb b newline n, p, q) (refl, refl)

pub lines_first : (t : List ℕ) → (t ≡ [] → ⊥) → lines t ≡ first_line t ∷ lines (behind_line t)
unfolding split
lines_first [] f = absurd (f refl)
lines_first (b ∷ []) f = either (eqb b newline) (λ e. rw e) (λ e. rw e)
lines_first (b ∷ (a ∷ t)) f =
    let r = lines_first (a ∷ t) (λ e. let z = ap length e in omega (arith, z)) in
    ⊎_elim
    (λ (e : b ≡ newline). let ends = first_ends b (a ∷ t) e in rw (ends.0, ends.1) (split_at newline [] b (a ∷ t) e))
    (λ (n : b ≡ newline → ⊥). let more = first_more b (a ∷ t) n in rw (more.0, more.1) (split_more newline [] b (a ∷ t) n ∙ ap (push b) r))
    (cases_eq b newline)

-- ---- keys

-- without a newline
abbrev pub Plain : List ℕ → Type 0
Plain key = All (λ b. b ≡ newline → ⊥) key

pub record IsKey (key : List ℕ) : Type 0 where
  pub some : 0 < length key
  pub plain : Plain key

pub key_of_lem : (n : ℕ) → IsKey (key_of n)
unfolding key_of action_key
key_of_lem n =
    by_test IsKey (eqb n 1) _ _ (λ _. search rules) (λ _.
    by_test IsKey (eqb n 2) _ _ (λ _. search rules) (λ _.
    by_test IsKey (eqb n 3) _ _ (λ _. search rules) (λ _.
    by_test IsKey (eqb n 4) _ _ (λ _. search rules) (λ _.
    by_test IsKey (eqb n 5) _ _ (λ _. search rules) (λ _.
    by_test IsKey (eqb (n % 4) 2) _ _ (λ _. search rules) (λ _.
    by_test IsKey (eqb (n % 4) 3) _ _ (λ _. search rules) (λ _.
    by_test IsKey (eqb (n % 4) 0) _ _ (λ _. search rules) (λ _. search rules))))))))
