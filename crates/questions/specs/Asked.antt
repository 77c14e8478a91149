-- The questions of a call in their order (document 01: "Questions"): the first that gets no is refused.
use Rattle.std.specs.Prelude.{Bool, true, false, List, [], ◌∷◌, ℕ, eqb}
use Rattle.strips.specs.Decision.{ask}

infixr 10 ◌is◌then◌else◌
-- the two answers to a question
abbrev pub Yes : Type 0 → Type 0
Yes P = P

abbrev pub No : Type 0 → Type 0
No P = P → ⊥

-- what is asked is said by the question's number, what is then returned and left by Refused and Done
pub data Asked (Question : (Type 0 → Type 0) → ℕ → Type 0) (Refused : ℕ → Type 0) (Done : Type 0) : List ℕ → Type 0 where
  no_to : {q : ℕ} {qs : List ℕ} → Question No q → Refused q → Asked Question Refused Done (q ∷ qs)
  yes_to : {q : ℕ} {qs : List ℕ} → Question Yes q → Asked Question Refused Done qs → Asked Question Refused Done (q ∷ qs)
  answered : Done → Asked Question Refused Done []

-- a line of a table of questions
abbrev pub chosen : Bool → Type 0 → Type 0 → Type 0
chosen true A B = A
chosen false A B = B

abbrev pub ◌is◌then◌else◌ : ℕ → ℕ → Type 0 → Type 0 → Type 0
q is n then A else B = chosen (eqb q n) A B

-- the number of the first question that gets no, 0 where none does
unfoldable pub first_no : {P : ℕ → Type 0} → ((q : ℕ) → Dec (P q)) → List ℕ → ℕ
first_no decide [] = 0
first_no decide (q ∷ qs) = ask (decide q) q (first_no decide qs)
