-- Laws about questions in their order.
use Rattle.std.specs.Prelude.{Bool, true, false, List, [], ◌∷◌, ◌++◌, ◌≡◌, ℕ, ◌≤◌, eqb}
use Rattle.std.proofs.Math.Path.{refl}
use Rattle.strips.specs.Decision.{ask}
use Rattle.strips.specs.Choice.{pick}
use Rattle.strips.specs.Laws.Choice.{never}
use Rattle.questions.specs.Asked.{Yes, No, Asked, no_to, yes_to, answered, chosen, first_no}

-- THE law: of two runs of one call, both are refused by the same question or both are done
pub asked_agree : {Question : (Type 0 → Type 0) → ℕ → Type 0} {Refused Refused' : ℕ → Type 0} {Done Done' C : Type 0}
    → ((q : ℕ) → Question Yes q → Question No q → ⊥) → ((q : ℕ) → Refused q → Refused' q → C) → (Done → Done' → C)
    → {qs : List ℕ} → Asked Question Refused Done qs → Asked Question Refused' Done' qs → C
asked_agree one f g (no_to {q} a r) (no_to b u) = f q r u
asked_agree one f g (no_to {q} a r) (yes_to y b) = absurd (one q y a)
asked_agree one f g (yes_to {q} x a) (no_to b u) = absurd (one q x b)
asked_agree one f g (yes_to x a) (yes_to y b) = asked_agree one f g a b
asked_agree one f g (answered d) (answered e) = g d e

-- something holds of each question of a list
abbrev pub Each : (ℕ → Type 0) → List ℕ → Type 0
Each P [] = Unit {0}
Each P (q ∷ qs) = P q × Each P qs

-- the same questions with another account of what is returned and left
pub asked_map : {Question : (Type 0 → Type 0) → ℕ → Type 0} {Refused Refused' : ℕ → Type 0} {Done Done' : Type 0} {qs : List ℕ}
    → Each (λ q. Refused q → Refused' q) qs → (Done → Done') → Asked Question Refused Done qs → Asked Question Refused' Done' qs
asked_map f g (no_to a r) = no_to a (f.0 r)
asked_map f g (yes_to y a) = yes_to y (asked_map f.1 g a)
asked_map f g (answered d) = answered (g d)

pub asked_all : {Question : (Type 0 → Type 0) → ℕ → Type 0} {Refused Refused' : ℕ → Type 0} {Done Done' : Type 0} {qs : List ℕ}
    → ((q : ℕ) → Refused q → Refused' q) → (Done → Done') → Asked Question Refused Done qs → Asked Question Refused' Done' qs
asked_all f g (no_to {q} a r) = no_to a (f q r)
asked_all f g (yes_to y a) = yes_to y (asked_all f g a)
asked_all f g (answered d) = answered (g d)

-- questions that ask the same
pub asked_other : {Question Question' : (Type 0 → Type 0) → ℕ → Type 0} {Refused : ℕ → Type 0} {Done : Type 0} {qs : List ℕ}
    → Each (λ q. (Question Yes q → Question' Yes q) × (Question No q → Question' No q)) qs → Asked Question Refused Done qs → Asked Question' Refused Done qs
asked_other f (no_to a r) = no_to (f.0.1 a) r
asked_other f (yes_to y a) = yes_to (f.0.0 y) (asked_other f.1 a)
asked_other f (answered d) = answered d

-- what holds after a refusal and after success holds in any case
pub asked_either : {Question : (Type 0 → Type 0) → ℕ → Type 0} {Refused : ℕ → Type 0} {Done C : Type 0} {qs : List ℕ} → ((q : ℕ) → Refused q → C) → (Done → C)
    → Asked Question Refused Done qs → C
asked_either f g (no_to {q} a r) = f q r
asked_either f g (yes_to y a) = asked_either f g a
asked_either f g (answered d) = g d

-- a stage that asks the first questions, and then one that asks the others
pub asked_then : {Question : (Type 0 → Type 0) → ℕ → Type 0} {Refused : ℕ → Type 0} {Done : Type 0} {qs ps : List ℕ}
    → Asked Question Refused (Asked Question Refused Done qs) ps → Asked Question Refused Done (ps ++ qs)
asked_then (no_to a r) = no_to a r
asked_then (yes_to y a) = yes_to y (asked_then a)
asked_then (answered d) = d

-- a line of a table of questions is not answered by yes and by no
pub chosen_one : (b : Bool) {A A' B B' : Type 0} → (A → A' → ⊥) → (B → B' → ⊥) → chosen b A B → chosen b A' B' → ⊥
chosen_one true f g = f
chosen_one false f g = g

-- what question q asks is P
abbrev pub Asks : ((Type 0 → Type 0) → ℕ → Type 0) → (ℕ → Type 0) → ℕ → Type 0
Asks Question P q = (1 ≤ q) × (P q → Question Yes q) × (No (P q) → Question No q)

-- questions that are decided: all of them get yes, or the first that gets no is known
pub first_asked : {Question : (Type 0 → Type 0) → ℕ → Type 0} {Refused : ℕ → Type 0} {Done : Type 0} {P : ℕ → Type 0}
    (decide : (q : ℕ) → Dec (P q)) (ps : List ℕ) {qs : List ℕ} → Each (Asks Question P) ps
    → (first_no decide ps ≡ 0 → Asked Question Refused Done qs) → ((q : ℕ) → first_no decide ps ≡ q → 1 ≤ q → Refused q)
    → Asked Question Refused Done (ps ++ qs)
unfolding first_no
first_asked decide [] same done refuse = done refl
first_asked {Question} {Refused} {Done} {P} decide (q ∷ ps) {qs} same done refuse =
    of (decide q) done refuse (λ done' refuse'. first_asked decide ps same.1 done' refuse')
  where
    of : (x : Dec (P q)) → (ask x q (first_no decide ps) ≡ 0 → Asked Question Refused Done qs)
        → ((n : ℕ) → ask x q (first_no decide ps) ≡ n → 1 ≤ n → Refused n)
        → ((first_no decide ps ≡ 0 → Asked Question Refused Done qs) → ((n : ℕ) → first_no decide ps ≡ n → 1 ≤ n → Refused n)
        → Asked Question Refused Done (ps ++ qs))
        → Asked Question Refused Done (q ∷ ps ++ qs)
    of (yes p) d r rest = yes_to (same.0.1 p) (rest (unfold ask in d) (unfold ask in r))
    of (no n) d r rest = no_to (same.0.2 n) (unfold ask in r q refl same.0.0)

-- ---- what holds of all numbers but a few holds of each question of a list that has none of these

abbrev pub none_of : List ℕ → ℕ → Bool
none_of [] q = true
none_of (n ∷ ns) q = pick (eqb q n) false (none_of ns q)

pub not_one : (n : ℕ) (ns : List ℕ) (q : ℕ) → none_of (n ∷ ns) q ≡ true → (eqb q n ≡ false) × (none_of ns q ≡ true)
not_one n ns q h = of (eqb q n) h
  where
    of : (b : Bool) → pick b false (none_of ns q) ≡ true → (b ≡ false) × (none_of ns q ≡ true)
    of true e = absurd (never e)
    of false e = (refl, e)

abbrev pub all : (ℕ → Bool) → List ℕ → Bool
all test [] = true
all test (q ∷ qs) = pick (test q) (all test qs) false

pub each_by : {P : ℕ → Type 0} (test : ℕ → Bool) → ((q : ℕ) → test q ≡ true → P q) → (qs : List ℕ) → all test qs ≡ true → Each P qs
each_by test f [] h = tt
each_by {P} test f (q ∷ qs) h = of (test q) (f q) (each_by test f qs) h
  where
    of : (b : Bool) → (b ≡ true → P q) → (all test qs ≡ true → Each P qs) → pick b (all test qs) false ≡ true → P q × Each P qs
    of true g rest e = (g refl, rest e)
    of false g rest e = absurd (never e)
