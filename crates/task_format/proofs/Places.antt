-- The place of a refusal is a line of the text or the one behind its last, and a text that nothing refuses says a task.
use Rattle.std.specs.Prelude.{◌≡◌, refl, List, [], ◌∷◌, ℕ, suc, ◌+◌, ◌≤◌, eqb, length, drop}
use Rattle.std.proofs.Common.{arith}
use Rattle.strips.specs.Laws.Choice.{by_test}
use Rattle.strips.specs.Laws.Decision.{asked_either}
use Rattle.strips.specs.declared.Task.{Task}
use Rattle.task_format.specs.Limits.{max_text}
use Rattle.task_format.specs.Text.{newline, push, split, lines, begins}
use Rattle.task_format.specs.Value.{content}
use Rattle.task_format.specs.Lines.{key_of, kind_of, last_line, stored}
use Rattle.task_format.specs.Parse.{Read, zeros, refused, accepted, fault, judged, follow, parse}
use Rattle.task_format.specs.Deciders.{dec_same, dec_at_most, dec_true}

push_few : (b : ℕ) (ps : List (List ℕ)) → length (push b ps) ≤ suc (length ps)
push_few b [] = omega arith
push_few b (p ∷ ps) = omega arith

-- there are no more lines than bytes
pub lines_few : (t : List ℕ) → length (lines t) ≤ length t
unfolding split
lines_few [] = omega arith
lines_few (b ∷ t) =
    let rest = split newline [] t in
    by_test (λ (ls : List (List ℕ)). length ls ≤ suc (length t)) (eqb b newline) ([] ∷ rest) (push b rest)
    (λ _. omega (arith, lines_few t)) (λ _. omega (arith, lines_few t, push_few b rest))

-- what holds of the refusals at the lines of a text and of a task that is accepted holds of what the lines say
follow_cases : (Q : Read → Type 0) (most : ℕ) → ((q place : ℕ) → (q ≡ 0 → ⊥) → place ≤ most → Q (refused q place)) → ((t : Task) → Q (accepted t))
    → (ls : List (List ℕ)) (n : ℕ) (t : Task) → n + length ls ≤ most → Q (follow ls n t)
unfolding follow judged
follow_cases Q most no_more all_read [] n t h =
    asked_either Q (dec_at_most (suc (last_line t)) n) (λ _. no_more 2 n (λ e. omega arith) (omega arith)) (λ _. all_read t)
follow_cases Q most no_more all_read (l ∷ ls) n t h =
    let kind = kind_of t.facts n in
    let v = drop (length (key_of n)) l in
    asked_either Q (dec_at_most n (last_line t)) (λ _. no_more 7 n (λ e. omega arith) (omega arith)) (λ _.
    asked_either Q (dec_true (begins (key_of n) l)) (λ _. no_more 3 n (λ e. omega arith) (omega arith)) (λ _.
    asked_either Q (dec_same (fault kind v) 0) (λ z. no_more (fault kind v) n z (omega arith)) (λ _.
    follow_cases Q most no_more all_read ls (n + 1) (stored t n (content kind v)) (omega arith))))

-- the same of what a text says: a refusal's place is a line of the text or the one behind its last
parse_cases : (Q : Read → Type 0) → ((q place : ℕ) → (q ≡ 0 → ⊥) → place ≤ max_text + 1 → Q (refused q place)) → ((t : Task) → Q (accepted t))
    → (text : List ℕ) → Q (parse text)
unfolding parse
parse_cases Q no_more all_read text =
    asked_either Q (dec_at_most (length text) max_text) (λ _. no_more 1 0 (λ e. omega arith) (omega arith))
    (λ h. follow_cases Q (max_text + 1) no_more all_read (lines text) 1 zeros (omega (arith, lines_few text)))

pub parse_place : (text : List ℕ) → (parse text).place ≤ max_text + 1
parse_place = parse_cases (λ (r : Read). r.place ≤ max_text + 1) (λ q place z h. h) (λ t. omega arith)

pub parse_accepted : (text : List ℕ) → (parse text).number ≡ 0 → parse text ≡ accepted (parse text).task
parse_accepted = parse_cases (λ (r : Read). r.number ≡ 0 → r ≡ accepted r.task) (λ q place z h e. absurd (z e)) (λ t _. refl)
