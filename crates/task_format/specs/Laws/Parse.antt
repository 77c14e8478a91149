-- `fault`, `follow` and `parse`, from what each question gets.
use Rattle.std.specs.Prelude.{◌≡◌, List, [], ◌∷◌, ℕ, suc, ◌+◌, ◌≤◌, ◌<◌, length, take, drop}
use Rattle.std.proofs.Common.{sym, ◌∙◌, arith, length-take, take_all}
use Rattle.std.proofs.Math.Path.{ap}
use Rattle.std.proofs.Math.Bool.{true, false}
use Rattle.strips.specs.Laws.Decision.{asked_yes, asked_no}
use Rattle.strips.specs.declared.Task.{Task}
use Rattle.task_format.specs.Limits.{max_text}
use Rattle.task_format.specs.Text.{lines, begins}
use Rattle.task_format.specs.Value.{content}
use Rattle.task_format.specs.Lines.{key_of, kind_of, last_line, stored}
use Rattle.task_format.specs.Parse.{Read, zeros, refused, accepted, fault, judged, follow, parse}
use Rattle.task_format.specs.Deciders.{dec_same, dec_at_most, dec_true}
use Rattle.task_format.specs.declared.Kind.{Kind}

module _ (kind : Kind) (v : List ℕ) where
  pub judged_yes : (n : ℕ) (rest : Read) → fault kind v ≡ 0 → judged kind v n rest ≡ rest
  unfolding judged
  judged_yes n rest e = asked_yes (dec_same (fault kind v) 0) e _ rest

  pub judged_no : (n q : ℕ) (rest : Read) → fault kind v ≡ q → (q ≡ 0 → ⊥) → judged kind v n rest ≡ refused q n
  unfolding judged
  judged_no n q rest e z = asked_no (dec_same (fault kind v) 0) (λ f. z (omega (arith, e, f))) _ rest ∙ ap (λ x. refused x n) e

module _ (n : ℕ) (t : Task) where
  pub follow_end : last_line t < n → follow [] n t ≡ accepted t
  unfolding follow
  follow_end l = asked_yes (dec_at_most (suc (last_line t)) n) l _ _

  pub follow_missing : n ≤ last_line t → follow [] n t ≡ refused 2 n
  unfolding follow
  follow_missing l = asked_no (dec_at_most (suc (last_line t)) n) (λ h. omega (arith, h)) _ _

  module _ (l : List ℕ) (ls : List (List ℕ)) where
    pub follow_over : last_line t < n → follow (l ∷ ls) n t ≡ refused 7 n
    unfolding follow
    follow_over h = asked_no (dec_at_most n (last_line t)) (λ k. omega (arith, k)) _ _

    pub follow_key : n ≤ last_line t → begins (key_of n) l ≡ false → follow (l ∷ ls) n t ≡ refused 3 n
    unfolding follow
    follow_key h e =
        let other : begins (key_of n) l ≡ true → ⊥ = λ f. cc in
        asked_yes (dec_at_most n (last_line t)) h _ _ ∙ asked_no (dec_true (begins (key_of n) l)) other _ _

    abbrev value : List ℕ
    value = drop (length (key_of n)) l

    pub follow_value : n ≤ last_line t → begins (key_of n) l ≡ true
        → follow (l ∷ ls) n t ≡ judged (kind_of t.facts n) value n (follow ls (n + 1) (stored t n (content (kind_of t.facts n) value)))
    unfolding follow
    follow_value h e = asked_yes (dec_at_most n (last_line t)) h _ _ ∙ asked_yes (dec_true (begins (key_of n) l)) e _ _

pub parse_long : (text : List ℕ) → max_text < length text → parse text ≡ refused 1 0
unfolding parse
parse_long text h = asked_no (dec_at_most (length text) max_text) (λ k. omega (arith, k)) _ _

pub parse_lines : (text : List ℕ) → length text ≤ max_text → parse text ≡ follow (lines text) 1 zeros
unfolding parse
parse_lines text h = asked_yes (dec_at_most (length text) max_text) h _ _

-- what follows the first byte that is too much does not count
pub parse_cut : (text : List ℕ) → parse (take (max_text + 1) text) ≡ parse text
parse_cut text = of (dec_at_most (length text) (max_text + 1))
  where
    of : Dec (length text ≤ max_text + 1) → parse (take (max_text + 1) text) ≡ parse text
    of (yes h) = ap parse (take_all (max_text + 1) text h)
    of (no h) = parse_long (take (max_text + 1) text) (omega (arith, length-take (max_text + 1) text)) ∙ sym (parse_long text (omega arith))
