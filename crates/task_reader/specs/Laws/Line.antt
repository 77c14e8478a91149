-- A text's first line, and what it adds to the record of the lines before it.
use Rattle.std.specs.Prelude.{◌≡◌, refl, true, false, Option, Some, None, MatchOption, Ok, Err}
use Rattle.std.specs.Prelude.{List, [], ◌∷◌, ◌++◌, ℕ, ◌+◌, ◌≤◌, ◌<◌, eqb, length, take, drop}
use Rattle.std.proofs.Common.{sym, ap, ◌∙◌, arith, length-drop, take-append-drop, append_assoc}
use Rattle.std.proofs.Math.Seq.{drop-append_seam}
use Rattle.std.specs.Borrow.{Bor}
use Rattle.std.specs.Cmp.Lexicographic.{pointwise}
use Rattle.std.proofs.lemmas.Bool.Decides.{Decides-eqb}
use Rattle.std.proofs.lemmas.Option.{MatchOption-at_some, MatchOption-at_none}
use Rattle.std.proofs.lemmas.Slice.Eq.{strip_prefix_is}
use borrow.Author.Tests.{eq-eqb, eqb-true}
use Rattle.outcome.specs.Refusal.{number_of}
use Rattle.outcome.specs.Laws.Refusal.{number_some}
use Rattle.outcome.specs.declared.Refusal.{Refusal}
use Rattle.outcome.specs.declared.Refusal.TheVariants.{LineMissing, WrongKey, Malformed}
use Rattle.strips.specs.declared.Task.{Task}
use Rattle.strips.specs.Laws.Choice.{either, never}
use Rattle.task_format.specs.Text.{line_end, first_line, behind_line, begins, split, lines}
use Rattle.task_format.specs.Value.{InForm, InRange, content}
use Rattle.task_format.specs.Lines.{key_of, kind_of, last_line, stored, with_action}
use Rattle.task_format.specs.Parse.{zeros, refused, accepted, judged, follow}
use Rattle.task_format.specs.Laws.Text.{key_of_lem, lines_first}
use Rattle.task_format.specs.Laws.Parse.{follow_end, follow_missing, follow_over, follow_key, follow_value, judged_yes, judged_no}
use Rattle.task_format.proofs.Fault.{fault_form, fine}
use Rattle.task_format.specs.declared.Kind.{Kind}
use Rattle.value_reader.specs.Answered.{Answered}
use Rattle.task_reader.specs.Laws.Cut.{first_behind}
use Rattle.task_reader.specs.Line.{FitsKind, Says, Stops, Small, OnLine}

-- ---- the text behind a line

behind_short : (t : List ℕ) → (t ≡ [] → ⊥) → length (behind_line t) < length t
behind_short [] f = absurd (f refl)
behind_short (b ∷ t) f = omega (arith, length-drop (line_end (b ∷ t) + 1) (b ∷ t))

-- ---- keys

begins_key : (key rest : List ℕ) → begins key (key ++ rest) ≡ true
unfolding begins
begins_key [] rest = refl
begins_key (k ∷ key) rest = rw (eq-eqb k k refl) (begins_key key rest)

begins_split : (key t : List ℕ) → begins key t ≡ true → t ≡ key ++ drop (length key) t
unfolding begins
begins_split [] t e = refl
begins_split (k ∷ key) [] e = absurd (never e)
begins_split (k ∷ key) (b ∷ t) e =
    either (eqb b k)
    (λ q. let same : b ≡ k = eqb-true b k q in rw same (ap (λ u. k ∷ u) (begins_split key t (rw q at e))))
    (λ q. absurd (never (rw q at e)))

begins_not : (key t : List ℕ) → ((rest : List ℕ) → t ≡ key ++ rest → ⊥) → begins key t ≡ false
begins_not key t f = either (begins key t) (λ e. absurd (f (drop (length key) t) (begins_split key t e))) (λ e. e)

-- what is left of a text when the key of its first line is stripped, and that nothing is where it does not begin with it
module _ (n : ℕ) (text key : List ℕ) (is : key ≡ key_of n) (r : Option (Bor (List ℕ)))
    (cases : MatchOption r (pointwise eqb (take (length key) text) key ≡ false)
    (λ v. (pointwise eqb (take (length key) text) key ≡ true) × (v.now ≡ drop (length key) text) × (length v.now + length key ≡ length text))) where
  pub key_found : {v : Bor (List ℕ)} → r ≡ Some v → text ≡ key_of n ++ v.now
  key_found e = rw is at (MatchOption-at_some _ _ _ e (strip_prefix_is Decides-eqb text key r cases))

  pub key_missing : r ≡ None → (rest : List ℕ) → text ≡ key_of n ++ rest → ⊥
  key_missing e = rw is at (MatchOption-at_none _ _ e (strip_prefix_is Decides-eqb text key r cases))

-- ---- a value that no question refuses

content_small : (kind : Kind) (v : List ℕ) → InRange kind v → FitsKind kind (content kind v)
unfolding InRange content
content_small kind v r = grind arith

-- ---- the questions at a line that is due

module _ (facts n : ℕ) (text : List ℕ) where
  pub stops_missing : text ≡ [] → Stops facts n text (LineMissing n)
  unfolding split
  stops_missing e t f d = rw e (follow_missing n t d)

  module _ (some : text ≡ [] → ⊥) where
    pub stops_key : ((rest : List ℕ) → text ≡ key_of n ++ rest → ⊥) → Stops facts n text (WrongKey n)
    stops_key h t f d =
        let split : text ≡ first_line text ++ drop (line_end text) text = sym (take-append-drop (line_end text) text) in
        let other = begins_not (key_of n) (first_line text) (λ rest e. h (rest ++ drop (line_end text) text)
        (split ∙ rw e (append_assoc (key_of n) rest (drop (line_end text) text)))) in
        ap (λ ls. follow ls n t) (lines_first text some) ∙ follow_key n t (first_line text) (lines (behind_line text)) d other

    -- the value begins behind the key
    module _ (u : List ℕ) (key : text ≡ key_of n ++ u) (v : List ℕ) (value : v ≡ first_line u) (rest : List ℕ) (others : rest ≡ behind_line u) where
      front : first_line text ≡ key_of n ++ v
      front = rw (key, value) (first_behind (key_of n) u (key_of_lem n).plain).0

      behind : rest ≡ behind_line text
      behind = others ∙ sym (rw key (first_behind (key_of n) u (key_of_lem n).plain).1)

      line : (t : Task) → t.facts ≡ facts → n ≤ last_line t
          → follow (lines text) n t ≡ judged (kind_of facts n) v n (follow (lines rest) (n + 1) (stored t n (content (kind_of facts n) v)))
      line t f d =
          let begun : begins (key_of n) (first_line text) ≡ true = rw front (begins_key (key_of n) v) in
          let left : drop (length (key_of n)) (first_line text) ≡ v = rw front (drop-append_seam (key_of n) v) in
          ap (λ ls. follow ls n t) (lines_first text some) ∙ follow_value n t (first_line text) (lines (behind_line text)) d begun ∙ rw (f, left, behind) refl

      pub stops_value : (q : Refusal) → Answered (kind_of facts n) v n (Err q) → Stops facts n text q
      stops_value q a t f d =
          line t f d ∙ judged_no (kind_of facts n) v n (number_of q) _ (sym a.0) (λ z. omega (arith, number_some q, z)) ∙ ap (refused (number_of q)) (sym a.1)

      pub stops_form : (InForm (kind_of facts n) v → ⊥) → Stops facts n text (Malformed n)
      stops_form f = stops_value (Malformed n) (sym (fault_form (kind_of facts n) v f), refl)

      pub says_value : (x : ℕ) → Answered (kind_of facts n) v n (Ok x) → Says facts n text x rest
      says_value x a =
          record {
            small = rw a.1 (content_small (kind_of facts n) v (fine (kind_of facts n) v a.0).range);
            shorter = rw behind (behind_short text some);
            goes = λ t f d. line t f d ∙ judged_yes (kind_of facts n) v n _ a.0 ∙ ap (λ (y : ℕ). follow (lines rest) (n + 1) (stored t n y)) (sym a.1);
          }

-- ---- the record stays within its limits

small_zeros : Small zeros
unfolding zeros
small_zeros = grind arith

small_stored : (t : Task) (n x : ℕ) → Small t → FitsKind (kind_of t.facts n) x → Small (stored t n x)
unfolding stored with_action kind_of
small_stored t n x s h = grind arith

-- ---- the loop over lines

pub on_begin : (text : List ℕ) (t : Task) → t ≡ zeros → OnLine text t 1 text
on_begin text t e = rw e (record { one = omega arith; small = small_zeros; goes = refl })

module _ {text : List ℕ} {t : Task} {n : ℕ} {rest : List ℕ} (o : OnLine text t n rest) where
  pub on_next : n ≤ last_line t → (x : ℕ) (behind : List ℕ) → Says t.facts n rest x behind → (u : Task) → u ≡ stored t n x → OnLine text u (n + 1) behind
  on_next d x behind s u e = rw e (record { one = omega arith; small = small_stored t n x o.small s.small; goes = o.goes ∙ s.goes t refl d })

  module _ (d : last_line t < n) where
    pub on_end : rest ≡ [] → accepted t ≡ follow (lines text) 1 zeros
    unfolding split
    on_end e = sym (o.goes ∙ rw e (follow_end n t d))

    pub on_more : (rest ≡ [] → ⊥) → refused 7 n ≡ follow (lines text) 1 zeros
    on_more f = sym (o.goes ∙ ap (λ ls. follow ls n t) (lines_first rest f) ∙ follow_over n t (first_line rest) (lines (behind_line rest)) d)
