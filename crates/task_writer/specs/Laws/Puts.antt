-- Members of a list, and lines.
use Rattle.std.specs.Prelude.{◌≡◌, refl, Bool, false, [], ◌∷◌, ◌++◌, ℕ, suc, ◌+◌, ◌-◌, ◌/◌, ◌%◌, ◌^◌, ◌≤◌, ◌<◌, length}
use Rattle.std.proofs.Common.{sym, ap, ◌∙◌, subst, append_assoc, arith, length-append}
use borrow.Author.Tests.{eq-eqb, ne_eqb}
use Rattle.strips.specs.Task.{Valid}
use Rattle.strips.specs.declared.Task.{Task}
use Rattle.task_format.specs.Text.{newline}
use Rattle.task_format.specs.Lines.{key_of, kind_of, field, last_line}
use Rattle.task_format.specs.Limits.{max_digits}
use Rattle.task_format.specs.Render.{digits_of, digits, facts_of, listed, value_text, line_text, lines_text, render}
use Rattle.task_format.specs.Value.{OfKind, Modest}
use Rattle.task_format.specs.Laws.Fields.{field_holds, modest}
use Rattle.task_format.specs.declared.Kind.{Kind}
use Rattle.text_output.specs.Puts.{number_digits}
use Rattle.text_output.specs.Laws.Digits.{digits_same}
use Rattle.task_writer.specs.Puts.{member_text, ended_line}

-- ---- numbers

-- a number of the file has no more digits where more are allowed
pub five_digits : (n : ℕ) → n < 10 ^ max_digits → digits_of number_digits n ≡ digits n
five_digits n h = digits_same max_digits n (omega arith) h (omega arith)

-- ---- members of a list

-- the facts from i on, among the first `most`, of a set of which fact i is the lowest bit
module _ (first : Bool) (most i s : ℕ) where
  pub list_turn : i ≤ most → s % 2 ≡ 1
      → listed first (facts_of (most + 1 - i) i s) ≡ member_text first i ++ listed false (facts_of (most + 1 - (i + 1)) (i + 1) (s / 2))
  unfolding listed facts_of
  list_turn h e = let k : most + 1 - i ≡ suc (most + 1 - (i + 1)) = omega arith in rw (k, eq-eqb (s % 2) 1 e) refl

  pub list_skip : i ≤ most → (s % 2 ≡ 1 → ⊥) → listed first (facts_of (most + 1 - i) i s) ≡ listed first (facts_of (most + 1 - (i + 1)) (i + 1) (s / 2))
  unfolding facts_of
  list_skip h n = let k : most + 1 - i ≡ suc (most + 1 - (i + 1)) = omega arith in rw (k, ne_eqb (s % 2) 1 n) refl

  pub list_done : most < i → listed first (facts_of (most + 1 - i) i s) ≡ []
  unfolding listed facts_of
  list_done h = let k : most + 1 - i ≡ 0 = omega arith in rw k refl

-- ---- lines

pub line_is : (t : Task) (n : ℕ) → ended_line t n ≡ key_of n ++ (value_text (kind_of t.facts n) (field t n) ++ (newline ∷ []))
unfolding line_text
line_is t n = append_assoc (key_of n) _ _

pub line_length : (t : Task) (n : ℕ) → length (ended_line t n) ≡ length (key_of n) + length (value_text (kind_of t.facts n) (field t n)) + 1
line_length t n =
    ap length (line_is t n) ∙ length-append (key_of n) _
    ∙ omega (arith, length-append (value_text (kind_of t.facts n) (field t n)) (newline ∷ []))

-- the lines from n on, up to the last
module _ (t : Task) (n last : ℕ) where
  pub lines_turn : n ≤ last → lines_text (last + 1 - n) n t ≡ ended_line t n ++ lines_text (last + 1 - (n + 1)) (n + 1) t
  unfolding lines_text
  lines_turn h = let k : last + 1 - n ≡ suc (last + 1 - (n + 1)) = omega arith in rw k (sym (append_assoc (line_text t n) (newline ∷ []) _))

  pub lines_done : last < n → lines_text (last + 1 - n) n t ≡ []
  unfolding lines_text
  lines_done h = let k : last + 1 - n ≡ 0 = omega arith in rw k refl

pub render_is : (t : Task) → render t ≡ lines_text (last_line t + 1 - 1) 1 t
unfolding render
render_is t = let k : last_line t + 1 - 1 ≡ last_line t = omega arith in rw k refl

-- the value of a line, as the code has its kind and its field
pub value_same : (t : Task) (n : ℕ) (kind : Kind) (x : ℕ) → kind ≡ kind_of t.facts n → x ≡ field t n
    → value_text kind x ≡ value_text (kind_of t.facts n) (field t n)
value_same t n kind x e f = cc

pub value_holds : (t : Task) → Valid t → (n : ℕ) → 1 ≤ n → n ≤ last_line t → (kind : Kind) (x : ℕ)
    → kind ≡ kind_of t.facts n → x ≡ field t n → Modest kind × OfKind kind x
value_holds t v n h l kind x e f = (
  subst Modest (sym e) (modest t.facts v.few_facts n),
  subst (λ (k : Kind). OfKind k x) (sym e) (subst (OfKind (kind_of t.facts n)) (sym f) (field_holds t v n h l)),
)
