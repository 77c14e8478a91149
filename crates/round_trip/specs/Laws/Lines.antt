-- The lines of a task's text are read into the task, and no other lines are.
use Rattle.std.specs.Prelude.{◌≡◌, true, ltb, leb, eqb, length, drop}
use Rattle.std.proofs.Math.Path.{refl, ap}
use Rattle.std.proofs.Common.{sym, ◌∙◌, subst}
use mathlib.Core.List.{List, [], ◌∷◌, ◌++◌, append_assoc}
use Prim.Native.Nat.{ℕ, zero, suc, ◌+◌, ◌≤◌, ◌<◌}
use native.Mathlib.Omega.{arith}
use Rattle.std.proofs.Math.ListN.{length-append}
use Rattle.std.proofs.Math.Seq.{drop-append_seam}
use borrow.Author.Tests.{eq-eqb, ltb-true, ltb-false, leb-true, leb-false, eqb-true, eqb-false}
use Rattle.strips.specs.Task.{Valid}
use Rattle.strips.specs.declared.Task.{Task}
use Rattle.task_format.specs.Text.{newline, begins, split, lines}
use Rattle.task_format.specs.Value.{content, OfKind}
use Rattle.task_format.specs.Lines.{key_of, kind_of, last_line, field, stored}
use Rattle.task_format.specs.Parse.{Read, refused, accepted, fault, judged, follow}
use Rattle.task_format.specs.Render.{value_text, line_text, lines_text}
use Rattle.strips.specs.Laws.Choice.{either, never}
use Rattle.task_format.specs.Laws.Fields.{field_holds, modest}
use Rattle.task_format.specs.Laws.Parse.{judged_yes, judged_no, follow_end, follow_missing, follow_over, follow_key, follow_value}
use Rattle.task_format.specs.Laws.Text.{key_of_lem}
use Rattle.task_format.specs.Laws.Decimal.{Without, all_append}
use Rattle.task_format.specs.declared.Kind.{Kind}
use Rattle.task_format.proofs.Fault.{Fine, fault_none, fine}
use Rattle.round_trip.specs.Laws.Pieces.{split_join, ended, Last, last_of, last_behind}
use Rattle.round_trip.specs.Laws.Values.{value_fine, value_content, fine_value, fine_holds, value_plain}
use Rattle.round_trip.specs.Laws.Fields.{found_field, kept_field}
use Rattle.round_trip.specs.Laws.Built.{Built, place, built_stored, due_stored, facts_kept, kind_same, Agree, task_same}

-- k lines from line n on, without their newlines
unfoldable pub bodies : ℕ → ℕ → Task → List (List ℕ)
bodies zero n t = []
bodies (suc k) n t = line_text t n ∷ bodies k (n + 1) t

pub bodies_ended : (k n : ℕ) (t : Task) → ended (bodies k n t) ≡ lines_text k n t
unfolding bodies ended lines_text
bodies_ended zero n t = refl
bodies_ended (suc k) n t = ap (λ (u : List ℕ). line_text t n ++ newline ∷ u) (bodies_ended k (n + 1) t)

-- a text without its last newline, where that ends in another byte
pub record Cut (text : List ℕ) : Type 0 where
  pub front : List ℕ
  pub last : Last front
  pub is : text ≡ front ++ (newline ∷ [])

cut_behind : (a text : List ℕ) → Cut text → Cut (a ++ text)
cut_behind a text c =
    record { front = a ++ c.front; last = last_behind a c.front c.last; is = ap (λ (u : List ℕ). a ++ u) c.is ∙ sym (append_assoc a c.front (newline ∷ [])) }

module _ (t : Task) (v : Valid t) where
  line_plain : (n : ℕ) → 1 ≤ n → n ≤ last_line t → Without newline (line_text t n)
  unfolding line_text
  line_plain n h l =
      all_append (λ b. b ≡ newline → ⊥) (key_of n) _ (key_of_lem n).plain
      (value_plain (kind_of t.facts n) (field t n) (modest t.facts v.few_facts n) (field_holds t v n h l))

  line_some : (n : ℕ) → 0 < length (line_text t n)
  unfolding line_text
  line_some n = omega (arith, length-append (key_of n) (value_text (kind_of t.facts n) (field t n)), (key_of_lem n).some)

  pub lines_bodies : (k n : ℕ) → 1 ≤ n → k + n ≤ last_line t + 1 → lines (lines_text k n t) ≡ bodies k n t
  unfolding lines_text bodies split
  lines_bodies zero n h l = refl
  lines_bodies (suc k) n h l =
      split_join newline [] (line_text t n) (lines_text k (n + 1) t) (line_plain n h (omega arith))
      ∙ ap (λ (ls : List (List ℕ)). line_text t n ∷ ls) (lines_bodies k (n + 1) (omega arith) (omega arith))

  pub lines_cut : (k n : ℕ) → 1 ≤ n → suc k + n ≤ last_line t + 1 → Cut (lines_text (suc k) n t)
  unfolding lines_text
  lines_cut zero n h l = record { front = line_text t n; last = last_of (line_text t n) (line_some n) (line_plain n h (omega arith)); is = refl }
  lines_cut (suc k) n h l =
      let r = lines_cut k (n + 1) (omega arith) (omega arith) in
      cut_behind (line_text t n) _ (cut_behind (newline ∷ []) _ r)

-- ---- a task's lines are read into the task

begins_self : (k t : List ℕ) → begins k (k ++ t) ≡ true
unfolding begins
begins_self [] t = refl
begins_self (b ∷ k) t = rw (eq-eqb b b refl) (begins_self k t)

module _ (t : Task) (v : Valid t) where
  -- facts and counts that are already read
  facts_agree : (n : ℕ) (g : Task) → Agree n g t → 2 ≤ n → g.facts ≡ t.facts
  unfolding field
  facts_agree n g a h = a 1 (omega arith) (omega arith)

  due_agree : (n : ℕ) (g : Task) → Agree n g t → n ≤ last_line t → n ≤ last_line g
  unfolding field
  due_agree n g a h =
      either (ltb 5 n)
      (λ q. let l = ltb-true 5 n q in omega (arith, a 4 (omega arith) (omega arith), a 5 (omega arith) (omega arith)))
      (λ q. let l = ltb-false 5 n q in omega arith)

  turn : (n : ℕ) (g : Task) (ls : List (List ℕ)) → 1 ≤ n → n ≤ last_line t → Agree n g t
      → follow (line_text t n ∷ ls) n g ≡ follow ls (n + 1) (stored g n (field t n))
  unfolding line_text
  turn n g ls h l a =
      let kind = kind_of t.facts n in
      let w = value_text kind (field t n) in
      let m = modest t.facts v.few_facts n in
      let f = field_holds t v n h l in
      let e : kind_of g.facts n ≡ kind = kind_same g.facts t.facts n h (facts_agree n g a) in
      follow_value n g _ ls (due_agree n g a l) (begins_self (key_of n) w)
      ∙ ap (λ (u : List ℕ). judged (kind_of g.facts n) u n (follow ls (n + 1) (stored g n (content (kind_of g.facts n) u)))) (drop-append_seam (key_of n) w)
      ∙ ap (λ (k : Kind). judged k w n (follow ls (n + 1) (stored g n (content k w)))) e
      ∙ judged_yes kind w n _ (fault_none kind w (value_fine kind (field t n) m f))
      ∙ ap (λ (x : ℕ). follow ls (n + 1) (stored g n x)) (value_content kind (field t n) m f)

  agree_next : (n : ℕ) (g : Task) → 1 ≤ n → n ≤ last_line t → Built n g → Agree n g t → Agree (n + 1) (stored g n (field t n)) t
  agree_next n g h l b a j p q =
      let x = field t n in
      let d = due_agree n g a l in
      either (eqb j n)
      (λ e. let i = eqb-true j n e in
      subst (λ (k : ℕ). field (stored g n x) k ≡ field t k) (sym i) (found_field g x n h (place g n d b)))
      (λ e. let i : j < n = omega (arith, eqb-false j n e) in kept_field g x n h j p i (place g n d b) ∙ a j p i)

  holds_next : (n : ℕ) (g : Task) → 1 ≤ n → n ≤ last_line t → Agree n g t → OfKind (kind_of g.facts n) (field t n)
  holds_next n g h l a = subst (λ (k : Kind). OfKind k (field t n)) (sym (kind_same g.facts t.facts n h (facts_agree n g a))) (field_holds t v n h l)

  pub follow_bodies : (k n : ℕ) (g : Task) → 1 ≤ n → k + n ≡ last_line t + 1 → Built n g → Agree n g t → follow (bodies k n t) n g ≡ accepted t
  unfolding bodies
  follow_bodies zero n g h e b a =
      let d : n ≡ last_line t + 1 = omega arith in
      let s : g ≡ t = task_same g t v (subst (λ (k : ℕ). Built k g) d b).tame (subst (λ (k : ℕ). Agree k g t) d a) in
      ap (follow [] n) s ∙ follow_end n t (omega arith)
  follow_bodies (suc k) n g h e b a =
      let l : n ≤ last_line t = omega arith in
      let d = due_agree n g a l in
      let next = built_stored g n (field t n) h d b (holds_next n g h l a) in
      turn n g (bodies k (n + 1) t) h l a
      ∙ follow_bodies k (n + 1) (stored g n (field t n)) (omega arith) (omega arith) next (agree_next n g h l b a)

-- ---- no other lines are

begins_split : (k t : List ℕ) → begins k t ≡ true → t ≡ k ++ drop (length k) t
unfolding begins
begins_split [] t e = refl
begins_split (b ∷ k) [] e = absurd (never e)
begins_split (b ∷ k) (c ∷ t) e =
    either (eqb c b)
    (λ q. let d : c ≡ b = eqb-true c b q in rw d (ap (λ (l : List ℕ). b ∷ l) (begins_split k t (rw q at e))))
    (λ q. absurd (never (rw q at e)))

refused_not : (q n : ℕ) (t : Task) → refused (suc q) n ≡ accepted t → ⊥
refused_not q n t e = let z = ap (λ (r : Read). r.number) e in omega (arith, z)

-- a line that is read with no refusal
record Taken (n : ℕ) (g : Task) (l : List ℕ) (ls : List (List ℕ)) (t : Task) : Type 0 where
  due : n ≤ last_line g
  begins : begins (key_of n) l ≡ true
  fine : Fine (kind_of g.facts n) (drop (length (key_of n)) l)
  next : follow ls (n + 1) (stored g n (content (kind_of g.facts n) (drop (length (key_of n)) l))) ≡ accepted t

module _ (n : ℕ) (g : Task) (l : List ℕ) (ls : List (List ℕ)) (t : Task) (e : follow (l ∷ ls) n g ≡ accepted t) where
  taken_value_lem : n ≤ last_line g → begins (key_of n) l ≡ true → Taken n g l ls t
  taken_value_lem d b =
      let kind = kind_of g.facts n in
      let v = drop (length (key_of n)) l in
      let next = follow ls (n + 1) (stored g n (content kind v)) in
      let w : judged kind v n next ≡ accepted t = sym (follow_value n g l ls d b) ∙ e in
      either (eqb (fault kind v) 0)
      (λ q. let z = eqb-true (fault kind v) 0 q in record { due = d; begins = b; fine = fine kind v z; next = sym (judged_yes kind v n next z) ∙ w })
      (λ q. let z = eqb-false (fault kind v) 0 q in
      absurd (z (ap (λ (r : Read). r.number) (sym (judged_no kind v n (fault kind v) next refl z) ∙ w))))

  taken : Taken n g l ls t
  taken =
      either (leb n (last_line g))
      (λ q. let d = leb-true n (last_line g) q in
      either (begins (key_of n) l) (taken_value_lem d)
      (λ b. absurd (refused_not 2 n t (sym (follow_key n g l ls d b) ∙ e))))
      (λ q. absurd (refused_not 6 n t (sym (follow_over n g l ls (leb-false n (last_line g) q)) ∙ e)))

-- the lines from line n on are the task's, and the record before them agrees with it
pub record Only (n : ℕ) (g t : Task) (ls : List (List ℕ)) : Type 0 where
  pub sum : length ls + n ≡ last_line t + 1
  pub agree : Agree n t g
  pub lines : ls ≡ bodies (length ls) n t
  pub built : Built (last_line t + 1) t

only_end : (n : ℕ) (g t : Task) → n ≤ last_line g + 1 → Built n g → follow [] n g ≡ accepted t → Only n g t []
unfolding bodies
only_end n g t u b e =
    either (leb n (last_line g))
    (λ q. absurd (refused_not 1 n t (sym (follow_missing n g (leb-true n (last_line g) q)) ∙ e)))
    (λ q.
    let l = leb-false n (last_line g) q in
    let s : g ≡ t = ap (λ (r : Read). r.task) (sym (follow_end n g l) ∙ e) in
    let z : n ≡ last_line g + 1 = omega arith in
    subst (λ (x : Task). Only n g x []) s
    (record { sum = omega arith; agree = λ j _ _. refl; lines = refl; built = subst (λ (k : ℕ). Built k g) z b }))

only_next : (n : ℕ) (g t : Task) (l : List ℕ) (ls : List (List ℕ)) → 1 ≤ n → Built n g → (k : Taken n g l ls t)
    → Only (n + 1) (stored g n (content (kind_of g.facts n) (drop (length (key_of n)) l))) t ls → Only n g t (l ∷ ls)
unfolding bodies line_text field
only_next n g t l ls h b k o =
    let kind = kind_of g.facts n in
    let v = drop (length (key_of n)) l in
    let x = content kind v in
    let p = place g n k.due b in
    let here : field t n ≡ x = o.agree n h (omega arith) ∙ found_field g x n h p in
    let facts : 2 ≤ n → g.facts ≡ t.facts = λ m. sym (o.agree 1 (omega arith) (omega arith) ∙ facts_kept g n x h k.due b (fine_holds kind v k.fine) m) in
    let same : kind ≡ kind_of t.facts n = kind_same g.facts t.facts n h facts in
    let line : l ≡ key_of n ++ value_text (kind_of t.facts n) (field t n) =
    begins_split (key_of n) l k.begins
    ∙ ap (λ (u : List ℕ). key_of n ++ u) (fine_value kind v k.fine ∙ ap (λ (q : Kind). value_text q x) same ∙ ap (value_text (kind_of t.facts n)) (sym here)) in
    record {
      sum = omega (arith, o.sum);
      agree = λ j a c. o.agree j a (omega arith) ∙ kept_field g x n h j a c p;
      lines = ap (λ (u : List ℕ). u ∷ ls) line ∙ ap (λ (us : List (List ℕ)). (key_of n ++ value_text (kind_of t.facts n) (field t n)) ∷ us) o.lines;
      built = o.built;
    }

pub only : (ls : List (List ℕ)) (n : ℕ) (g t : Task) → 1 ≤ n → n ≤ last_line g + 1 → Built n g → follow ls n g ≡ accepted t → Only n g t ls
only [] n g t h u b e = only_end n g t u b e
only (l ∷ ls) n g t h u b e =
    let k = taken n g l ls t e in
    let kind = kind_of g.facts n in
    let v = drop (length (key_of n)) l in
    let d = due_stored g (content kind v) n h k.due in
    let next = built_stored g n (content kind v) h k.due b (fine_holds kind v k.fine) in
    only_next n g t l ls h b k (only ls (n + 1) (stored g n (content kind v)) t (omega arith) (omega arith) next k.next)
