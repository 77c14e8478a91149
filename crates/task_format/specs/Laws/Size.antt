-- The text of a valid task has at most 28,150 bytes.
use Rattle.std.specs.Prelude.{◌≡◌, true, false, List, [], ◌∷◌, eqb, ltb, length}
use Rattle.std.proofs.Math.Path.{refl}
use Rattle.std.proofs.Common.{ap, ◌∙◌, length-append, ltb-true, ltb-false}
use Prim.Native.Nat.{ℕ, zero, suc, ◌+◌, ◌-◌, ◌*◌, ◌/◌, ◌%◌, ◌≤◌, ◌<◌, min}
use native.Mathlib.Omega.{arith}
use Rattle.strips.specs.Task.{Valid}
use Rattle.strips.specs.declared.Task.{Task}
use Rattle.strips.specs.Choice.{pick}
use Rattle.task_format.specs.Limits.{longest_file}
use Rattle.task_format.specs.Lines.{key_of, action_key, kind_of, last_line, field}
use Rattle.task_format.specs.Render.{digits, facts_of, listed, value_text, line_text, lines_text, render}
use Rattle.strips.specs.Laws.Choice.{by_test, either}
use Rattle.task_format.specs.Laws.Digits.{digits_one, digits_two, digits_few}
use Rattle.task_format.specs.Laws.Lines.{other, key_rest, kind_rest}
use Rattle.task_format.specs.declared.Kind.{Kind}
use Rattle.task_format.specs.declared.Kind.TheVariants.{Number, FactList}

-- ---- values

-- a member behind a comma takes two bytes below 10, and three from there on
members_size : (k i s : ℕ) → i + k ≤ 65 → length (listed false (facts_of k i s)) + min k (10 - i) ≤ 3 * k
unfolding listed facts_of
members_size zero i s h = omega arith
members_size (suc k) i s h =
    let r = members_size k (i + 1) (s / 2) (omega arith) in
    by_test (λ (ms : List ℕ). length (listed false ms) + min (suc k) (10 - i) ≤ 3 * suc k) (eqb (s % 2) 1) _ _
    (λ _.
    let z = length-append (digits i) (listed false (facts_of k (i + 1) (s / 2))) in
    either (ltb i 10)
    (λ q. let l = ltb-true i 10 q in omega (arith, r, z, digits_one i l))
    (λ q. let l = ltb-false i 10 q in omega (arith, r, z, digits_two i (omega arith))))
    (λ _. omega (arith, r))

-- the first member has no comma
first_size : (ms : List ℕ) → length (listed true ms) ≤ length (listed false ms) - 1
unfolding listed
first_size [] = omega arith
first_size (m ∷ ms) = omega (arith, length-append (digits m) (listed false ms))

list_size : (facts x : ℕ) → facts ≤ 64 → length (value_text (FactList facts) x) ≤ 182
unfolding value_text
list_size facts x h = omega (arith, members_size facts 1 x (omega arith), first_size (facts_of facts 1 x))

number_size : (low high x : ℕ) → length (value_text (Number low high) x) ≤ 5
unfolding value_text
number_size low high x = digits_few 5 x

small_size : (low high x : ℕ) → x < 100 → length (value_text (Number low high) x) ≤ 2
unfolding value_text
small_size low high x h = digits_two x h

-- ---- lines

pub line_size : (t : Task) (n : ℕ) → length (line_text t n) ≡ length (key_of n) + length (value_text (kind_of t.facts n) (field t n))
unfolding line_text
line_size t n = length-append (key_of n) _

pub next_size : (k n : ℕ) (t : Task) → length (lines_text (suc k) n t) ≡ length (line_text t n) + 1 + length (lines_text k (n + 1) t)
unfolding lines_text
next_size k n t = length-append (line_text t n) _ ∙ omega arith

-- a line of an action, whose key is known by its remainder
action_size : (t : Task) (n r x y : ℕ) → 6 ≤ n → n % 4 ≡ r → length (action_key r) ≤ x
    → length (value_text (pick (eqb r 2) (Number 0 10000) (FactList t.facts)) (field t n)) ≤ y → length (line_text t n) ≤ x + y
action_size t n r x y h e a b =
    let o = other n h in
    omega (
      arith,
      line_size t n,
      ap length (key_rest n o),
      ap (λ (m : ℕ). length (action_key m)) e,
      ap (λ (k : Kind). length (value_text k (field t n))) (kind_rest n o t.facts),
      ap (λ (m : ℕ). length (value_text (pick (eqb m 2) (Number 0 10000) (FactList t.facts)) (field t n))) e,
      a,
      b,
    )

module _ (t : Task) (f : t.facts ≤ 64) where
  -- the four lines of an action
  four_size : (k n : ℕ) → 6 ≤ n → n % 4 ≡ 2 → length (lines_text (suc (suc (suc (suc k)))) n t) ≤ 578 + length (lines_text k (n + 1 + 1 + 1 + 1) t)
  unfolding action_key
  four_size k n h e =
      omega (
        arith,
        next_size (suc (suc (suc k))) n t,
        next_size (suc (suc k)) (n + 1) t,
        next_size (suc k) (n + 1 + 1) t,
        next_size k (n + 1 + 1 + 1) t,
        action_size t n 2 5 5 h e (omega arith) (number_size 0 10000 (field t n)),
        action_size t (n + 1) 3 6 182 (omega arith) (omega arith) (omega arith) (list_size t.facts (field t (n + 1)) f),
        action_size t (n + 1 + 1) 0 6 182 (omega arith) (omega arith) (omega arith) (list_size t.facts (field t (n + 1 + 1)) f),
        action_size t (n + 1 + 1 + 1) 1 6 182 (omega arith) (omega arith) (omega arith) (list_size t.facts (field t (n + 1 + 1 + 1)) f),
      )

  actions_size : (k n m : ℕ) → 6 ≤ n → n % 4 ≡ 2 → m ≡ 4 * k → length (lines_text m n t) ≤ 578 * k
  unfolding lines_text
  actions_size zero n m h e q = let z : m ≡ 0 = omega arith in rw z (omega arith)
  actions_size (suc k) n m h e q =
      let z : m ≡ suc (suc (suc (suc (4 * k)))) = omega arith in
      let a = four_size (4 * k) n h e in
      let b = actions_size k (n + 1 + 1 + 1 + 1) (4 * k) (omega arith) (omega arith) refl in
      rw z (omega (arith, a, b))

  -- the first five lines
  head_size : t.leader_count < 100 → t.follower_count < 100 → (k : ℕ)
      → length (lines_text (suc (suc (suc (suc (suc k))))) 1 t) ≤ 406 + length (lines_text k 6 t)
  unfolding key_of kind_of field
  head_size l m k =
      omega (
        arith,
        next_size (suc (suc (suc (suc k)))) 1 t,
        next_size (suc (suc (suc k))) 2 t,
        next_size (suc (suc k)) 3 t,
        next_size (suc k) 4 t,
        next_size k 5 t,
        line_size t 1,
        line_size t 2,
        line_size t 3,
        line_size t 4,
        line_size t 5,
        small_size 1 64 t.facts (omega arith),
        list_size t.facts t.initial f,
        list_size t.facts t.goal f,
        small_size 0 16 t.leader_count l,
        small_size 0 32 t.follower_count m,
      )

pub render_size : (t : Task) → Valid t → length (render t) ≤ longest_file
unfolding render
render_size t v =
    let n = t.leader_count + t.follower_count in
    let e : last_line t ≡ suc (suc (suc (suc (suc (4 * n))))) = omega arith in
    rw e (omega (
      arith,
      head_size t v.few_facts (omega (arith, v.leader.room)) (omega (arith, v.follower.room)) (4 * n),
      actions_size t v.few_facts n 6 (4 * n) (omega arith) (omega arith) refl,
      v.leader.room,
      v.follower.room,
    ))
