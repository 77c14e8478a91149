-- A task whose text has 28,150 bytes: all places used, all facts in every list.
use Rattle.std.specs.Prelude.{◌≡◌, refl, false, ℕ, zero, suc, ◌+◌, ◌-◌, ◌*◌, ◌%◌, ◌^◌, ◌≤◌, ◌<◌, ltb, eqb, length, replicate}
use Rattle.std.proofs.Common.{sym, ap, ◌∙◌, subst, arith, ltb-true, ltb-false}
use Rattle.std.proofs.lemmas.List.{length-replicate, get_or-replicate}
use Rattle.strips.specs.Limits.{max_facts, max_leader, max_follower, max_cost}
use Rattle.strips.specs.Task.{idle, Proper, Places, Valid}
use Rattle.strips.specs.declared.Action.{Action}
use Rattle.strips.specs.declared.Task.{Task}
use Rattle.strips.specs.Choice.{pick}
use Rattle.task_format.specs.Limits.{longest_file}
use Rattle.task_format.specs.Lines.{key_of, action_key, kind_of, part_of, action_of, action_field, field}
use Rattle.task_format.specs.Render.{digits_of, facts_of, listed, value_text, line_text, lines_text, render}
use Rattle.strips.specs.Laws.Choice.{either}
use Rattle.task_format.specs.Laws.Lines.{other, key_rest, kind_rest, field_rest}
use Rattle.task_format.specs.Laws.Size.{line_size, next_size}
use Rattle.task_format.specs.declared.Kind.{Kind}
use Rattle.task_format.specs.declared.Kind.TheVariants.{Number, FactList}

all_facts : ℕ
all_facts = 2 ^ max_facts - 1

full_action : Action
full_action = record { cost = max_cost; precondition = all_facts; delete = all_facts; add = all_facts }

pub full : Task
full =
    record {
      facts = max_facts;
      initial = all_facts;
      goal = all_facts;
      leader_count = max_leader;
      follower_count = max_follower;
      leader = replicate max_leader full_action;
      follower = replicate max_follower full_action;
    }

full_places : (n : ℕ) → Places max_facts n n (replicate n full_action)
unfolding full_action all_facts
full_places n =
    record {
      long = length-replicate n full_action;
      room = omega arith;
      used = λ i h. subst (Proper max_facts) (sym (get_or-replicate n i full_action idle h))
          (record { cost = omega arith; precondition = omega arith; delete = omega arith; add = omega arith });
      unused = λ i l h. absurd (omega arith);
    }

pub full_valid : Valid full
unfolding full all_facts
full_valid =
    record {
      some_facts = omega arith;
      few_facts = omega arith;
      initial = omega arith;
      goal = omega arith;
      leader = full_places max_leader;
      follower = full_places max_follower;
    }

-- ---- its lines

list_length : length (value_text (FactList max_facts) all_facts) ≡ 182
unfolding all_facts value_text digits_of facts_of listed
list_length = refl

full_field : (n : ℕ) → 6 ≤ n → action_of n < 48 → field full n ≡ part_of full_action (n % 4)
unfolding full action_field
full_field n h l =
    sym (field_rest n (other n h) full)
    ∙ either (ltb (action_of n) max_leader)
    (λ q. let m = ltb-true (action_of n) max_leader q in
    rw q (ap (λ (a : Action). part_of a (n % 4)) (get_or-replicate max_leader (action_of n) full_action idle m)))
    (λ q. let m = ltb-false (action_of n) max_leader q in
    rw q (ap (λ (a : Action). part_of a (n % 4)) (get_or-replicate max_follower (action_of n - max_leader) full_action idle (omega arith))))

-- a line of an action, by its remainder
part_length : (n r : ℕ) → 6 ≤ n → action_of n < 48 → n % 4 ≡ r
    → length (line_text full n) ≡ length (action_key r) + length (value_text (pick (eqb r 2) (Number 0 max_cost) (FactList max_facts)) (part_of full_action r))
unfolding full
part_length n r h l e =
    let o = other n h in
    let k : length (key_of n) ≡ length (action_key r) = ap length (sym (key_rest n o)) ∙ ap (λ (m : ℕ). length (action_key m)) e in
    let v : length (value_text (kind_of max_facts n) (field full n))
    ≡ length (value_text (pick (eqb r 2) (Number 0 max_cost) (FactList max_facts)) (part_of full_action r)) =
    ap (λ (q : Kind). length (value_text q (field full n))) (kind_rest n o max_facts)
    ∙ ap (λ (x : ℕ). length (value_text (pick (eqb (n % 4) 2) (Number 0 max_cost) (FactList max_facts)) x)) (full_field n h l)
    ∙ ap (λ (m : ℕ). length (value_text (pick (eqb m 2) (Number 0 max_cost) (FactList max_facts)) (part_of full_action m))) e in
    omega (arith, line_size full n, k, v)

cost_length : (n : ℕ) → 6 ≤ n → action_of n < 48 → n % 4 ≡ 2 → length (line_text full n) ≡ 10
unfolding full_action part_of value_text digits_of action_key
cost_length n h l e = part_length n 2 h l e

set_length : (n r : ℕ) → 6 ≤ n → action_of n < 48 → n % 4 ≡ r
    → length (action_key r) ≡ 6 → eqb r 2 ≡ false → part_of full_action r ≡ all_facts → length (line_text full n) ≡ 188
set_length n r h l e k q p =
    part_length n r h l e ∙ rw (q, p) (omega (arith, k, list_length))

-- the four lines of an action
four_length : (k n : ℕ) → 6 ≤ n → action_of n < 48 → n % 4 ≡ 2
    → length (lines_text (suc (suc (suc (suc k)))) n full) ≡ 578 + length (lines_text k (n + 1 + 1 + 1 + 1) full)
unfolding action_key part_of full_action
four_length k n h l e =
    omega (
      arith,
      next_size (suc (suc (suc k))) n full,
      next_size (suc (suc k)) (n + 1) full,
      next_size (suc k) (n + 1 + 1) full,
      next_size k (n + 1 + 1 + 1) full,
      cost_length n h l e,
      set_length (n + 1) 3 (omega arith) (omega arith) (omega arith) refl refl refl,
      set_length (n + 1 + 1) 0 (omega arith) (omega arith) (omega arith) refl refl refl,
      set_length (n + 1 + 1 + 1) 1 (omega arith) (omega arith) (omega arith) refl refl refl,
    )

actions_length : (k n m : ℕ) → 6 ≤ n → action_of n + k ≤ 48 → n % 4 ≡ 2 → m ≡ 4 * k → length (lines_text m n full) ≡ 578 * k
unfolding lines_text
actions_length zero n m h l e q = let z : m ≡ 0 = omega arith in rw z refl
actions_length (suc k) n m h l e q =
    let z : m ≡ suc (suc (suc (suc (4 * k)))) = omega arith in
    let a = four_length (4 * k) n h (omega arith) e in
    let b = actions_length k (n + 1 + 1 + 1 + 1) (4 * k) (omega arith) (omega arith) (omega arith) refl in
    rw z (omega (arith, a, b))

-- the first five lines
head_length : (k : ℕ) → length (lines_text (suc (suc (suc (suc (suc k))))) 1 full) ≡ 406 + length (lines_text k 6 full)
unfolding full key_of kind_of field value_text digits_of
head_length k =
    omega (
      arith,
      next_size (suc (suc (suc (suc k)))) 1 full,
      next_size (suc (suc (suc k))) 2 full,
      next_size (suc (suc k)) 3 full,
      next_size (suc k) 4 full,
      next_size k 5 full,
      line_size full 1,
      line_size full 2,
      line_size full 3,
      line_size full 4,
      line_size full 5,
      list_length,
    )

pub full_length : length (render full) ≡ longest_file
unfolding render full
full_length = head_length 192 ∙ omega (arith, actions_length 48 6 192 (omega arith) (omega arith) (omega arith) refl)
