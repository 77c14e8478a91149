-- What is stored at a line is found there, and other lines keep what they had.
use Rattle.std.specs.Prelude.{◌≡◌, refl, List, ℕ, zero, suc, ◌+◌, ◌-◌, ◌%◌, ◌≤◌, ◌<◌, ltb, eqb, length, get_or, set}
use Rattle.std.proofs.Common.{arith, get_or-set_same, get_or-set_other, ltb-true, ltb-false, eqb-true}
use Rattle.std.proofs.lemmas.Bool.{eqb-false}
use Rattle.strips.specs.Limits.{max_leader, max_follower}
use Rattle.strips.specs.Task.{idle}
use Rattle.strips.specs.declared.Action.{Action}
use Rattle.strips.specs.declared.Task.{Task}
use Rattle.task_format.specs.Lines.{part_of, with_part, action_of, action_field, with_action, field, stored}
use Rattle.strips.specs.Laws.Choice.{by_test, either}
use Rattle.task_format.specs.Laws.Fields.{by_line}
use Rattle.task_format.specs.Laws.Lines.{other, field_rest, stored_rest}

-- ---- the parts of an action, by the remainders 0 to 3

by_rest : (P : ℕ → Type 0) → P 0 → P 1 → P 2 → P 3 → (r : ℕ) → r < 4 → P r
by_rest P a b c d zero h = a
by_rest P a b c d (suc zero) h = b
by_rest P a b c d (suc (suc zero)) h = c
by_rest P a b c d (suc (suc (suc zero))) h = d
by_rest P a b c d (suc (suc (suc (suc r)))) h = absurd (omega arith)

part_same : (a : Action) (x r : ℕ) → r < 4 → part_of (with_part a r x) r ≡ x
unfolding part_of with_part
part_same a x = by_rest (λ r. part_of (with_part a r x) r ≡ x) refl refl refl refl

part_other : (a : Action) (x r : ℕ) → r < 4 → (q : ℕ) → q < 4 → (q ≡ r → ⊥) → part_of (with_part a r x) q ≡ part_of a q
unfolding part_of with_part
part_other a x =
    let Q : ℕ → ℕ → Type 0 = λ r q. (q ≡ r → ⊥) → part_of (with_part a r x) q ≡ part_of a q in
    by_rest (λ r. (q : ℕ) → q < 4 → Q r q)
    (by_rest (Q 0) (λ n. absurd (n refl)) (λ n. refl) (λ n. refl) (λ n. refl))
    (by_rest (Q 1) (λ n. refl) (λ n. absurd (n refl)) (λ n. refl) (λ n. refl))
    (by_rest (Q 2) (λ n. refl) (λ n. refl) (λ n. absurd (n refl)) (λ n. refl))
    (by_rest (Q 3) (λ n. refl) (λ n. refl) (λ n. refl) (λ n. absurd (n refl)))

-- an action is its parts
pub action_same : (a b : Action) → ((r : ℕ) → r < 4 → part_of a r ≡ part_of b r) → a ≡ b
unfolding part_of
action_same a b e = λ i. record { cost = e 2 (omega arith) i; precondition = e 3 (omega arith) i; delete = e 0 (omega arith) i; add = e 1 (omega arith) i }

-- ---- actions

-- the record's arrays have their lengths, and the action numbered i a place
pub record Place (g : Task) (i : ℕ) : Type 0 where
  pub leader : length g.leader ≡ max_leader
  pub follower : length g.follower ≡ max_follower
  pub few : g.leader_count ≤ max_leader
  pub below : i < g.leader_count + max_follower

found_action : (g : Task) (i r x : ℕ) → Place g i → r < 4 → action_field (with_action g i r x) i r ≡ x
unfolding action_field with_action
found_action g i r x p h =
    either (ltb i g.leader_count)
    (λ q. let a = get_or g.leader i idle in
    let m : i < length g.leader = omega (arith, ltb-true i g.leader_count q, p.leader, p.few) in
    rw (q, q, get_or-set_same g.leader i (with_part a r x) idle m) (part_same a x r h))
    (λ q. let j = i - g.leader_count in
    let a = get_or g.follower j idle in
    let m : j < length g.follower = omega (arith, ltb-false i g.leader_count q, p.follower, p.below) in
    rw (q, q, get_or-set_same g.follower j (with_part a r x) idle m) (part_same a x r h))

-- one array, with a part set at i
set_part : (l : List Action) (i r x j q : ℕ) → i < length l → r < 4 → q < 4 → (j ≡ i → q ≡ r → ⊥)
    → part_of (get_or (set l i (with_part (get_or l i idle) r x)) j idle) q ≡ part_of (get_or l j idle) q
set_part l i r x j q h hr hq n =
    either (eqb j i)
    (λ e. let d : j ≡ i = eqb-true j i e in
    rw (d, get_or-set_same l i (with_part (get_or l i idle) r x) idle h) (part_other (get_or l i idle) x r hr q hq (n d)))
    (λ e. rw (get_or-set_other l i j (with_part (get_or l i idle) r x) idle (eqb-false j i e)))

other_action : (g : Task) (i r x j q : ℕ) → Place g i → r < 4 → q < 4 → (j ≡ i → q ≡ r → ⊥) → action_field (with_action g i r x) j q ≡ action_field g j q
unfolding action_field with_action
other_action g i r x j q p hr hq n =
    either (ltb i g.leader_count)
    (λ e. rw e (either (ltb j g.leader_count)
    (λ f. rw f (set_part g.leader i r x j q (omega (arith, ltb-true i g.leader_count e, p.leader, p.few)) hr hq n))
    (λ f. rw f)))
    (λ e. rw e (either (ltb j g.leader_count)
    (λ f. rw f)
    (λ f. rw f (set_part g.follower (i - g.leader_count) r x (j - g.leader_count) q (omega (arith, ltb-false i g.leader_count e, p.follower, p.below)) hr hq
    (λ d. n (omega (arith, d, ltb-false i g.leader_count e, ltb-false j g.leader_count f)))))))

-- a store at an action's line leaves what is no action
pub record SameHead (g h : Task) : Type 0 where
  pub facts : h.facts ≡ g.facts
  pub initial : h.initial ≡ g.initial
  pub goal : h.goal ≡ g.goal
  pub leader : h.leader_count ≡ g.leader_count
  pub follower : h.follower_count ≡ g.follower_count

pub head_kept : (g : Task) (i r x : ℕ) → SameHead g (with_action g i r x)
unfolding with_action
head_kept g i r x =
    by_test (SameHead g) (ltb i g.leader_count) _ _
    (λ _. record { facts = refl; initial = refl; goal = refl; leader = refl; follower = refl })
    (λ _. record { facts = refl; initial = refl; goal = refl; leader = refl; follower = refl })

-- ---- by lines

pub found_field : (g : Task) (x n : ℕ) → 1 ≤ n → (6 ≤ n → Place g (action_of n)) → field (stored g n x) n ≡ x
unfolding field stored
found_field g x =
    by_line (λ n. (6 ≤ n → Place g (action_of n)) → field (stored g n x) n ≡ x) (λ _. refl) (λ _. refl) (λ _. refl) (λ _. refl) (λ _. refl)
    (λ n h p. let o = other n h in rw (← field_rest n o (stored g n x), ← stored_rest n o g x) (found_action g (action_of n) (n % 4) x (p h) (omega arith)))

pub kept_field : (g : Task) (x n : ℕ) → 1 ≤ n → (j : ℕ) → 1 ≤ j → j < n → (6 ≤ n → Place g (action_of n)) → field (stored g n x) j ≡ field g j
unfolding field stored
kept_field g x =
    let Q : ℕ → ℕ → Type 0 = λ n j. j < n → (6 ≤ n → Place g (action_of n)) → field (stored g n x) j ≡ field g j in
    by_line (λ n. (j : ℕ) → 1 ≤ j → Q n j)
    (λ j h l p. absurd (omega arith))
    (by_line (Q 2) (λ _ _. refl) (λ l p. absurd (omega arith)) (λ l p. absurd (omega arith)) (λ l p. absurd (omega arith))
    (λ l p. absurd (omega arith)) (λ j h l p. absurd (omega arith)))
    (by_line (Q 3) (λ _ _. refl) (λ _ _. refl) (λ l p. absurd (omega arith)) (λ l p. absurd (omega arith))
    (λ l p. absurd (omega arith)) (λ j h l p. absurd (omega arith)))
    (by_line (Q 4) (λ _ _. refl) (λ _ _. refl) (λ _ _. refl) (λ l p. absurd (omega arith)) (λ l p. absurd (omega arith)) (λ j h l p. absurd (omega arith)))
    (by_line (Q 5) (λ _ _. refl) (λ _ _. refl) (λ _ _. refl) (λ _ _. refl) (λ l p. absurd (omega arith)) (λ j h l p. absurd (omega arith)))
    (λ n h. let k = head_kept g (action_of n) (n % 4) x in let s = stored_rest n (other n h) g x in
    by_line (Q n) (λ _ _. rw (← s) k.facts) (λ _ _. rw (← s) k.initial) (λ _ _. rw (← s) k.goal) (λ _ _. rw (← s) k.leader) (λ _ _. rw (← s) k.follower)
    (λ j m l p. rw (← field_rest j (other j m) (stored g n x), ← field_rest j (other j m) g, ← s)
    (other_action g (action_of n) (n % 4) x (action_of j) (j % 4) (p h) (omega arith) (omega arith) (λ a b. omega (arith, a, b)))))
