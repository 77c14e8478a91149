-- The record that is built line by line.
use Rattle.std.specs.Prelude.{◌≡◌, refl, List, ℕ, zero, suc, ◌+◌, ◌-◌, ◌*◌, ◌%◌, ◌^◌, ◌≤◌, ◌<◌, ltb, eqb, length, get_or, replicate}
use Rattle.std.proofs.Common.{sym, ap, ◌∙◌, arith, ext_get_or}
use Rattle.std.proofs.Math.Path.{subst}
use Rattle.std.proofs.Math.ListN.{length-set}
use Rattle.std.proofs.lemmas.List.{length-replicate}
use Rattle.std.proofs.Math.Seq.{get_or-set_other}
use borrow.Author.Tests.{lt-ltb, le-ltb, ltb-true, ltb-false, eqb-true, eqb-false}
use Rattle.strips.specs.Limits.{max_leader, max_follower, max_cost}
use Rattle.strips.specs.Task.{idle, Proper, Valid}
use Rattle.strips.specs.declared.Action.{Action}
use Rattle.strips.specs.declared.Task.{Task}
use Rattle.strips.specs.Choice.{pick}
use Rattle.task_format.specs.Value.{OfKind}
use Rattle.task_format.specs.Lines.{kind_of, last_line, part_of, action_of, action_field, with_action, field, stored}
use Rattle.task_format.specs.Parse.{zeros}
use Rattle.strips.specs.Laws.Choice.{by_test, either}
use Rattle.task_format.specs.Laws.Fields.{by_line}
use Rattle.task_format.specs.Laws.Lines.{other, field_rest, kind_rest, stored_rest}
use Rattle.task_format.specs.declared.Kind.{Kind}
use Rattle.task_format.specs.declared.Kind.TheVariants.{Number, FactList}
use Rattle.round_trip.specs.Laws.Fields.{action_same, Place, head_kept, found_field, kept_field}

-- before line n is read, the places of actions whose lines are not yet reached, and those beyond the counts, are unused
pub record Tame (n : ℕ) (g : Task) : Type 0 where
  pub leader : length g.leader ≡ max_leader
  pub follower : length g.follower ≡ max_follower
  pub leader_idle : (i : ℕ) → (6 < n → g.leader_count ≤ i) → get_or g.leader i idle ≡ idle
  pub follower_idle : (i : ℕ) → (6 < n → g.follower_count ≤ i) → get_or g.follower i idle ≡ idle

-- and the fields of the lines before it are in their ranges
pub record Built (n : ℕ) (g : Task) : Type 0 where
  pub tame : Tame n g
  pub holds : (j : ℕ) → 1 ≤ j → j < n → OfKind (kind_of g.facts j) (field g j)

-- ---- the start

all_idle : (n i : ℕ) → get_or (replicate n idle) i idle ≡ idle
all_idle zero i = refl
all_idle (suc n) zero = refl
all_idle (suc n) (suc i) = all_idle n i

pub built_zeros : Built 1 zeros
unfolding zeros
built_zeros =
    record {
      tame = record {
        leader = length-replicate max_leader idle;
        follower = length-replicate max_follower idle;
        leader_idle = λ i _. all_idle max_leader i;
        follower_idle = λ i _. all_idle max_follower i;
      };
      holds = λ j a b. absurd (omega arith);
    }

-- ---- a line more

module _ (g : Task) (n : ℕ) (l : n ≤ last_line g) (b : Built n g) where
  pub place : 6 ≤ n → Place g (action_of n)
  unfolding kind_of field
  place h =
      let p = b.holds 4 (omega arith) (omega arith) in
      let q = b.holds 5 (omega arith) (omega arith) in
      record { leader = b.tame.leader; follower = b.tame.follower; few = p.1; below = omega (arith, q.1) }

  tame_action : (x : ℕ) → 6 ≤ n → Tame (n + 1) (with_action g (action_of n) (n % 4) x)
  unfolding with_action
  tame_action x h =
      let t = b.tame in
      by_test (Tame (n + 1)) (ltb (action_of n) g.leader_count) _ _
      (λ q.
      let u = ltb-true (action_of n) g.leader_count q in
      record {
        leader = length-set g.leader (action_of n) _ ∙ t.leader;
        follower = t.follower;
        leader_idle = λ i c. let m = c (omega arith) in
            get_or-set_other g.leader (action_of n) i _ idle (λ z. absurd (omega (arith, z, u, m))) ∙ t.leader_idle i (λ _. m);
        follower_idle = λ i c. t.follower_idle i (λ _. c (omega arith));
      })
      (λ q.
      let u = ltb-false (action_of n) g.leader_count q in
      record {
        leader = t.leader;
        follower = length-set g.follower (action_of n - g.leader_count) _ ∙ t.follower;
        leader_idle = λ i c. t.leader_idle i (λ _. c (omega arith));
        follower_idle = λ i c. let m = c (omega arith) in
            get_or-set_other g.follower (action_of n - g.leader_count) i _ idle (λ z. absurd (omega (arith, z, u, m))) ∙ t.follower_idle i (λ _. m);
      })

-- the arrays of a record before line 6
early : (n : ℕ) (g h : Task) → n ≤ 5 → h.leader ≡ g.leader → h.follower ≡ g.follower → Tame n g → Tame (n + 1) h
early n g h u a b t =
    record {
      leader = ap length a ∙ t.leader;
      follower = ap length b ∙ t.follower;
      leader_idle = λ i _. ap (λ (l : List Action). get_or l i idle) a ∙ t.leader_idle i (λ z. absurd (omega arith));
      follower_idle = λ i _. ap (λ (l : List Action). get_or l i idle) b ∙ t.follower_idle i (λ z. absurd (omega arith));
    }

tame_stored : (g : Task) (x n : ℕ) → 1 ≤ n → n ≤ last_line g → Built n g → Tame (n + 1) (stored g n x)
unfolding stored
tame_stored g x =
    by_line (λ n. n ≤ last_line g → Built n g → Tame (n + 1) (stored g n x))
    (λ _ b. early 1 g _ (omega arith) refl refl b.tame) (λ _ b. early 2 g _ (omega arith) refl refl b.tame) (λ _ b. early 3 g _ (omega arith) refl refl b.tame)
    (λ _ b. early 4 g _ (omega arith) refl refl b.tame) (λ _ b. early 5 g _ (omega arith) refl refl b.tame)
    (λ n h l b. rw (← stored_rest n (other n h) g x) (tame_action g n l b x h))

-- the kind of line 1 does not depend on the facts
pub kind_same : (f e : ℕ) (n : ℕ) → 1 ≤ n → (2 ≤ n → f ≡ e) → kind_of f n ≡ kind_of e n
unfolding kind_of
kind_same f e zero h s = absurd (omega arith)
kind_same f e (suc zero) h s = refl
kind_same f e (suc (suc n)) h s = rw (s (omega arith)) refl

module _ (g : Task) (n x : ℕ) (o : 1 ≤ n) (l : n ≤ last_line g) (b : Built n g) (h : OfKind (kind_of g.facts n) x) where
  pub facts_kept : 2 ≤ n → (stored g n x).facts ≡ g.facts
  unfolding field
  facts_kept m = kept_field g x n o 1 (omega arith) (omega arith) (place g n l b)

  holds_stored : (j : ℕ) → 1 ≤ j → j < n + 1 → OfKind (kind_of (stored g n x).facts j) (field (stored g n x) j)
  holds_stored j a c =
      let k = kind_same (stored g n x).facts g.facts j a (λ m. facts_kept (omega arith)) in
      subst (λ (q : Kind). OfKind q (field (stored g n x) j)) (sym k)
      (either (eqb j n)
      (λ e. let d = eqb-true j n e in
      subst (λ (i : ℕ). OfKind (kind_of g.facts i) (field (stored g n x) i)) (sym d)
      (subst (OfKind (kind_of g.facts n)) (sym (found_field g x n o (place g n l b))) h))
      (λ e. let d : j < n = omega (arith, eqb-false j n e) in
      subst (OfKind (kind_of g.facts j)) (sym (kept_field g x n o j a d (place g n l b))) (b.holds j a d)))

  pub built_stored : Built (n + 1) (stored g n x)
  built_stored = record { tame = tame_stored g x n o l b; holds = holds_stored }

-- the number of lines that are due stays, once the counts are known
pub due_stored : (g : Task) (x n : ℕ) → 1 ≤ n → n ≤ last_line g → n ≤ last_line (stored g n x)
unfolding stored
due_stored g x =
    by_line (λ n. n ≤ last_line g → n ≤ last_line (stored g n x)) (λ _. omega arith) (λ _. omega arith) (λ _. omega arith) (λ _. omega arith) (λ _. omega arith)
    (λ n h l. rw (← stored_rest n (other n h) g x) (let k = head_kept g (action_of n) (n % 4) x in omega (arith, k.leader, k.follower)))

-- ---- the end: the fields of all lines

-- the line of an action's part
abbrev line_of : ℕ → ℕ → ℕ
line_of i r = 6 + 4 * i + (r + 2) % 4

field_at : (g : Task) (i r : ℕ) → r < 4 → field g (line_of i r) ≡ action_field g i r
field_at g i r h =
    let a : action_of (line_of i r) ≡ i = omega arith in
    let b : line_of i r % 4 ≡ r = omega arith in
    sym (field_rest (line_of i r) (other (line_of i r) (omega arith)) g) ∙ ap (λ (k : ℕ). action_field g k (line_of i r % 4)) a ∙ ap (action_field g i) b

leader_at : (g : Task) (i r : ℕ) → r < 4 → i < g.leader_count → field g (line_of i r) ≡ part_of (get_or g.leader i idle) r
unfolding action_field
leader_at g i r h l = field_at g i r h ∙ rw (lt-ltb i g.leader_count l) refl

follower_at : (g : Task) (i r : ℕ) → r < 4 → field g (line_of (g.leader_count + i) r) ≡ part_of (get_or g.follower i idle) r
unfolding action_field
follower_at g i r h =
    let e : g.leader_count + i - g.leader_count ≡ i = omega arith in
    field_at g (g.leader_count + i) r h ∙ rw (le-ltb (g.leader_count + i) g.leader_count (omega arith), e) refl

module _ (t : Task) (b : Built (last_line t + 1) t) where
  part_holds : (i r : ℕ) → r < 4 → i < t.leader_count + t.follower_count
      → OfKind (pick (eqb r 2) (Number 0 max_cost) (FactList t.facts)) (field t (line_of i r))
  part_holds i r h l =
      let e : line_of i r % 4 ≡ r = omega arith in
      subst (λ (k : Kind). OfKind k (field t (line_of i r)))
      (kind_rest (line_of i r) (other (line_of i r) (omega arith)) t.facts ∙ ap (λ (m : ℕ). pick (eqb m 2) (Number 0 max_cost) (FactList t.facts)) e)
      (b.holds (line_of i r) (omega arith) (omega arith))

  proper : (i : ℕ) (a : Action) → i < t.leader_count + t.follower_count → ((r : ℕ) → r < 4 → field t (line_of i r) ≡ part_of a r) → Proper t.facts a
  unfolding part_of
  proper i a l e =
      record {
        cost = subst (λ (x : ℕ). x ≤ max_cost) (e 2 (omega arith)) (part_holds i 2 (omega arith) l).1;
        precondition = subst (λ (x : ℕ). x < 2 ^ t.facts) (e 3 (omega arith)) (part_holds i 3 (omega arith) l);
        delete = subst (λ (x : ℕ). x < 2 ^ t.facts) (e 0 (omega arith)) (part_holds i 0 (omega arith) l);
        add = subst (λ (x : ℕ). x < 2 ^ t.facts) (e 1 (omega arith)) (part_holds i 1 (omega arith) l);
      }

  pub valid : Valid t
  unfolding kind_of field
  valid =
      let h = b.holds in
      record {
        some_facts = (h 1 (omega arith) (omega arith)).0;
        few_facts = (h 1 (omega arith) (omega arith)).1;
        initial = h 2 (omega arith) (omega arith);
        goal = h 3 (omega arith) (omega arith);
        leader = record {
          long = b.tame.leader;
          room = (h 4 (omega arith) (omega arith)).1;
          used = λ i l. proper i (get_or t.leader i idle) (omega arith) (λ r q. leader_at t i r q l);
          unused = λ i l _. b.tame.leader_idle i (λ _. l);
        };
        follower = record {
          long = b.tame.follower;
          room = (h 5 (omega arith) (omega arith)).1;
          used = λ i l. proper (t.leader_count + i) (get_or t.follower i idle) (omega arith) (λ r q. follower_at t i r q);
          unused = λ i l _. b.tame.follower_idle i (λ _. l);
        };
      }

-- ---- two records with equal fields are equal

-- the fields of the lines before line n agree
abbrev pub Agree : ℕ → Task → Task → Type 0
Agree n g t = (j : ℕ) → 1 ≤ j → j < n → field g j ≡ field t j

module _ (g t : Task) (v : Valid t) (m : Tame (last_line t + 1) g) (a : Agree (last_line t + 1) g t) where
  count : g.leader_count ≡ t.leader_count
  unfolding field
  count = a 4 (omega arith) (omega arith)

  count_follower : g.follower_count ≡ t.follower_count
  unfolding field
  count_follower = a 5 (omega arith) (omega arith)

  leader_same : g.leader ≡ t.leader
  leader_same =
      ext_get_or idle g.leader t.leader (m.leader ∙ sym v.leader.long)
      (λ i l. either (ltb i t.leader_count)
      (λ q. let k = ltb-true i t.leader_count q in
      action_same _ _ (λ r h. sym (leader_at g i r h (omega (arith, count))) ∙ a (line_of i r) (omega arith) (omega arith) ∙ leader_at t i r h k))
      (λ q. let k = ltb-false i t.leader_count q in
      m.leader_idle i (λ _. omega (arith, count)) ∙ sym (v.leader.unused i k (omega (arith, m.leader)))))

  follower_same : g.follower ≡ t.follower
  follower_same =
      ext_get_or idle g.follower t.follower (m.follower ∙ sym v.follower.long)
      (λ i l. either (ltb i t.follower_count)
      (λ q. let k = ltb-true i t.follower_count q in
      action_same _ _ (λ r h.
      sym (follower_at g i r h) ∙ ap (λ (x : ℕ). field g (line_of (x + i) r)) count
      ∙ a (line_of (t.leader_count + i) r) (omega arith) (omega arith) ∙ follower_at t i r h))
      (λ q. let k = ltb-false i t.follower_count q in
      m.follower_idle i (λ _. omega (arith, count_follower)) ∙ sym (v.follower.unused i k (omega (arith, m.follower)))))

  pub task_same : g ≡ t
  unfolding field
  task_same =
      λ i. record {
        facts = a 1 (omega arith) (omega arith) i;
        initial = a 2 (omega arith) (omega arith) i;
        goal = a 3 (omega arith) (omega arith) i;
        leader_count = a 4 (omega arith) (omega arith) i;
        follower_count = a 5 (omega arith) (omega arith) i;
        leader = leader_same i;
        follower = follower_same i;
      }
