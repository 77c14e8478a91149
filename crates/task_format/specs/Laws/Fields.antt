-- The fields of a valid task are in the ranges of their lines.
use Rattle.std.proofs.Common.{sym}
use Rattle.std.proofs.Math.Path.{subst}
use Rattle.std.specs.Prelude.{ℕ, zero, suc, ◌+◌, ◌-◌, ◌%◌, ◌^◌, ◌≤◌, ◌<◌, eqb, ltb, get_or}
use native.Mathlib.Omega.{arith}
use borrow.Author.Tests.{ltb-true, ltb-false}
use Rattle.strips.specs.Limits.{max_facts, max_cost}
use Rattle.strips.specs.Task.{idle, Proper, Valid}
use Rattle.strips.specs.declared.Action.{Action}
use Rattle.strips.specs.declared.Task.{Task}
use Rattle.strips.specs.Choice.{pick}
use Rattle.task_format.specs.Value.{OfKind, Modest}
use Rattle.task_format.specs.Lines.{kind_of, last_line, part_of, action_of, action_field, field}
use Rattle.strips.specs.Laws.Choice.{by_test, either}
use Rattle.task_format.specs.Laws.Lines.{other, kind_rest, field_rest}
use Rattle.task_format.specs.declared.Kind.{Kind}
use Rattle.task_format.specs.declared.Kind.TheVariants.{Number, FactList}

-- a line is one of 1 to 5, or behind them
pub by_line : (P : ℕ → Type 0) → P 1 → P 2 → P 3 → P 4 → P 5 → ((n : ℕ) → 6 ≤ n → P n) → (n : ℕ) → 1 ≤ n → P n
by_line P a b c d e r zero h = absurd (omega arith)
by_line P a b c d e r (suc zero) h = a
by_line P a b c d e r (suc (suc zero)) h = b
by_line P a b c d e r (suc (suc (suc zero))) h = c
by_line P a b c d e r (suc (suc (suc (suc zero)))) h = d
by_line P a b c d e r (suc (suc (suc (suc (suc zero))))) h = e
by_line P a b c d e r (suc (suc (suc (suc (suc (suc n)))))) h = r (suc (suc (suc (suc (suc (suc n)))))) (omega arith)

proper_part : (facts : ℕ) (a : Action) → Proper facts a → (r : ℕ) → OfKind (pick (eqb r 2) (Number 0 max_cost) (FactList facts)) (part_of a r)
unfolding part_of
proper_part facts a p r =
    either (eqb r 2) (λ e. rw e (omega arith, p.cost))
    (λ e. rw e
    (by_test (λ x. x < 2 ^ facts) (eqb r 3) _ _ (λ _. p.precondition)
    (λ _. by_test (λ x. x < 2 ^ facts) (eqb r 0) _ _ (λ _. p.delete) (λ _. p.add))))

module _ (t : Task) (v : Valid t) where
  action_holds : (i r : ℕ) → i < t.leader_count + t.follower_count → OfKind (pick (eqb r 2) (Number 0 max_cost) (FactList t.facts)) (action_field t i r)
  unfolding action_field
  action_holds i r h =
      either (ltb i t.leader_count)
      (λ e. rw e (proper_part t.facts (get_or t.leader i idle) (v.leader.used i (ltb-true i t.leader_count e)) r))
      (λ e. rw e
      (let l = ltb-false i t.leader_count e in
      let j = i - t.leader_count in
      proper_part t.facts (get_or t.follower j idle) (v.follower.used j (omega arith)) r))

  pub field_holds : (n : ℕ) → 1 ≤ n → n ≤ last_line t → OfKind (kind_of t.facts n) (field t n)
  unfolding kind_of field
  field_holds =
      by_line (λ n. n ≤ last_line t → OfKind (kind_of t.facts n) (field t n))
      (λ _. (v.some_facts, v.few_facts)) (λ _. v.initial) (λ _. v.goal) (λ _. (omega arith, v.leader.room)) (λ _. (omega arith, v.follower.room))
      (λ n h l.
      let o = other n h in
      subst (λ (k : Kind). OfKind k (field t n)) (sym (kind_rest n o t.facts))
      (subst (OfKind (pick (eqb (n % 4) 2) (Number 0 max_cost) (FactList t.facts))) (field_rest n o t) (action_holds (action_of n) (n % 4) (omega arith))))

pub modest : (facts : ℕ) → facts ≤ max_facts → (n : ℕ) → Modest (kind_of facts n)
unfolding kind_of
modest facts h n =
    by_test Modest (eqb n 1) _ _ (λ _. omega arith) (λ _.
    by_test Modest (eqb n 2) _ _ (λ _. h) (λ _.
    by_test Modest (eqb n 3) _ _ (λ _. h) (λ _.
    by_test Modest (eqb n 4) _ _ (λ _. omega arith) (λ _.
    by_test Modest (eqb n 5) _ _ (λ _. omega arith) (λ _.
    by_test Modest (eqb (n % 4) 2) _ _ (λ _. omega arith) (λ _. h))))))
