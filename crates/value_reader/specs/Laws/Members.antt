-- A member more of a list.
use Rattle.std.specs.Prelude.{◌≡◌, refl, List, [], ◌∷◌, ◌++◌, ℕ, ◌+◌, ◌-◌, ◌*◌, ◌^◌, ◌%◌, ◌≤◌, ◌<◌}
use Rattle.std.proofs.Common.{rules, sym, ap, ◌∙◌, arith, pow_mono}
use Rattle.std.proofs.lemmas.Grind.{common_steps}
use Rattle.strips.specs.Limits.{max_facts}
use Rattle.outcome.specs.declared.Refusal.{Refusal}
use Rattle.outcome.specs.declared.Refusal.TheVariants.{OutOfRange, NotRising}
use Rattle.task_format.specs.Value.{All, Between, RisesFrom, set_of}
use Rattle.task_format.specs.Laws.Value.{doubled}
use Rattle.value_reader.specs.Members.{last_from, Good, Bad, outside, flat}
use Rattle.value_reader.specs.declared.values.Members.{Members}

pub all_push : {A : Type 0} (P : A → Type 0) (l : List A) (x : A) → All P l → P x → All P (l ++ (x ∷ []))
all_push P l x a p = grind (arith, common_steps)

pub all_last : {A : Type 0} (P : A → Type 0) (l : List A) (x : A) → All P (l ++ (x ∷ [])) → All P l × P x
all_last P [] x a = (tt, a.0)
all_last P (y ∷ l) x a = let r = all_last P l x a.1 in ((a.0, r.0), r.1)

rise_push : (m : ℕ) (ms : List ℕ) (k : ℕ) → RisesFrom m ms → last_from m ms < k → RisesFrom m (ms ++ (k ∷ []))
rise_push m [] k r h = (h, tt)
rise_push m (j ∷ ms) k r h = (r.0, rise_push j ms k r.1 h)

rise_last : (m : ℕ) (ms : List ℕ) (k : ℕ) → RisesFrom m (ms ++ (k ∷ [])) → RisesFrom m ms × (last_from m ms < k)
rise_last m [] k r = (tt, r.0)
rise_last m (j ∷ ms) k r = let q = rise_last j ms k r.1 in ((r.0, q.0), q.1)

last_push : (m : ℕ) (ms : List ℕ) (k : ℕ) → last_from m (ms ++ (k ∷ [])) ≡ k
last_push m [] k = refl
last_push m (j ∷ ms) k = last_push j ms k

set_push : (ms : List ℕ) (k : ℕ) → set_of (ms ++ (k ∷ [])) ≡ set_of ms + 2 ^ (k - 1)
unfolding set_of
set_push [] k = omega arith
set_push (j ∷ ms) k = omega (arith, set_push ms k)

-- ---- the set with a fact more

shifted : (k : ℕ) → k ≤ max_facts → 1 ≤ k → (1 * 2 ^ (k - 1)) % 2 ^ 64 ≡ 2 ^ (k - 1)
shifted k h l = search (rules, arith)

grown : (set last k : ℕ) → set < 2 ^ last → last < k → set + 2 ^ (k - 1) < 2 ^ k
grown set last k h l =
    let a : 2 ^ last ≤ 2 ^ (k - 1) = pow_mono {i = last} {j = k - 1} (omega arith) in
    omega (arith, doubled k (omega arith))

-- ---- the cases of a member more

module _ (most n k : ℕ) where
  pub join_outside : (ms : List ℕ) → (Between 1 most k → ⊥) → Bad most n (ms ++ (k ∷ [])) (OutOfRange n)
  join_outside ms f = outside (λ a. f (all_last (Between 1 most) ms k a).1)

  module _ (b : Between 1 most k) where
    pub join_bad : (ms : List ℕ) (q : Refusal) → Bad most n ms q → Bad most n (ms ++ (k ∷ [])) q
    join_bad ms q (outside f) = outside (λ a. f (all_last (Between 1 most) ms k a).0)
    join_bad ms q (flat a f) = flat (all_push (Between 1 most) ms k a b) (λ r. f (rise_last 0 ms k r).0)

    pub join_flat : (ms : List ℕ) (m : Members) → Good most ms m → k ≤ m.last → Bad most n (ms ++ (k ∷ [])) (NotRising n)
    join_flat ms m g h = flat (all_push (Between 1 most) ms k g.range b) (λ r. let l = (rise_last 0 ms k r).1 in omega (arith, l, g.last))

    pub join_good : (ms : List ℕ) (m : Members) → Good most ms m → m.last < k → most ≤ max_facts
        → Good most (ms ++ (k ∷ [])) (record { last = k; set = m.set + (1 * 2 ^ (k - 1)) % 2 ^ 64 })
    join_good ms m g h l =
        let s : (1 * 2 ^ (k - 1)) % 2 ^ 64 ≡ 2 ^ (k - 1) = shifted k (omega (arith, b.1)) b.0 in
        record {
          range = all_push (Between 1 most) ms k g.range b;
          rise = rise_push 0 ms k g.rise (omega (arith, g.last));
          last = sym (last_push 0 ms k);
          set = ap (λ (x : ℕ). m.set + x) s ∙ ap (λ (x : ℕ). x + 2 ^ (k - 1)) g.set ∙ sym (set_push ms k);
          small = rw s (grown m.set m.last k g.small h);
        }
