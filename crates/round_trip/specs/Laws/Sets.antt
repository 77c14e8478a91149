-- A set of facts as the rising list of its facts, and back.
use Rattle.std.specs.Prelude.{◌≡◌, refl, List, [], ◌∷◌, ℕ, zero, suc, ◌+◌, ◌-◌, ◌*◌, ◌/◌, ◌%◌, ◌^◌, ◌≤◌, ◌<◌, eqb}
use Rattle.std.proofs.Common.{sym, ap, ◌∙◌, subst, arith, pow-suc, mul-add, add-mul, one-mul, mul-one, pow_mono, eq-eqb, ne_eqb, eqb-true}
use Rattle.std.proofs.lemmas.Bool.{eqb-false}
use Rattle.task_format.specs.Value.{All, Between, RisesFrom, Rises, set_of}
use Rattle.task_format.specs.Render.{facts_of}
use Rattle.strips.specs.Laws.Choice.{by_test, either}
use Rattle.task_format.specs.Laws.Value.{doubled}

-- the facts rise from above lo and are at most `most`
abbrev pub Above : ℕ → ℕ → List ℕ → Type 0
Above most lo [] = Unit {0}
Above most lo (m ∷ ms) = (lo < m) × (m ≤ most) × Above most m ms

above_from : (most m : ℕ) (ms : List ℕ) → All (Between 1 most) ms → RisesFrom m ms → Above most m ms
above_from most m [] a r = tt
above_from most m (k ∷ ms) a r = (r.0, a.0.1, above_from most k ms a.1 r.1)

pub above : (most : ℕ) (ms : List ℕ) → All (Between 1 most) ms → Rises ms → Above most 0 ms
above most [] a r = tt
above most (m ∷ ms) a r = (omega (arith, a.0.0), a.0.1, above_from most m ms a.1 r)

pub in_range : (most lo : ℕ) (ms : List ℕ) → Above most lo ms → All (Between 1 most) ms
in_range most lo [] a = tt
in_range most lo (m ∷ ms) a = ((omega (arith, a.0), a.1), in_range most m ms a.2)

rise_from : (most lo : ℕ) (ms : List ℕ) → Above most lo ms → RisesFrom lo ms
rise_from most lo [] a = tt
rise_from most lo (m ∷ ms) a = (a.0, rise_from most m ms a.2)

pub rise : (most : ℕ) (ms : List ℕ) → Above most 0 ms → Rises ms
rise most [] a = tt
rise most (m ∷ ms) a = rise_from most m ms a.2

lower : (most hi lo : ℕ) (ms : List ℕ) → lo ≤ hi → Above most hi ms → Above most lo ms
lower most hi lo [] h a = tt
lower most hi lo (m ∷ ms) h a = (omega (arith, a.0), a.1, a.2)

-- ---- the facts of a set rise, and their set is the set

facts_above : (most k i s : ℕ) → 1 ≤ i → i + k ≤ most + 1 → Above most (i - 1) (facts_of k i s)
unfolding facts_of
facts_above most zero i s l h = tt
facts_above most (suc k) i s l h =
    let r = facts_above most k (i + 1) (s / 2) (omega arith) (omega arith) in
    let q : Above most i (facts_of k (i + 1) (s / 2)) = lower most (i + 1 - 1) i (facts_of k (i + 1) (s / 2)) (omega arith) r in
    by_test (Above most (i - 1)) (eqb (s % 2) 1) _ _
    (λ _. (omega arith, omega arith, q))
    (λ _. lower most i (i - 1) (facts_of k (i + 1) (s / 2)) (omega arith) q)

pub facts_rise : (most s : ℕ) → Above most 0 (facts_of most 1 s)
facts_rise most s = facts_above most most 1 s (omega arith) (omega arith)

half : (s q w b : ℕ) → s ≡ q + q + b → s * w ≡ q * (w + w) + b * w
half s q w b e = rw (e, add-mul (q + q) b w, add-mul q q w, mul-add q w w) refl

facts_weigh : (k i s : ℕ) → 1 ≤ i → s < 2 ^ k → set_of (facts_of k i s) ≡ s * 2 ^ (i - 1)
unfolding facts_of set_of
facts_weigh zero i s l h = let z : s ≡ 0 = omega arith in rw z (omega arith)
facts_weigh (suc k) i s l h =
    let p : 2 ^ suc k ≡ 2 ^ k * 2 = pow-suc 2 k in
    let w = 2 ^ (i - 1) in
    let v : 2 ^ (i + 1 - 1) ≡ w + w = ap (λ (x : ℕ). 2 ^ x) (omega arith) ∙ doubled i l in
    let r : set_of (facts_of k (i + 1) (s / 2)) ≡ s / 2 * (w + w) = facts_weigh k (i + 1) (s / 2) (omega arith) (omega arith) ∙ ap (λ (x : ℕ). s / 2 * x) v in
    by_test (λ (ms : List ℕ). set_of ms ≡ s * w) (eqb (s % 2) 1) _ _
    (λ q. let e = eqb-true (s % 2) 1 q in omega (arith, r, half s (s / 2) w 1 (omega arith), one-mul w))
    (λ q. let e : s % 2 ≡ 0 = omega (arith, eqb-false (s % 2) 1 q) in omega (arith, r, half s (s / 2) w 0 (omega arith)))

pub facts_set : (most s : ℕ) → s < 2 ^ most → set_of (facts_of most 1 s) ≡ s
facts_set most s h = facts_weigh most 1 s (omega arith) h ∙ mul-one s

-- ---- the set of a rising list has its facts

-- the set in which fact i is the lowest bit
unfoldable set_from : ℕ → List ℕ → ℕ
set_from i [] = 0
set_from i (m ∷ ms) = 2 ^ (m - i) + set_from i ms

set_from_lem : (ms : List ℕ) → set_of ms ≡ set_from 1 ms
unfolding set_from set_of
set_from_lem [] = refl
set_from_lem (m ∷ ms) = ap (λ (x : ℕ). 2 ^ (m - 1) + x) (set_from_lem ms)

from_next : (most i : ℕ) (ms : List ℕ) → Above most i ms → set_from i ms ≡ set_from (i + 1) ms + set_from (i + 1) ms
unfolding set_from
from_next most i [] r = refl
from_next most i (m ∷ ms) r =
    let e : m - i ≡ suc (m - (i + 1)) = omega (arith, r.0) in
    let p : 2 ^ (m - i) ≡ 2 ^ (m - (i + 1)) * 2 = ap (λ (x : ℕ). 2 ^ x) e ∙ pow-suc 2 (m - (i + 1)) in
    omega (arith, p, from_next most i ms (lower most m i ms (omega (arith, r.0)) r.2))

none : (k i : ℕ) → facts_of k i 0 ≡ []
unfolding facts_of
none zero i = refl
none (suc k) i = none k (i + 1)

odd : (k i s x : ℕ) → s ≡ x + x + 1 → facts_of (suc k) i s ≡ i ∷ facts_of k (i + 1) x
unfolding facts_of
odd k i s x e = let h : s / 2 ≡ x = omega arith in rw (eq-eqb (s % 2) 1 (omega arith), h)

even : (k i s x : ℕ) → s ≡ x + x → facts_of (suc k) i s ≡ facts_of k (i + 1) x
unfolding facts_of
even k i s x e = let h : s / 2 ≡ x = omega arith in rw (ne_eqb (s % 2) 1 (λ q. absurd (omega arith)), h)

facts_from : (k i : ℕ) (ms : List ℕ) → 1 ≤ i → Above (i + k - 1) (i - 1) ms → facts_of k i (set_from i ms) ≡ ms
unfolding set_from
facts_from k i [] l r = none k i
facts_from zero i (m ∷ ms) l r = absurd (omega (arith, r.0, r.1))
facts_from (suc k) i (m ∷ ms) l r =
    let b : i + suc k - 1 ≡ i + 1 + k - 1 = omega arith in
    either (eqb m i)
    (λ q.
    let e : m ≡ i = eqb-true m i q in
    let d : i ≡ i + 1 - 1 = omega arith in
    let y : m - i ≡ 0 = omega arith in
    let w : 2 ^ (m - i) ≡ 1 = ap (λ (x : ℕ). 2 ^ x) y in
    let n = from_next (i + suc k - 1) i ms (rw e at r.2) in
    let above = subst (λ (x : ℕ). Above (i + 1 + k - 1) x ms) (e ∙ d) (subst (λ (x : ℕ). Above x m ms) b r.2) in
    odd k i _ (set_from (i + 1) ms) (omega (arith, w, n)) ∙ rw (facts_from k (i + 1) ms (omega arith) above) (ap (λ (x : ℕ). x ∷ ms) (sym e)))
    (λ q.
    let h : i < m = omega (arith, eqb-false m i q, r.0) in
    even k i _ (set_from (i + 1) (m ∷ ms)) (from_next (i + suc k - 1) i (m ∷ ms) (h, r.1, r.2))
    ∙ facts_from k (i + 1) (m ∷ ms) (omega arith) (omega (arith, h), omega (arith, r.1), subst (λ (x : ℕ). Above x m ms) b r.2))

pub set_facts : (most : ℕ) (ms : List ℕ) → Above most 0 ms → facts_of most 1 (set_of ms) ≡ ms
set_facts most ms r =
    let e : most ≡ 1 + most - 1 = omega arith in
    rw (set_from_lem ms) (facts_from most 1 ms (omega arith) (rw e at r))

set_room : (most lo : ℕ) (ms : List ℕ) → lo ≤ most → Above most lo ms → set_of ms + 2 ^ lo ≤ 2 ^ most
unfolding set_of
set_room most lo [] h r = let p : 2 ^ lo ≤ 2 ^ most = pow_mono {i = lo} {j = most} h in omega (arith, p)
set_room most lo (m ∷ ms) h r =
    let p : 2 ^ lo ≤ 2 ^ (m - 1) = pow_mono {i = lo} {j = m - 1} (omega (arith, r.0)) in
    let q = doubled m (omega (arith, r.0)) in
    let s = set_room most m ms r.1 r.2 in
    omega (arith, p, q, s)

pub set_small : (most : ℕ) (ms : List ℕ) → Above most 0 ms → set_of ms < 2 ^ most
set_small most ms r = let h = set_room most 0 ms (omega arith) r in omega (arith, h)
