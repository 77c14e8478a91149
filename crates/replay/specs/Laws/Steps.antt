-- Plans step by step: how many steps pass a test, the state they lead to, and that a plan whose steps all pass runs.
use Rattle.std.specs.Prelude.{◌≡◌, get_or, take, drop}
use Rattle.std.proofs.Math.Path.{refl, ap}
use Rattle.std.proofs.Common.{◌∙◌, add-one, drop-cons, take-suc}
use mathlib.Core.List.{List, [], ◌∷◌, ◌++◌}
use Prim.Native.Nat.{ℕ, zero, suc, ◌+◌, ◌≤◌, ◌<◌}
use native.Mathlib.Omega.{arith}
use Rattle.std.proofs.Math.ListN.{length}
use Rattle.std.proofs.Math.Seq.{drop-length}
use Rattle.strips.specs.State.{Applies, dec_applies, after}
use Rattle.strips.specs.Plan.{Known, dec_known, action, cost, Runs, done, next}
use Rattle.strips.specs.Laws.Decision.{asked_yes, asked_no}
use Rattle.strips.specs.Laws.Order.{cost_snoc}
use Rattle.strips.specs.declared.Action.{Action}
use Rattle.replay.specs.Replay.{passing, known_steps, applied_steps, end_state}

module _ {P : ℕ → ℕ → Type 0} (test : (s k : ℕ) → Dec (P s k)) (step : ℕ → ℕ → ℕ) where
  first_passes : (s k : ℕ) (p : List ℕ) → P s k → passing test step s (k ∷ p) ≡ suc (passing test step (step s k) p)
  unfolding passing
  first_passes s k p h = asked_yes (test s k) h 0 _

  first_fails : (s k : ℕ) (p : List ℕ) → (P s k → ⊥) → passing test step s (k ∷ p) ≡ 0
  unfolding passing
  first_fails s k p h = asked_no (test s k) h 0 _

  pub passing_most : (s : ℕ) (p : List ℕ) → passing test step s p ≤ length p
  unfolding passing
  passing_most s [] = omega arith
  passing_most s (k ∷ p) = of (test s k) (passing_most (step s k) p)
    where
      of : Dec (P s k) → passing test step (step s k) p ≤ length p → passing test step s (k ∷ p) ≤ suc (length p)
      of (yes h) l = omega (arith, first_passes s k p h)
      of (no h) l = omega (arith, first_fails s k p h)

  -- where all steps pass, the first does and so do all the others
  pub all_pass : (s k : ℕ) (p : List ℕ) → passing test step s (k ∷ p) ≡ suc (length p) → P s k × (passing test step (step s k) p ≡ length p)
  all_pass s k p e = of (test s k)
    where
      of : Dec (P s k) → P s k × (passing test step (step s k) p ≡ length p)
      of (yes h) = (h, omega (arith, first_passes s k p h))
      of (no h) = absurd (omega (arith, first_fails s k p h))

  -- a loop over the steps of p that has come to step i in the state s
  module _ (s : ℕ) (p : List ℕ) (i : ℕ) where
    pub pass_more : i < length p → P s (get_or p i 0) → passing test step s (drop i p) ≡ suc (passing test step (step s (get_or p i 0)) (drop (i + 1) p))
    pass_more h d = rw (drop-cons p i 0 h, add-one i) (first_passes s (get_or p i 0) (drop (suc i) p) d)

    pub pass_no_more : i < length p → (P s (get_or p i 0) → ⊥) → passing test step s (drop i p) ≡ 0
    pass_no_more h d = rw (drop-cons p i 0 h) (first_fails s (get_or p i 0) (drop (suc i) p) d)

  pub pass_end : (s : ℕ) (p : List ℕ) → passing test step s (drop (length p) p) ≡ 0
  unfolding passing
  pass_end s p = ap (passing test step s) (drop-length p)

-- known steps
module _ (n : ℕ) where
  abbrev is_known : (s k : ℕ) → Dec (Known n k)
  is_known s k = dec_known n k

  abbrev stay : ℕ → ℕ → ℕ
  stay s k = s

  pub known_most : (p : List ℕ) → known_steps n p ≤ length p
  known_most p = passing_most is_known stay 0 p

  -- where all steps are known, each is
  pub known_each : (p : List ℕ) → known_steps n p ≡ length p → (i : ℕ) → i < length p → Known n (get_or p i 0)
  known_each [] e i h = absurd (omega arith)
  known_each (k ∷ p) e zero h = (all_pass is_known stay 0 k p e).0
  known_each (k ∷ p) e (suc i) h = known_each p (all_pass is_known stay 0 k p e).1 i (omega arith)

  pub known_more : (p : List ℕ) (i : ℕ) → i < length p → Known n (get_or p i 0) → known_steps n (drop i p) ≡ suc (known_steps n (drop (i + 1) p))
  known_more = pass_more is_known stay 0

  pub known_no_more : (p : List ℕ) (i : ℕ) → i < length p → (Known n (get_or p i 0) → ⊥) → known_steps n (drop i p) ≡ 0
  known_no_more = pass_no_more is_known stay 0

  pub known_end : (p : List ℕ) → known_steps n (drop (length p) p) ≡ 0
  known_end = pass_end is_known stay 0

-- steps that apply
module _ (acts : List Action) where
  abbrev is_applied : (s k : ℕ) → Dec (Applies (action acts k) s)
  is_applied s k = dec_applies (action acts k) s

  abbrev go : ℕ → ℕ → ℕ
  go s k = after (action acts k) s

  pub applied_most : (s : ℕ) (p : List ℕ) → applied_steps acts s p ≤ length p
  applied_most = passing_most is_applied go

  pub applied_more : (s : ℕ) (p : List ℕ) (i : ℕ) → i < length p → Applies (action acts (get_or p i 0)) s
      → applied_steps acts s (drop i p) ≡ suc (applied_steps acts (after (action acts (get_or p i 0)) s) (drop (i + 1) p))
  applied_more = pass_more is_applied go

  pub applied_no_more : (s : ℕ) (p : List ℕ) (i : ℕ) → i < length p → (Applies (action acts (get_or p i 0)) s → ⊥) → applied_steps acts s (drop i p) ≡ 0
  applied_no_more = pass_no_more is_applied go

  pub applied_end : (s : ℕ) (p : List ℕ) → applied_steps acts s (drop (length p) p) ≡ 0
  applied_end = pass_end is_applied go

  pub end_snoc : (s : ℕ) (p : List ℕ) (k : ℕ) → end_state acts s (p ++ (k ∷ [])) ≡ after (action acts k) (end_state acts s p)
  unfolding end_state
  end_snoc s [] k = refl
  end_snoc s (j ∷ p) k = end_snoc (after (action acts j) s) p k

  module _ (s : ℕ) (p : List ℕ) (i : ℕ) (h : i < length p) where
    taken : take (i + 1) p ≡ take i p ++ (get_or p i 0 ∷ [])
    taken = rw (add-one i) (take-suc p i 0 h)

    pub end_more : end_state acts s (take (i + 1) p) ≡ after (action acts (get_or p i 0)) (end_state acts s (take i p))
    end_more = rw taken (end_snoc s (take i p) (get_or p i 0))

    pub cost_more : cost acts (take (i + 1) p) ≡ cost acts (take i p) + (action acts (get_or p i 0)).cost
    cost_more = rw taken (cost_snoc acts (take i p) (get_or p i 0))

  -- a plan whose steps are all known and all apply runs, and a plan that runs is such a plan
  pub passes_runs : (s : ℕ) (p : List ℕ) → known_steps (length acts) p ≡ length p → applied_steps acts s p ≡ length p → Runs acts s p (end_state acts s p)
  unfolding end_state
  passes_runs s [] e f = done
  passes_runs s (k ∷ p) e f =
      let known = all_pass (is_known (length acts)) (stay (length acts)) 0 k p e in
      let applied = all_pass is_applied go s k p f in
      next (record { known = known.0; applies = applied.0 }) (passes_runs (after (action acts k) s) p known.1 applied.1)

  pub runs_known : {s t : ℕ} {p : List ℕ} → Runs acts s p t → known_steps (length acts) p ≡ length p
  unfolding passing
  runs_known done = refl
  runs_known (next {k = k} {p = p} l r) = first_passes (is_known (length acts)) (stay (length acts)) 0 k p l.known ∙ ap suc (runs_known r)

  pub runs_applied : {s t : ℕ} {p : List ℕ} → Runs acts s p t → applied_steps acts s p ≡ length p
  unfolding passing
  runs_applied done = refl
  runs_applied (next {s = s} {k = k} {p = p} l r) =
      first_passes is_applied go s k p l.applies ∙ ap suc (runs_applied r)

  pub runs_end : {s t : ℕ} {p : List ℕ} → Runs acts s p t → end_state acts s p ≡ t
  unfolding end_state
  runs_end done = refl
  runs_end (next l r) = runs_end r
