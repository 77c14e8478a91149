-- The weights of a task's actions; and another way to say that the keys are those after a search: each is the weight of a way to its row.
use Rattle.std.specs.Prelude.{◌≡◌, refl, ◌≢◌, List, ℕ, ◌+◌, ◌≤◌, length, get_or}
use Rattle.std.proofs.Common.{arith}
use Rattle.strips.specs.Limits.{max_follower, max_cost}
use Rattle.strips.specs.Plan.{Known, action}
use Rattle.strips.specs.declared.Action.{Action}
use Rattle.transitions.specs.Transitions.{weigh, Leads, Met, Tight, Keyed, Weights, Weighed}

-- the weights of few actions of bounded cost can be added up
pub weights_of : {acts : List Action} {W : List ℕ} → Weighed acts W → length acts ≤ max_follower → ((k : ℕ) → (action acts k).cost ≤ max_cost) → Weights W
weights_of {acts} {W} w few priced = grind arith

-- a way of this weight leads from the source to a row
pub data Way (W : List ℕ) (T : List (List ℕ)) (src : ℕ) : ℕ → ℕ → Type 0 where
  none : Way W T src 0 src
  then : {w i : ℕ} (k j : ℕ) → Way W T src w i → Known (length W) k → Leads T i k j → Way W T src (w + weigh W k) j

module _ (W : List ℕ) (T : List (List ℕ)) (src : ℕ) (K : List ℕ) (source : get_or K src 0 ≡ 1)
    (closed : (i k j : ℕ) → Met K i → Known (length W) k → Leads T i k j → Met K j × (get_or K j 0 ≤ get_or K i 0 + weigh W k)) where
  -- no way is lighter than its row's key
  pub key_least : {w j : ℕ} → Way W T src w j → Met K j × (get_or K j 0 ≤ w + 1)
  key_least none = (omega (arith, source), omega (arith, source))
  key_least (then {w = w} {i = i} k j x h e) =
      let a = key_least x in
      let b = closed i k j a.0 h e in
      (b.0, omega (arith, a.1))

  came : {w j : ℕ} → Way W T src w j → get_or K j 0 ≡ w + 1 → j ≢ src → (i : ℕ) × (k : ℕ) × Tight W T K i k j
  came none q ne = absurd (ne refl)
  came (then {w = w} {i = i} k j x h e) q ne =
      let a = key_least x in
      (i, k, record { known = h; leads = e; met = a.0; level = omega (arith, a.1, (closed i k j a.0 h e).1) })

  pub keyed_by_ways : ((j : ℕ) → Met K j → (w : ℕ) × Way W T src w j × (get_or K j 0 ≡ w + 1)) → Keyed W T src K
  keyed_by_ways ways = record { source = source; closed = closed; reached = λ j m ne. let y = ways j m in came y.1 y.2 ne }
