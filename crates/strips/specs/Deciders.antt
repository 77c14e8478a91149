-- Question 9 and each part of it have a yes or a no, and so has which of two plans is the smaller.
use Rattle.std.specs.Prelude.{◌≡◌, List, ◌⊎◌, ℕ, ◌^◌, length, get_or}
use Rattle.std.proofs.Math.Path.{refl}
use Rattle.std.proofs.Common.{sym, ap, ◌∙◌, inl, inr}
use Rattle.std.proofs.Math.Logic.Dec
use Rattle.std.proofs.Math.Decide.{ℕ_discrete, dec_le, dec_lt}
use Rattle.strips.specs.Limits.{max_facts, max_leader, max_follower, max_cost}
use Rattle.strips.specs.Task.{idle, Within, Proper, Places, Valid}
use Rattle.strips.specs.Plan.{Smaller}
use Rattle.strips.specs.Decision.{dec_all_below, dec_when, dec_equivalent}
use Rattle.strips.specs.Laws.Order.{smaller_total, smaller_irrefl, smaller_asym}
use Rattle.strips.specs.declared.Action.{Action}
use Rattle.strips.specs.declared.Task.{Task}

unfoldable pub dec_within : (n set : ℕ) → Dec (Within n set)
dec_within n set = dec_lt set (2 ^ n)

unfoldable pub dec_proper : (facts : ℕ) (a : Action) → Dec (Proper facts a)
dec_proper facts a =
    dec_equivalent
    (λ w. record { cost = w.0; precondition = w.1.0; delete = w.1.1.0; add = w.1.1.1 }, λ p. (p.cost, (p.precondition, (p.delete, p.add))))
    (Dec.and (dec_le a.cost max_cost) (Dec.and (dec_within facts a.precondition) (Dec.and (dec_within facts a.delete) (dec_within facts a.add))))

-- an action by its four numbers
made : ℕ → ℕ → ℕ → ℕ → Action
made c p d a = record { cost = c; precondition = p; delete = d; add = a }

pub same_action : (a b : Action) → a.cost ≡ b.cost → a.precondition ≡ b.precondition → a.delete ≡ b.delete → a.add ≡ b.add → a ≡ b
same_action a b e f g h = eta a ∙ (cc) ∙ sym (eta b)
  where
    eta : (x : Action) → x ≡ made x.cost x.precondition x.delete x.add
    eta x = unfold made in refl

unfoldable pub dec_unused : (a : Action) → Dec (a ≡ idle)
dec_unused a =
    dec_equivalent
    (λ w. same_action a idle w.0 w.1.0 w.1.1.0 w.1.1.1, λ e. (ap (λ x. x.cost) e, (ap (λ x. x.precondition) e, (ap (λ x. x.delete) e, ap (λ x. x.add) e))))
    (Dec.and (ℕ_discrete a.cost 0) (Dec.and (ℕ_discrete a.precondition 0) (Dec.and (ℕ_discrete a.delete 0) (ℕ_discrete a.add 0))))

unfoldable pub dec_places : (facts size n : ℕ) (places : List Action) → Dec (Places facts size n places)
dec_places facts size n places =
    dec_equivalent
    (λ w. record { long = w.0; room = w.1.0; used = w.1.1.0; unused = λ i l h. w.1.1.1 i h l }, λ p. (p.long, (p.room, (p.used, λ i h l. p.unused i l h))))
    (Dec.and (ℕ_discrete (length places) size) (Dec.and (dec_le n size)
    (Dec.and (dec_all_below (λ i. dec_proper facts (get_or places i idle)) n)
    (dec_all_below (λ i. dec_when (dec_le n i) (dec_unused (get_or places i idle))) size))))

unfoldable pub dec_valid : (t : Task) → Dec (Valid t)
dec_valid t =
    dec_equivalent (
      λ w. record { some_facts = w.0; few_facts = w.1.0; initial = w.1.1.0; goal = w.1.1.1.0; leader = w.1.1.1.1.0; follower = w.1.1.1.1.1 },
      λ v. (v.some_facts, (v.few_facts, (v.initial, (v.goal, (v.leader, v.follower))))),
    )
    (Dec.and (dec_le 1 t.facts) (Dec.and (dec_le t.facts max_facts)
    (Dec.and (dec_within t.facts t.initial) (Dec.and (dec_within t.facts t.goal)
    (Dec.and (dec_places t.facts max_leader t.leader_count t.leader) (dec_places t.facts max_follower t.follower_count t.follower))))))

unfoldable pub dec_smaller : (p q : List ℕ) → Dec (Smaller p q)
dec_smaller p q = of (smaller_total p q)
  where
    of : Smaller p q ⊎ (p ≡ q) ⊎ Smaller q p → Dec (Smaller p q)
    of (inl s) = yes s
    of (inr (inl e)) = no (λ s. smaller_irrefl e s)
    of (inr (inr s)) = no (λ r. smaller_asym r s)
