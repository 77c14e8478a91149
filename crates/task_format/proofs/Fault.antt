-- What the questions about a value come to. A value without the form of a number or list gets 4, 17 or 18, each other one what it got by 5 and 6 alone:
-- so no text is accepted or refused for these three being told apart.
use Rattle.std.specs.Prelude.{◌≡◌, ◌↔◌, List, ◌⊎◌, ℕ}
use Rattle.std.proofs.Common.{◌∙◌, inl, inr, arith}
use Rattle.strips.specs.Decision.{ask}
use Rattle.strips.specs.Laws.Decision.{asked_yes, asked_no, asked_either}
use Rattle.task_format.specs.Value.{InForm, Filled, Unpadded, InRange, Ascending}
use Rattle.task_format.specs.Parse.{fault}
use Rattle.task_format.specs.Deciders.{dec_in_form, dec_filled, dec_unpadded, dec_in_range, dec_ascending}
use Rattle.task_format.proofs.Form.{WellFormed, well_formed, dec_well_formed}
use Rattle.task_format.specs.declared.Kind.{Kind}

-- a number that stands in the place of 4
abbrev pub FormFault : ℕ → Type 0
FormFault q = (q ≡ 4) ⊎ (q ≡ 17) ⊎ (q ≡ 18)

-- a value that no question refuses
pub record Fine (kind : Kind) (v : List ℕ) : Type 0 where
  pub form : WellFormed kind v
  pub range : InRange kind v
  pub rising : Ascending kind v

module _ (kind : Kind) (v : List ℕ) where
  pub fault_form : (InForm kind v → ⊥) → fault kind v ≡ 4
  unfolding fault
  fault_form n = asked_no (dec_in_form kind v) n 4 _

  pub fault_filled : InForm kind v → (Filled kind v → ⊥) → fault kind v ≡ 17
  unfolding fault
  fault_filled f n = asked_yes (dec_in_form kind v) f 4 _ ∙ asked_no (dec_filled kind v) n 17 _

  pub fault_unpadded : InForm kind v → Filled kind v → (Unpadded kind v → ⊥) → fault kind v ≡ 18
  unfolding fault
  fault_unpadded f g n = asked_yes (dec_in_form kind v) f 4 _ ∙ asked_yes (dec_filled kind v) g 17 _ ∙ asked_no (dec_unpadded kind v) n 18 _

  pub fault_formed : WellFormed kind v → fault kind v ≡ ask (dec_in_range kind v) 5 (ask (dec_ascending kind v) 6 0)
  unfolding fault
  fault_formed w =
      let a = (well_formed kind v).0 w in
      asked_yes (dec_in_form kind v) a.0 4 _ ∙ asked_yes (dec_filled kind v) a.1 17 _ ∙ asked_yes (dec_unpadded kind v) a.2 18 _

  pub fault_range : WellFormed kind v → (InRange kind v → ⊥) → fault kind v ≡ 5
  fault_range w n = fault_formed w ∙ asked_no (dec_in_range kind v) n 5 _

  pub fault_rising : WellFormed kind v → InRange kind v → (Ascending kind v → ⊥) → fault kind v ≡ 6
  fault_rising w g n = fault_formed w ∙ asked_yes (dec_in_range kind v) g 5 _ ∙ asked_no (dec_ascending kind v) n 6 0

  pub fault_none : Fine kind v → fault kind v ≡ 0
  fault_none f = fault_formed f.form ∙ asked_yes (dec_in_range kind v) f.range 5 _ ∙ asked_yes (dec_ascending kind v) f.rising 6 0

  fault_unformed : (WellFormed kind v → ⊥) → FormFault (fault kind v)
  fault_unformed u = of (dec_in_form kind v) (dec_filled kind v) (dec_unpadded kind v)
    where
      of : Dec (InForm kind v) → Dec (Filled kind v) → Dec (Unpadded kind v) → FormFault (fault kind v)
      of (no n) g h = inl (fault_form n)
      of (yes f) (no n) h = inr (inl (fault_filled f n))
      of (yes f) (yes g) (no n) = inr (inr (fault_unpadded f g n))
      of (yes f) (yes g) (yes h) = absurd (u ((well_formed kind v).1 (f, g, h)))

  pub fine : fault kind v ≡ 0 → Fine kind v
  fine e = of (dec_well_formed kind v) (dec_in_range kind v) (dec_ascending kind v)
    where
      of : Dec (WellFormed kind v) → Dec (InRange kind v) → Dec (Ascending kind v) → Fine kind v
      of (no n) g h = absurd (let s = fault_unformed n in omega (arith, s, e))
      of (yes w) (no n) h = absurd (let z = fault_range w n in omega (arith, z, e))
      of (yes w) (yes g) (no n) = absurd (let z = fault_rising w g n in omega (arith, z, e))
      of (yes w) (yes g) (yes h) = record { form = w; range = g; rising = h }

  -- the numbers of the three questions say that the value has not the form
  pub form_fault : FormFault (fault kind v) ↔ (WellFormed kind v → ⊥)
  form_fault = (λ s w. other (rw (fault_formed w) at s), fault_unformed)
    where
      other : FormFault (ask (dec_in_range kind v) 5 (ask (dec_ascending kind v) 6 0)) → ⊥
      other =
          asked_either (λ q. FormFault q → ⊥) (dec_in_range kind v) (λ _ s. omega (arith, s))
          (λ _. asked_either (λ q. FormFault q → ⊥) (dec_ascending kind v) (λ _ s. omega (arith, s)) (λ _ s. omega (arith, s)))
