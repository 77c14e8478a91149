-- What a call returns and leaves is determined by what it is given and lent.
use Rattle.std.specs.Prelude.{◌≡◌, ℕ, eqb}
use Rattle.std.proofs.Common.{sym, ap, ◌∙◌}
use Rattle.questions.specs.Lent.{Lent}
use Rattle.questions.specs.Asked.{Yes, No}
use Rattle.questions.specs.Memory.{Memory, Room, room_of, leaves}
use Rattle.questions.specs.Call.{Call, Returned, The, Question, Promise, done}
use Rattle.questions.specs.Laws.Asked.{asked_agree, chosen_one}

-- before and after
abbrev pub left : Memory → Memory → Lent Memory
left b a = record { before = b; after = a }

module _ {X A : Type 0} (c : Call X A) (only : (x y : X) → c.Found x → c.Found y → x ≡ y) where
  the_one : {P : X → Type 0} → The c.Found P → The c.Found (λ x. P x → ⊥) → ⊥
  the_one {P} y n = n.holds (rw (only _ _ y.found n.found) at y.holds)

  -- no question gets yes and no
  pub question_one : (m : Room) (q : ℕ) → Question c m Yes q → Question c m No q → ⊥
  question_one m q =
      chosen_one (eqb q 8) (λ y n. n y)
      (chosen_one (eqb q 13) (λ y n. n y)
      (chosen_one (eqb q 14) the_one
      (chosen_one (eqb q 15) the_one
      (chosen_one (eqb q 16) the_one
      (λ y n. n y)))))

  -- one law for all calls
  pub promise_unique : {b a₁ a₂ : Memory} {r₁ r₂ : Returned A} → Promise c (left b a₁) r₁ → Promise c (left b a₂) r₂ → (r₁ ≡ r₂) × (a₁ ≡ a₂)
  promise_unique {b} = asked_agree (question_one (room_of b))
      (λ q e f. (e.returns ∙ sym f.returns, e.leaves ∙ sym f.leaves))
      (λ x y.
      let same = only _ _ x.found y.found in
      (x.holds.returns ∙ ap (done c) same ∙ sym y.holds.returns, x.holds.leaves ∙ ap (λ z. leaves 0 (c.output z) b) same ∙ sym y.holds.leaves))
