-- Numbers told one after another, and what the exported calls leave behind is determined by what they are given.
use Rattle.std.specs.Prelude.{◌≡◌, refl, List, ◌++◌, ℕ, ◌≤◌, min, length, take, drop}
use Rattle.std.proofs.Math.Path.{sym}
use Rattle.std.proofs.Common.{ap, ◌∙◌, arith, take_all, drop_of_length-le}
use Rattle.std.proofs.Math.Decide.{dec_le}
use Rattle.task_format.specs.Parse.{Read}
use Rattle.questions.specs.Lent.{Lent, from}
use Rattle.questions.specs.Memory.{Slice, four_slices}
use Rattle.questions.specs.Call.{Returned}
use Rattle.questions.specs.Workspace.{slices_in}
use Rattle.questions.specs.declared.workspace.Workspace.{Workspace}
use Rattle.file_response.specs.Laws.ResponseCall.{response_call_unique}
use Rattle.file_report.specs.Laws.TextCall.{text_unique}
use Rattle.c_interface.specs.Told.{told_in, Told, ReportTold, ResponseTold}

-- as many numbers as there are places
pub first_told : (numbers told : List ℕ) (n : ℕ) → n ≡ min (length told) (length numbers) → take n numbers ++ drop n told ≡ told_in numbers told
unfolding told_in
first_told numbers told n e = of (dec_le (length told) (length numbers))
  where
    of : Dec (length told ≤ length numbers) → take n numbers ++ drop n told ≡ take (length told) numbers ++ drop (length numbers) told
    of (yes h) =
        let few : n ≡ length told = omega (arith, e) in
        rw (few, drop_of_length-le told {i = length told} (omega arith), drop_of_length-le told {i = length numbers} h) refl
    of (no h) =
        let few : n ≡ length numbers = omega (arith, e, h) in
        rw (few, take_all (length numbers) numbers (omega arith), take_all (length told) numbers (omega (arith, h))) refl

-- two calls in the same slices, whose promises agree in what is returned and what the working slices hold then
module _ {A : Type 0} {numbers : Returned A → List ℕ} {C₁ C₂ : Lent Workspace → Returned A → Type 0}
    {S S₁ S₂ : List ℕ} {X X₁ X₂ L L₁ L₂ R R₁ R₂ : List (List ℕ)} {T T₁ T₂ : List ℕ}
    (a : Told (from S S₁) (from X X₁) (from L L₁) (from R R₁) C₁ numbers (from T T₁))
    (b : Told (from S S₂) (from X X₂) (from L L₂) (from R R₂) C₂ numbers (from T T₂)) where
  lent_same : (slices_in a.work).before ≡ (slices_in b.work).before
  lent_same = let before = λ (s : Lent (List Slice)). s.before in ap before a.lends ∙ sym (ap before b.lends)

  told_same : a.returned ≡ b.returned → T₁ ≡ T₂
  told_same same = a.tells ∙ ap (λ (r : Returned A). told_in (numbers r) T) same ∙ sym b.tells

  left_same : (slices_in a.work).after ≡ (slices_in b.work).after → four_slices S₁ X₁ L₁ R₁ ≡ four_slices S₂ X₂ L₂ R₂
  left_same same = let after = λ (s : Lent (List Slice)). s.after in sym (ap after a.lends) ∙ same ∙ ap after b.lends

module _ {read : Read} {S S₁ S₂ : List ℕ} {X X₁ X₂ L L₁ L₂ R R₁ R₂ : List (List ℕ)} {P P₁ P₂ T T₁ T₂ : List ℕ} where
  -- two reports of one text in the same slices agree in every lent place
  pub told_unique : (room : ℕ) {O O₁ O₂ : List ℕ} → ReportTold read (from S S₁) (from X X₁) (from L L₁) (from R R₁) room (from P P₁) (from O O₁) (from T T₁)
      → ReportTold read (from S S₂) (from X X₂) (from L L₂) (from R R₂) room (from P P₂) (from O O₂) (from T T₂)
      → (T₁ ≡ T₂) × (P₁ ≡ P₂) × (O₁ ≡ O₂) × (four_slices S₁ X₁ L₁ R₁ ≡ four_slices S₂ X₂ L₂ R₂)
  told_unique room a b =
      let same = text_unique room a.work b.work (lent_same a b) a.call b.call in
      (told_same a b same.returned, same.plans, same.text, left_same a b same.slices)

  -- and so do two best responses to one leader plan
  pub response_told_unique : (leader_plan : List ℕ)
      → ResponseTold read leader_plan (from S S₁) (from X X₁) (from L L₁) (from R R₁) (from P P₁) (from T T₁)
      → ResponseTold read leader_plan (from S S₂) (from X X₂) (from L L₂) (from R R₂) (from P P₂) (from T T₂)
      → (T₁ ≡ T₂) × (P₁ ≡ P₂) × (four_slices S₁ X₁ L₁ R₁ ≡ four_slices S₂ X₂ L₂ R₂)
  response_told_unique leader_plan a b =
      let same = response_call_unique leader_plan a.work b.work (lent_same a b) a.call b.call in
      (told_same a b same.0, same.2, left_same a b same.1)
