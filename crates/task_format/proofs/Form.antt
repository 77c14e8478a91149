-- The form of a number or list: a value has it just where questions 4, 17 and 18 get a yes.
use Rattle.std.specs.Prelude.{◌≡◌, ◌↔◌, refl, List, [], ◌∷◌, ◌⊎◌, ℕ, eqb}
use Rattle.std.proofs.Common.{inl, inr, ⊎_elim, arith, eqb-true}
use Rattle.std.proofs.lemmas.Bool.{eqb-false}
use Rattle.std.proofs.Math.Logic.Dec
use Rattle.strips.specs.Decision.{dec_equivalent}
use Rattle.strips.specs.Laws.Choice.{either}
use Rattle.task_format.specs.Text.{comma, push, split, parts}
use Rattle.task_format.specs.Value.{All, IsDigit, Present, Short, NoLeadingZero, IsNumber, InForm, Filled, Unpadded}
use Rattle.task_format.specs.Deciders.{dec_in_form, dec_filled, dec_unpadded}
use Rattle.task_format.specs.Laws.Text.{parts_some}
use Rattle.task_format.specs.declared.Kind.{Kind}
use Rattle.task_format.specs.declared.Kind.TheVariants.{Number, FactList}

-- a number, or a list of numbers
unfoldable pub WellFormed : Kind → List ℕ → Type 0
WellFormed (Number low high) v = IsNumber v
WellFormed (FactList most) v = (v ≡ []) ⊎ All IsNumber (parts v)

all_map : {A : Type 0} {P Q : A → Type 0} → ((x : A) → P x → Q x) → (l : List A) → All P l → All Q l
all_map f [] a = tt
all_map f (x ∷ l) a = (f x a.0, all_map f l a.1)

-- ---- the bytes of a list are commas and bytes of a kind just where those of its parts are of that kind

module _ (P : ℕ → Type 0) where
  all_pushed : (b : ℕ) (ps : List (List ℕ)) → P b → All (All P) ps → All (All P) (push b ps)
  all_pushed b [] p a = ((p, tt), tt)
  all_pushed b (q ∷ ps) p a = ((p, a.0), a.1)

  pub all_parts : (v : List ℕ) → All (λ b. P b ⊎ (b ≡ comma)) v → All (All P) (parts v)
  unfolding split
  all_parts [] a = (tt, tt)
  all_parts (b ∷ v) a =
      let r = all_parts v a.1 in
      either (eqb b comma) (λ e. rw e (tt, r))
      (λ e. rw e (all_pushed b (parts v) (⊎_elim (λ p. p) (λ c. absurd (eqb-false b comma e c)) a.0) r))

  pub parts_all : (v : List ℕ) → All (All P) (parts v) → All (λ b. P b ⊎ (b ≡ comma)) v
  unfolding split
  parts_all [] a = tt
  parts_all (b ∷ v) a =
      either (eqb b comma) (λ e. let r = rw e at a in (inr (eqb-true b comma e), parts_all v r.1))
      (λ e. let p = parts_some v in
      let r = rw (e, p.are) at a in
      (inl r.0.0, parts_all v (rw p.are (r.0.1, r.1))))

-- ---- the three questions

pub numbers : (ps : List (List ℕ)) → All (All IsDigit) ps → All Short ps → All Present ps → All NoLeadingZero ps → All IsNumber ps
numbers [] d s p z = tt
numbers (q ∷ ps) d s p z = (record { some = p.0; few = s.0; digits = d.0; plain = z.0 }, numbers ps d.1 s.1 p.1 z.1)

pub well_formed : (kind : Kind) (v : List ℕ) → WellFormed kind v ↔ (InForm kind v × Filled kind v × Unpadded kind v)
unfolding WellFormed InForm Filled Unpadded split
well_formed (Number low high) v =
    (λ n. (((n.digits, n.few), n.some), tt, n.plain), λ a. record { some = a.0.1; few = a.0.0.1; digits = a.0.0.0; plain = a.2 })
well_formed (FactList most) v = (⊎_elim none some, back)
  where
    none : v ≡ [] → InForm (FactList most) v × Filled (FactList most) v × Unpadded (FactList most) v
    none e = rw e ((tt, (omega arith, tt)), inl refl, (λ z. absurd (omega (arith, z)), tt))

    some : All IsNumber (parts v) → InForm (FactList most) v × Filled (FactList most) v × Unpadded (FactList most) v
    some a = (
      (parts_all IsDigit v (all_map (λ p n. n.digits) (parts v) a), all_map (λ p n. n.few) (parts v) a),
      inr (all_map (λ p n. n.some) (parts v) a),
      all_map (λ p n. n.plain) (parts v) a,
    )

    back : InForm (FactList most) v × Filled (FactList most) v × Unpadded (FactList most) v → (v ≡ []) ⊎ All IsNumber (parts v)
    back a = ⊎_elim inl (λ p. inr (numbers (parts v) (all_parts IsDigit v a.0.0) a.0.1 p a.2)) a.1

pub dec_well_formed : (kind : Kind) (v : List ℕ) → Dec (WellFormed kind v)
dec_well_formed kind v =
    let e = well_formed kind v in
    dec_equivalent ((λ a. e.1 (a.0.0, a.0.1, a.1)), (λ w. let a = e.0 w in ((a.0, a.1), a.2)))
    (Dec.and (Dec.and (dec_in_form kind v) (dec_filled kind v)) (dec_unpadded kind v))
