-- What the record is to hold of a value, or the question about it that gets no.
use Rattle.std.specs.Prelude.{◌≡◌, ◌↔◌, refl, Bool, true, false, ◌&&◌, IsTrue, List, [], ◌∷◌, ◌++◌, map, ℕ, ◌<◌, eqb, length, get_or, Result, Ok, Err}
use Rattle.std.specs.List.{slice_split}
use Rattle.std.proofs.Common.{subst, sym, ap, ◌∙◌, inl, inr, ⊎_elim, arith}
use Rattle.std.proofs.lemmas.Grind.{common_steps}
use Rattle.std.proofs.lemmas.List.{map-append}
use Rattle.outcome.specs.declared.Refusal.{Refusal}
use Rattle.outcome.specs.declared.Refusal.TheVariants.{Malformed, EmptyMember, LeadingZero, OutOfRange}
use Rattle.task_format.specs.Text.{comma, split, parts}
use Rattle.task_format.specs.Value.{All, IsDigit, Present, Short, NoLeadingZero, IsNumber, decimal, members, Between, RisesFrom, Rises, set_of, content}
use Rattle.task_format.specs.Value.{InForm, Filled, Unpadded, InRange, Ascending}
use Rattle.task_format.specs.Laws.Value.{members_some}
use Rattle.task_format.proofs.Form.{WellFormed, all_parts, parts_all, numbers}
use Rattle.task_format.proofs.Fault.{fault_form, fault_filled, fault_unpadded, fault_range, fault_rising, fault_none}
use Rattle.task_format.specs.declared.Kind.TheVariants.{Number, FactList}
use Rattle.value_reader.specs.Answered.{Answered}
use Rattle.value_reader.specs.Members.{Good, Bad, outside, flat, MembersRead, Joined}
use Rattle.value_reader.specs.Laws.Members.{all_push, all_last}
use Rattle.value_reader.specs.declared.values.Members.{Members}

-- ---- a number

module _ (low high n : ℕ) (v : List ℕ) where
  pub number_malformed : ((All IsDigit v × Short v) × Present v → ⊥) → Answered (Number low high) v n (Err (Malformed n))
  unfolding InForm
  number_malformed f = (sym (fault_form (Number low high) v f), refl)

  pub number_padded : All IsDigit v → Short v → Present v → (NoLeadingZero v → ⊥) → Answered (Number low high) v n (Err (LeadingZero n))
  unfolding InForm Filled Unpadded
  number_padded d s p f = (sym (fault_unpadded (Number low high) v ((d, s), p) tt f), refl)

  module _ (w : IsNumber v) (x : ℕ) (e : x ≡ decimal v) where
    pub number_outside : (Between low high x → ⊥) → Answered (Number low high) v n (Err (OutOfRange n))
    unfolding WellFormed InRange
    number_outside f = (sym (fault_range (Number low high) v w (λ b. f (subst (Between low high) (sym e) b))), refl)

    pub number_inside : Between low high x → Answered (Number low high) v n (Ok x)
    unfolding WellFormed InRange Ascending content
    number_inside b = (fault_none (Number low high) v (record { form = w; range = subst (Between low high) e b; rising = tt }), e)

-- ---- a list

-- the parts that a slice is split into
pub parts_split : (v : List ℕ) → slice_split (λ b. eqb b comma) v ≡ parts v
unfolding split
parts_split v = search arith

all_at : (P : List ℕ → Type 0) (ps : List (List ℕ)) (i : ℕ) (p d : List ℕ) → i < length ps → p ≡ get_or ps i d → All P ps → P p
all_at P ps i p d h e a = grind (arith, common_steps)

pub list_empty : (most n : ℕ) (v : List ℕ) → v ≡ [] → Answered (FactList most) v n (Ok 0)
unfolding WellFormed InRange Ascending content members set_of
list_empty most n v e = rw e (fault_none (FactList most) [] (record { form = inl refl; range = tt; rising = tt }), refl)

-- the parts read so far get a yes to 4, the marks tell of 17 and 18, and their members come to r
pub record Listed (most n : ℕ) (ps : List (List ℕ)) (f u : Bool) (r : Result Members Refusal) : Type 0 where
  pub digits : All (All IsDigit) ps
  pub short : All Short ps
  pub filled : IsTrue f ↔ All Present ps
  pub unpadded : IsTrue u ↔ All NoLeadingZero ps
  pub read : MembersRead most n (map decimal ps) r

pub listed_begin : (most n : ℕ) → Listed most n [] true true (Ok (record { last = 0; set = 0 }))
unfolding set_of
listed_begin most n = grind arith

-- a mark tells whether all parts have a property, and stays where one more has it
marked : (P : List ℕ → Type 0) (ps : List (List ℕ)) (p : List ℕ) (f : Bool) {b : Bool} → (IsTrue f ↔ All P ps) → (IsTrue b ↔ P p)
    → IsTrue (f && b) ↔ All P (ps ++ (p ∷ []))
marked P ps p true e d = (λ t. all_push P ps p (e.0 refl) (d.0 t), λ a. d.1 (all_last P ps p a).1)
marked P ps p false e d = (λ t. absurd (let z : ◌≡◌ {A = ℕ} 0 1 = cc in omega arith), λ a. e.1 (all_last P ps p a).0)

pub listed_more : (most n : ℕ) (ps : List (List ℕ)) (p : List ℕ) (k : ℕ) (r s : Result Members Refusal) {f u b d : Bool} → Listed most n ps f u r
    → All IsDigit p → Short p → k ≡ decimal p → (IsTrue b ↔ Present p) → (IsTrue d ↔ NoLeadingZero p) → Joined most n r k s
    → Listed most n (ps ++ (p ∷ [])) (f && b) (u && d) s
listed_more most n ps p k r s {f = f} {u = u} l d h e present plain j =
    record {
      digits = all_push (All IsDigit) ps p l.digits d;
      short = all_push Short ps p l.short h;
      filled = marked Present ps p f l.filled present;
      unpadded = marked NoLeadingZero ps p u l.unpadded plain;
      read = rw (map-append decimal ps (p ∷ []), ← e) (j (map decimal ps) l.read);
    }

module _ (most n : ℕ) (v : List ℕ) (some : v ≡ [] → ⊥) where
  -- a part with another byte, or too long
  pub list_malformed : (i : ℕ) (p d : List ℕ) → i < length (parts v) → p ≡ get_or (parts v) i d → (All IsDigit p × Short p → ⊥)
      → Answered (FactList most) v n (Err (Malformed n))
  unfolding InForm
  list_malformed i p d h e f =
      let at = λ (P : List ℕ → Type 0). all_at P (parts v) i p d h e in
      (sym (fault_form (FactList most) v (λ a. f (at (All IsDigit) (all_parts IsDigit v a.0), at Short a.1))), refl)

  rise_first : (ms : List ℕ) → RisesFrom 0 ms → Rises ms
  rise_first ms r = grind arith

  rise_zero : (ms : List ℕ) → All (Between 1 most) ms → Rises ms → RisesFrom 0 ms
  rise_zero ms a r = grind arith

  ranged : All (Between 1 most) (map decimal (parts v)) → InRange (FactList most) v
  unfolding InRange
  ranged b = subst (All (Between 1 most)) (sym (members_some v some)) b

  module _ {r : Result Members Refusal} {f u : Bool} (l : Listed most n (parts v) f u r) where
    in_form : InForm (FactList most) v
    unfolding InForm
    in_form = (parts_all IsDigit v l.digits, l.short)

    pub list_not_filled : (IsTrue f → ⊥) → Answered (FactList most) v n (Err (EmptyMember n))
    unfolding Filled
    list_not_filled x = (sym (fault_filled (FactList most) v in_form (⊎_elim some (λ a. x (l.filled.1 a)))), refl)

    module _ (filled : IsTrue f) where
      pub list_padded : (IsTrue u → ⊥) → Answered (FactList most) v n (Err (LeadingZero n))
      unfolding Filled Unpadded
      list_padded x = (sym (fault_unpadded (FactList most) v in_form (inr (l.filled.0 filled)) (λ a. x (l.unpadded.1 a))), refl)

      module _ (unpadded : IsTrue u) where
        formed : WellFormed (FactList most) v
        unfolding WellFormed
        formed = inr (numbers (parts v) l.digits l.short (l.filled.0 filled) (l.unpadded.0 unpadded))

        pub list_good : (m : Members) → r ≡ Ok m → Answered (FactList most) v n (Ok m.set)
        unfolding Ascending content
        list_good m e =
            let g : Good most (map decimal (parts v)) m = rw e at l.read in
            let are = sym (members_some v some) in (
              fault_none (FactList most) v
                  (record { form = formed; range = ranged g.range; rising = subst Rises are (rise_first (map decimal (parts v)) g.rise) }),
              g.set ∙ ap set_of are,
            )

        pub list_bad : (q : Refusal) → r ≡ Err q → Answered (FactList most) v n (Err q)
        unfolding InRange Ascending
        list_bad q e = of q (rw e at l.read)
          where
            of : (q : Refusal) → Bad most n (map decimal (parts v)) q → Answered (FactList most) v n (Err q)
            of q (outside f) =
                let out : InRange (FactList most) v → ⊥ = λ b. f (subst (All (Between 1 most)) (members_some v some) b) in
                (sym (fault_range (FactList most) v formed out), refl)
            of q (flat b f) =
                let level : Ascending (FactList most) v → ⊥ = λ r. f (rise_zero (map decimal (parts v)) b (subst Rises (members_some v some) r)) in
                (sym (fault_rising (FactList most) v formed (ranged b) level), refl)
