-- The value that says x is in form, in range and rising, and says x; no other value is and does.
use Rattle.std.specs.Prelude.{◌≡◌, refl, true, false, List, [], ◌∷◌, ◌++◌, map, ◌⊎◌, ℕ, ◌^◌, ◌≤◌, ◌<◌, length}
use Rattle.std.proofs.Common.{sym, ap, ◌∙◌, append-nil, inl, inr, ⊎_elim, arith, length-append}
use Rattle.strips.specs.Limits.{max_facts}
use Rattle.task_format.specs.Limits.{max_digits}
use Rattle.task_format.specs.Text.{newline, comma, parts}
use Rattle.task_format.specs.Value.{All, IsNumber, decimal, members, InRange, Ascending, set_of, content, OfKind, Modest}
use Rattle.task_format.specs.Render.{digits, facts_of, listed, value_text}
use Rattle.task_format.specs.Laws.Digits.{digits_some}
use Rattle.task_format.specs.Laws.Value.{members_some}
use Rattle.task_format.proofs.Form.{WellFormed}
use Rattle.task_format.proofs.Fault.{Fine}
use Rattle.task_format.specs.declared.Kind.{Kind}
use Rattle.task_format.specs.declared.Kind.TheVariants.{Number, FactList}
use Rattle.task_format.specs.Laws.Decimal.{Without, all_append, digits_without}
use Rattle.round_trip.specs.Laws.Numbers.{digits_number, digits_say, number_digits_lem}
use Rattle.round_trip.specs.Laws.Pieces.{split_join, parts_one, tail, joined, parts_joined}
use Rattle.round_trip.specs.Laws.Sets.{Above, above, in_range, rise, facts_rise, facts_set, set_facts, set_small}

-- each number has at most five digits
abbrev Small : List ℕ → Type 0
Small ms = All (λ m. m < 10 ^ max_digits) ms

small : (most lo : ℕ) (ms : List ℕ) → most ≤ max_facts → Above most lo ms → Small ms
small most lo [] h a = tt
small most lo (m ∷ ms) h a = (omega (arith, a.1), small most m ms h a.2)

-- ---- the list of some numbers

-- behind the first
listed_tail : (ms : List ℕ) → listed false ms ≡ tail (map digits ms)
unfolding listed
listed_tail [] = refl
listed_tail (m ∷ ms) = ap (λ (u : List ℕ). comma ∷ digits m ++ u) (listed_tail ms)

pub listed_joined : (ms : List ℕ) → listed true ms ≡ joined (map digits ms)
unfolding listed
listed_joined [] = refl
listed_joined (m ∷ ms) = ap (λ (u : List ℕ). digits m ++ u) (listed_tail ms)

parts_listed : (m : ℕ) (ms : List ℕ) → Small (m ∷ ms) → parts (joined (map digits (m ∷ ms))) ≡ map digits (m ∷ ms)
parts_listed m [] s =
    ap parts (append-nil (digits m)) ∙ parts_one (digits m) (digits_without comma (omega arith) (digits m) (digits_number m s.0).digits)
parts_listed m (k ∷ ms) s =
    split_join comma ([] ∷ []) (digits m) (joined (map digits (k ∷ ms))) (digits_without comma (omega arith) (digits m) (digits_number m s.0).digits)
    ∙ ap (λ (ps : List (List ℕ)). digits m ∷ ps) (parts_listed k ms s.1)

all_numbers : (ms : List ℕ) → Small ms → All IsNumber (map digits ms)
all_numbers [] s = tt
all_numbers (m ∷ ms) s = (digits_number m s.0, all_numbers ms s.1)

all_say : (ms : List ℕ) → Small ms → map decimal (map digits ms) ≡ ms
all_say [] s = refl
all_say (m ∷ ms) s = rw (digits_say m s.0) (ap (λ (l : List ℕ). m ∷ l) (all_say ms s.1))

listed_some : (m : ℕ) (ms : List ℕ) → joined (map digits (m ∷ ms)) ≡ [] → ⊥
listed_some m ms e = let z = ap length e in omega (arith, z, length-append (digits m) (tail (map digits ms)), digits_some 4 m)

listed_form : (ms : List ℕ) → Small ms → (joined (map digits ms) ≡ []) ⊎ All IsNumber (parts (joined (map digits ms)))
listed_form [] s = inl refl
listed_form (m ∷ ms) s = inr (rw (parts_listed m ms s) (all_numbers (m ∷ ms) s))

listed_members : (ms : List ℕ) → Small ms → members (joined (map digits ms)) ≡ ms
unfolding members
listed_members [] s = refl
listed_members (m ∷ ms) s =
    members_some (joined (map digits (m ∷ ms))) (listed_some m ms) ∙ ap (map decimal) (parts_listed m ms s) ∙ all_say (m ∷ ms) s

-- ---- the value that says x

pub value_fine : (kind : Kind) (x : ℕ) → Modest kind → OfKind kind x → Fine kind (value_text kind x)
unfolding value_text WellFormed InRange Ascending
value_fine (Number low high) x m h =
    let e = digits_say x (omega (arith, h.1)) in
    record { form = digits_number x (omega (arith, h.1)); range = rw e h; rising = tt }
value_fine (FactList most) x m h =
    let ms = facts_of most 1 x in
    let a = facts_rise most x in
    let s = small most 0 ms m a in
    let e = listed_members ms s in
    rw (listed_joined ms) (record { form = listed_form ms s; range = rw e (in_range most 0 ms a); rising = rw e (rise most ms a) })

pub value_content : (kind : Kind) (x : ℕ) → Modest kind → OfKind kind x → content kind (value_text kind x) ≡ x
unfolding value_text content
value_content (Number low high) x m h = digits_say x (omega (arith, h.1))
value_content (FactList most) x m h =
    let ms = facts_of most 1 x in
    let s = small most 0 ms m (facts_rise most x) in
    ap (λ (v : List ℕ). set_of (members v)) (listed_joined ms) ∙ ap set_of (listed_members ms s) ∙ facts_set most x h

-- ---- no other value

all_digits : (ps : List (List ℕ)) → All IsNumber ps → ps ≡ map digits (map decimal ps)
all_digits [] a = refl
all_digits (p ∷ ps) a = ap (λ (q : List ℕ). q ∷ ps) (number_digits_lem p a.0) ∙ ap (λ (qs : List (List ℕ)). digits (decimal p) ∷ qs) (all_digits ps a.1)

list_is : (v : List ℕ) → (v ≡ []) ⊎ All IsNumber (parts v) → v ≡ listed true (members v)
unfolding members listed
list_is [] f = refl
list_is (b ∷ v) f =
    ⊎_elim (λ e. absurd (let z = ap length e in omega (arith, z)))
    (λ a. parts_joined (b ∷ v) ∙ ap joined (all_digits (parts (b ∷ v)) a) ∙ sym (listed_joined (map decimal (parts (b ∷ v))))) f

pub fine_value : (kind : Kind) (v : List ℕ) → Fine kind v → v ≡ value_text kind (content kind v)
unfolding value_text content WellFormed InRange Ascending
fine_value (Number low high) v f = number_digits_lem v f.form
fine_value (FactList most) v f =
    list_is v f.form ∙ ap (listed true) (sym (set_facts most (members v) (above most (members v) f.range f.rising)))

pub fine_holds : (kind : Kind) (v : List ℕ) → Fine kind v → OfKind kind (content kind v)
unfolding content WellFormed InRange Ascending
fine_holds (Number low high) v f = f.range
fine_holds (FactList most) v f = set_small most (members v) (above most (members v) f.range f.rising)

-- ---- a value has no newline

tail_plain : (ms : List ℕ) → Small ms → Without newline (tail (map digits ms))
tail_plain [] s = tt
tail_plain (m ∷ ms) s =
    let d = digits_without newline (omega arith) (digits m) (digits_number m s.0).digits in
    ((λ e. omega (arith, e)), all_append (λ b. b ≡ newline → ⊥) (digits m) _ d (tail_plain ms s.1))

joined_plain : (ms : List ℕ) → Small ms → Without newline (joined (map digits ms))
joined_plain [] s = tt
joined_plain (m ∷ ms) s =
    all_append (λ b. b ≡ newline → ⊥) (digits m) _ (digits_without newline (omega arith) (digits m) (digits_number m s.0).digits) (tail_plain ms s.1)

pub value_plain : (kind : Kind) (x : ℕ) → Modest kind → OfKind kind x → Without newline (value_text kind x)
unfolding value_text
value_plain (Number low high) x m h = digits_without newline (omega arith) (digits x) (digits_number x (omega (arith, h.1))).digits
value_plain (FactList most) x m h = let ms = facts_of most 1 x in rw (listed_joined ms) (joined_plain ms (small most 0 ms m (facts_rise most x)))
