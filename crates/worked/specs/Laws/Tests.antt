-- The tests of the checker.
use Rattle.std.specs.Prelude.{◌≡◌, refl, Bool, true, false, ◌⊎◌, ℕ, zero, suc, ◌≤◌, eqb, ltb, length}
use Rattle.std.proofs.Common.{ap, inl, inr, arith, eq-eqb, eqb-true, leb-true, ltb-true}
use mathlib.Core.List.Memᴰ
use mathlib.Core.List.{List, [], ◌∷◌, Memᴰ}
use Rattle.std.proofs.Math.Decide.{ℕ_discrete}
use Rattle.std.specs.Int.Bits.{bit_and}
use Rattle.strips.specs.State.{Holds, after}
use Rattle.strips.specs.Plan.{action, cost, Before, here, there, shorter, earlier, AtMost, cheaper, smaller, same, Runs, done, next}
use Rattle.strips.specs.Laws.Pigeonhole.{Distinct, nil, cons}
use Rattle.outcome.specs.Answer.{Value, minutes, none, Below, number_below, below_none}
use Rattle.strips.specs.declared.Action.{Action}
use Rattle.worked.specs.Check.{both, either, every, some, every_up_to, when, same_list, same_value, below, holds, not_later, at_most, runs_to, among, not}
use Rattle.worked.specs.Check.{distinct}

never : {X : Type 0} → false ≡ true → X
never e = absurd (let z : ◌≡◌ {A = ℕ} 0 1 = cc in omega arith)

pub both_first : (a b : Bool) → both a b ≡ true → a ≡ true
unfolding both
both_first true b e = refl
both_first false b e = e

pub both_second : (a b : Bool) → both a b ≡ true → b ≡ true
unfolding both
both_second true b e = e
both_second false b e = never e

pub either_of : (a b : Bool) → either a b ≡ true → (a ≡ true) ⊎ (b ≡ true)
unfolding either
either_of true b e = inl refl
either_of false b e = inr e

pub when_then : (a b : Bool) → when a b ≡ true → a ≡ true → b ≡ true
unfolding when
when_then true b e h = e
when_then false b e h = never h

pub every_each : {A : Type 0} (f : A → Bool) (xs : List A) → every f xs ≡ true → (x : A) → Memᴰ x xs → f x ≡ true
unfolding every
every_each f [] e x m = absurd (Memᴰ.not-nil m)
every_each {A} f (y ∷ ys) e x m = of (Memᴰ.cases_cons m) (λ k. every_each f ys (both_second _ _ e) x k)
  where
    of : (x ≡ y) ⊎ Memᴰ x ys → (Memᴰ x ys → f x ≡ true) → f x ≡ true
    of (inl h) g = rw h (both_first _ _ e)
    of (inr k) g = g k

-- an element that passes
pub record Passing {A : Type 0} (f : A → Bool) (xs : List A) : Type 0 where
  pub it : A
  pub listed : Memᴰ it xs
  pub passes : f it ≡ true

pub some_one : {A : Type 0} (f : A → Bool) (xs : List A) → some f xs ≡ true → Passing f xs
unfolding some
some_one f [] e = never e
some_one {A} f (y ∷ ys) e = of (either_of _ _ e) (λ h. some_one f ys h)
  where
    of : (f y ≡ true) ⊎ (some f ys ≡ true) → (some f ys ≡ true → Passing f ys) → Passing f (y ∷ ys)
    of (inl h) g = record { it = y; listed = Memᴰ.head refl; passes = h }
    of (inr h) g = let p = g h in record { it = p.it; listed = Memᴰ.tail p.listed; passes = p.passes }

pub up_to_each : (f : ℕ → Bool) (n : ℕ) → every_up_to f n ≡ true → (k : ℕ) → 1 ≤ k → k ≤ n → f k ≡ true
unfolding every_up_to
up_to_each f zero e k l h = absurd (omega arith)
up_to_each f (suc n) e k l h = of (ℕ_discrete k (suc n)) (λ z. up_to_each f n (both_second _ _ e) k l z)
  where
    of : Dec (k ≡ suc n) → (k ≤ n → f k ≡ true) → f k ≡ true
    of (yes z) g = rw z (both_first _ _ e)
    of (no z) g = g (omega arith)

pub same_list_lem : (p q : List ℕ) → same_list p q ≡ true → p ≡ q
unfolding same_list
same_list_lem [] [] e = refl
same_list_lem [] (b ∷ q) e = never e
same_list_lem (a ∷ p) [] e = never e
same_list_lem (a ∷ p) (b ∷ q) e = of (eqb-true a b (both_first _ _ e)) (same_list_lem p q (both_second _ _ e))
  where
    of : a ≡ b → p ≡ q → a ∷ p ≡ b ∷ q
    of h k = cc

pub same_value_lem : (x y : Value) → same_value x y ≡ true → x ≡ y
unfolding same_value
same_value_lem (minutes a) (minutes b) e = ap minutes (eqb-true a b e)
same_value_lem (minutes a) none e = never e
same_value_lem none (minutes b) e = never e
same_value_lem none none e = refl

-- a value is the same as itself
pub value_same : (x y : Value) → x ≡ y → same_value x y ≡ true
unfolding same_value
value_same x y e = rw (← e) (of x)
  where
    of : (z : Value) → same_value z z ≡ true
    of (minutes a) = eq-eqb a a refl
    of none = refl

pub below_is : (x y : Value) → below x y ≡ true → Below x y
unfolding below
below_is (minutes a) (minutes b) e = number_below (ltb-true a b e)
below_is (minutes a) none e = below_none
below_is none b e = never e

pub holds_is : (s set : ℕ) → holds s set ≡ true → Holds s set
unfolding holds
holds_is s set e = eqb-true (bit_and s set) set e

pub is_holds : (s set : ℕ) → Holds s set → holds s set ≡ true
unfolding holds
is_holds s set h = eq-eqb (bit_and s set) set h

not_later_lem : (p q : List ℕ) → length p ≡ length q → not_later p q ≡ true → (p ≡ q) ⊎ Before p q
unfolding not_later
not_later_lem [] [] l e = inl refl
not_later_lem [] (b ∷ q) l e = absurd (omega arith)
not_later_lem (a ∷ p) [] l e = absurd (omega arith)
not_later_lem (a ∷ p) (b ∷ q) l e = of (either_of _ _ e) (λ h. not_later_lem p q (omega arith) h)
  where
    tail : a ≡ b → (p ≡ q) ⊎ Before p q → (a ∷ p ≡ b ∷ q) ⊎ Before (a ∷ p) (b ∷ q)
    tail h (inl k) = inl (cc)
    tail h (inr k) = inr (rw h (there k))

    of : (ltb a b ≡ true) ⊎ (both (eqb a b) (not_later p q) ≡ true) → (not_later p q ≡ true → (p ≡ q) ⊎ Before p q) → (a ∷ p ≡ b ∷ q) ⊎ Before (a ∷ p) (b ∷ q)
    of (inl h) g = inr (here (ltb-true a b h))
    of (inr h) g = tail (eqb-true a b (both_first _ _ h)) (g (both_second _ _ h))

pub at_most_is : (acts : List Action) (p q : List ℕ) → at_most acts p q ≡ true → AtMost acts p q
unfolding at_most
at_most_is acts p q e = of (either_of _ _ e)
  where
    level : cost acts p ≡ cost acts q → length p ≡ length q → (p ≡ q) ⊎ Before p q → AtMost acts p q
    level c l (inl h) = same h
    level c l (inr h) = smaller c (earlier l h)

    steps : cost acts p ≡ cost acts q → (ltb (length p) (length q) ≡ true) ⊎ (both (eqb (length p) (length q)) (not_later p q) ≡ true) → AtMost acts p q
    steps c (inl h) = smaller c (shorter (ltb-true _ _ h))
    steps c (inr h) = let l = eqb-true (length p) (length q) (both_first _ _ h) in level c l (not_later_lem p q l (both_second _ _ h))

    of : (ltb (cost acts p) (cost acts q) ≡ true)
        ⊎ (both (eqb (cost acts p) (cost acts q)) (either (ltb (length p) (length q)) (both (eqb (length p) (length q)) (not_later p q))) ≡ true)
        → AtMost acts p q
    of (inl h) = cheaper (ltb-true _ _ h)
    of (inr h) = steps (eqb-true _ _ (both_first _ _ h)) (either_of _ _ (both_second _ _ h))

pub runs_to_lem : (acts : List Action) (s : ℕ) (p : List ℕ) (t : ℕ) → runs_to acts s p t ≡ true → Runs acts s p t
unfolding runs_to
runs_to_lem acts s [] t e = rw (eqb-true s t e) done
runs_to_lem acts s (k ∷ p) t e =
    let known = both_first _ _ e in
    let rest = both_second _ _ e in
    let in_list : (1 ≤ k) × (k ≤ length acts) = (leb-true 1 k (both_first _ _ known), leb-true k (length acts) (both_second _ _ known)) in
    next (record { known = in_list; applies = holds_is s (action acts k).precondition (both_first _ _ rest) })
    (runs_to_lem acts (after (action acts k) s) p t (both_second _ _ rest))

pub among_is : (x : ℕ) (ys : List ℕ) → among x ys ≡ true → Memᴰ x ys
unfolding among
among_is x ys e = let p = some_one (λ y. eqb x y) ys e in rw (eqb-true x p.it p.passes) p.listed

is_among : (x : ℕ) (ys : List ℕ) → Memᴰ x ys → among x ys ≡ true
unfolding among some either
is_among x [] m = absurd (Memᴰ.not-nil m)
is_among x (y ∷ ys) m = of (Memᴰ.cases_cons m) (λ k. is_among x ys k)
  where
    any : (a : Bool) {b : Bool} → b ≡ true → either a b ≡ true
    any true h = refl
    any false h = h

    of : (x ≡ y) ⊎ Memᴰ x ys → (Memᴰ x ys → some (λ z. eqb x z) ys ≡ true) → either (eqb x y) (some (λ z. eqb x z) ys) ≡ true
    of (inl h) g = rw (eq-eqb x y h) refl
    of (inr k) g = any (eqb x y) (g k)

pub distinct_is : (xs : List ℕ) → distinct xs ≡ true → Distinct xs
unfolding distinct not
distinct_is [] e = nil
distinct_is (x ∷ xs) e = cons (λ m. never (rw (is_among x xs m) at (both_first _ _ e))) (distinct_is xs (both_second _ _ e))
