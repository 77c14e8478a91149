-- The notes stay the lines of the rows passed, whatever becomes of the next row.
use Rattle.std.specs.Prelude.{◌≡◌, ◌⊎◌, true, false, List, ℕ, ◌+◌, ◌-◌, ◌≤◌, ◌<◌, ltb, length, get_or}
use Rattle.std.proofs.Common.{sym, ap, ◌∙◌, inl, inr, eq-or-lt_of_le, arith, lt-ltb, le-ltb, get_or-set_same, get_or-set_other}
use Rattle.std.proofs.Math.Decide.{dec_lt}
use Rattle.outcome.specs.Answer.{up_to}
use Rattle.outcome.specs.Laws.Answers.{up_to_refl, up_to_trans, up_to_antisym, below_up_to, below_trans, below_up_to_trans, below_irrefl, up_to_is, not_up_to}
use Rattle.planner.specs.Reading.{notes, Reading, Noted}
use Rattle.front_lines.specs.Lines.{note_at}
use Rattle.front_lines.specs.Inner.Selection.{Preferred, Better, Serves, Under, Visited, first, instead, behind, passed, Selected}

-- a note leaves those before it alone
noted_at : (R R' : List (List ℕ)) (place i : ℕ) → Noted R place i R' → place < length (notes R)
    → ((k : ℕ) → k < place → note_at R' k ≡ note_at R k) × (note_at R' place ≡ i)
noted_at R R' place i w h = (
  λ k u. ap (λ (l : List ℕ). get_or l k 0) w.noted ∙ get_or-set_other (notes R) place k i 0 (λ e. omega arith),
  ap (λ (l : List ℕ). get_or l place 0) w.noted ∙ get_or-set_same (notes R) place i 0 h,
)

serves_refl : (x : Reading) → Serves x x
serves_refl x = record { price = omega arith; answer = up_to_refl x.answer; tie = λ _ _. omega arith }

serves_trans : {x y z : Reading} → Serves x y → Serves y z → Serves x z
serves_trans {x} {y} {z} a b = record {
  price = omega (arith, a.price, b.price);
  answer = up_to_trans b.answer a.answer;
  tie = λ e f.
      let g : y.answer ≡ z.answer = up_to_antisym (rw f at a.answer) b.answer in
      omega (arith, a.tie (omega (arith, a.price, b.price)) (f ∙ sym g), b.tie (omega (arith, a.price, b.price)) g);
}

-- what is under a row is under one that serves for it and is no cheaper
under_serves : {x y z : Reading} → Under x y → Serves z y → y.price ≤ z.price → Under x z
under_serves a b l = record { price = omega (arith, a.price, l); answer = below_up_to_trans a.answer b.answer }

under_trans : {x y z : Reading} → Under x y → Under y z → Under x z
under_trans a b = record { price = omega (arith, a.price, b.price); answer = below_trans a.answer b.answer }

-- what the tests tell of two rows of one price
pub higher_answer : (x y : Reading) → up_to x.answer y.answer ≡ false → Preferred x y
higher_answer x y e =
    let h = not_up_to x.answer y.answer e in
    record { answer = below_up_to h; tie = λ f. absurd (below_irrefl (rw f at h)) }

pub lower_rank : (x y : Reading) (a b : ℕ) → up_to x.answer y.answer ≡ true → up_to y.answer x.answer ≡ true → a ≡ x.rank → b ≡ y.rank → Better x y (ltb a b)
lower_rank x y a b p q ea eb = of (dec_lt a b)
  where
    of : Dec (a < b) → Better x y (ltb a b)
    of (yes h) = rw (lt-ltb a b h) (record { answer = up_to_is y.answer x.answer q; tie = λ _. omega arith })
    of (no h) = rw (le-ltb a b (omega arith)) (record { answer = up_to_is x.answer y.answer p; tie = λ _. omega arith })

pub cheaper_serves : (x y : Reading) → x.price < y.price → up_to y.answer x.answer ≡ true → Serves x y
cheaper_serves x y h e = record { price = omega arith; answer = up_to_is y.answer x.answer e; tie = λ z. absurd (omega arith) }

pub lower_under : (x y : Reading) → x.price < y.price → up_to y.answer x.answer ≡ false → Under x y
lower_under x y h e = record { price = h; answer = not_up_to y.answer x.answer e }

-- by what the rows say
module _ (v : ℕ → Reading) (S : ℕ → ℕ) (m : ℕ) (row : (p : ℕ) → p < m → S p < m) (order : (p q : ℕ) → p ≤ q → q < m → (v (S p)).price ≤ (v (S q)).price) where
  -- the next row is noted at a place, where it serves for all that were noted from there on
  selected_noted : (N N' : ℕ → ℕ) (done count place : ℕ) → Selected v S N m done count → done < m → place ≤ count
      → ((k : ℕ) → k < place → N' k ≡ N k) → N' place ≡ S done
      → ((k : ℕ) → k < place → Under (v (N k)) (v (S done))) → ((k : ℕ) → place ≤ k → k < count → Serves (v (S done)) (v (N k)))
      → Selected v S N' m (done + 1) (place + 1)
  selected_noted N N' done count place s h l old here under serves = record {
    few = omega (arith, s.few);
    row = λ k u. row_of k (before k u);
    rising = λ a b u w. rising_of a b u (before b w);
    served = λ p u. served_of p (eq-or-lt_of_le (let z : p ≤ done = omega arith in z));
    cheaper = λ k p u w x. cheaper_of k p (omega arith) x (before k u);
  }
    where
      before : (k : ℕ) → k < place + 1 → (k ≡ place) ⊎ (k < place)
      before k u = eq-or-lt_of_le (omega arith)

      new : (k : ℕ) → k ≡ place → N' k ≡ S done
      new k e = ap N' e ∙ here

      row_of : (k : ℕ) → (k ≡ place) ⊎ (k < place) → N' k < m
      row_of k (inl e) = rw (new k e) (row done h)
      row_of k (inr u) = rw (old k u) (s.row k (omega arith))

      rising_of : (a b : ℕ) → a < b → (b ≡ place) ⊎ (b < place) → Under (v (N' a)) (v (N' b))
      rising_of a b u (inl e) = rw (new b e, old a (omega arith)) (under a (omega arith))
      rising_of a b u (inr w) = rw (old a (omega arith), old b w) (s.rising a b u (omega arith))

      at_place : (p : ℕ) → Serves (v (S done)) (v (S p)) → (k : ℕ) × (k < place + 1) × Serves (v (N' k)) (v (S p))
      at_place p x = (place, omega arith, rw here x)

      kept_or : (p k : ℕ) → k < count → Serves (v (N k)) (v (S p)) → Dec (k < place) → (k : ℕ) × (k < place + 1) × Serves (v (N' k)) (v (S p))
      kept_or p k u x (yes w) = (k, omega arith, rw (old k w) x)
      kept_or p k u x (no w) = at_place p (serves_trans (serves k (omega arith) u) x)

      served_of : (p : ℕ) → (p ≡ done) ⊎ (p < done) → (k : ℕ) × (k < place + 1) × Serves (v (N' k)) (v (S p))
      served_of p (inl e) = at_place p (rw e (serves_refl (v (S done))))
      served_of p (inr u) = let x = s.served p u in kept_or p x.0 x.1 x.2 (dec_lt x.0 place)

      cheaper_of : (k p : ℕ) → done ≤ p → p < m → (k ≡ place) ⊎ (k < place) → (v (N' k)).price ≤ (v (S p)).price
      cheaper_of k p u w (inl e) = rw (new k e) (order done p u w)
      cheaper_of k p u w (inr x) = rw (old k x) (s.cheaper k p (omega arith) u w)

  selected_passed : (N : ℕ → ℕ) (done count k : ℕ) → Selected v S N m done count → k < count → Serves (v (N k)) (v (S done))
      → Selected v S N m (done + 1) count
  selected_passed N done count k s h serves = record {
    few = omega (arith, s.few);
    row = s.row;
    rising = s.rising;
    served = λ p u. served_of p (eq-or-lt_of_le (let z : p ≤ done = omega arith in z));
    cheaper = λ a p u w x. s.cheaper a p u (omega arith) x;
  }
    where
      served_of : (p : ℕ) → (p ≡ done) ⊎ (p < done) → (k : ℕ) × (k < count) × Serves (v (N k)) (v (S p))
      served_of p (inl e) = (k, h, rw e serves)
      served_of p (inr u) = s.served p u

  pub selected_none : (N : ℕ → ℕ) → Selected v S N m 0 0
  selected_none N = record {
    few = omega arith;
    row = λ k h. absurd (omega arith);
    rising = λ a b h l. absurd (omega arith);
    served = λ p h. absurd (omega arith);
    cheaper = λ k p h. absurd (omega arith);
  }

  -- the row that is looked at is the next of the order
  pub selected_visited : (R R' : List (List ℕ)) (done count i r : ℕ) → Selected v S (note_at R) m done count → done < m → m ≤ length (notes R) → i ≡ S done
      → Visited v R count i R' r → Selected v S (note_at R') m (done + 1) r
  selected_visited R R' done count i r s h room e (first z w q) =
      let x = noted_at R R' 0 i w (omega arith) in
      rw q (selected_noted (note_at R) (note_at R') done count 0 s h (omega arith) (λ k u. absurd (omega arith)) (x.1 ∙ e)
      (λ k u. absurd (omega arith)) (λ k u l. absurd (omega arith)))
  selected_visited R R' done count i r s h room e (instead some serves w q) =
      let last = count - 1 in
      let x = noted_at R R' last i w (omega (arith, s.few)) in
      let z : r ≡ last + 1 = omega arith in
      let better : Serves (v (S done)) (v (note_at R last)) = rw (← e) serves in
      rw z (selected_noted (note_at R) (note_at R') done count last s h (omega arith) x.0 (x.1 ∙ e)
      (λ k u. under_serves (s.rising k last u (omega arith)) better (s.cheaper last done (omega arith) (omega arith) h))
      (λ k u l. let y : k ≡ last = omega arith in rw y better))
  selected_visited R R' done count i r s h room e (behind some under w q) =
      let last = count - 1 in
      let x = noted_at R R' count i w (omega (arith, s.few)) in
      let above : Under (v (note_at R last)) (v (S done)) = rw (← e) under in
      rw q (selected_noted (note_at R) (note_at R') done count count s h (omega arith) x.0 (x.1 ∙ e)
      (λ k u. all k (eq-or-lt_of_le (let z : k ≤ last = omega arith in z)) above) (λ k u l. absurd (omega arith)))
    where
      all : (k : ℕ) → (k ≡ count - 1) ⊎ (k < count - 1) → Under (v (note_at R (count - 1))) (v (S done)) → Under (v (note_at R k)) (v (S done))
      all k (inl y) above = rw y above
      all k (inr u) above = under_trans (s.rising k (count - 1) u (omega arith)) above
  selected_visited R R' done count i r s h room e (passed some serves w q) =
      let last = count - 1 in
      let x : Serves (v (note_at R last)) (v (S done)) = rw (← e) (serves (rw e (s.cheaper last done (omega arith) (omega arith) h))) in
      rw (q, w) (selected_passed (note_at R) done count last s (omega arith) x)
