-- The lines of the rows that are selected in one pass are the front.
use Rattle.std.specs.Prelude.{◌≡◌, ◌⊎◌, length, take}
use Rattle.std.proofs.Math.Path.{refl, sym, ap, fun_ext}
use Rattle.std.proofs.Common.{inl, inr, eq-or-lt_of_le, arith, length-take-le, get_or-take}
use mathlib.Core.List.Memᴰ
use mathlib.Core.List.{List, [], ◌∷◌, map, Memᴰ}
use Prim.Native.Nat.{ℕ, suc, ◌-◌, ◌≤◌, ◌<◌}
use Rattle.std.proofs.Math.ListN.{get_or}
use Rattle.strips.specs.Task.{leader_actions}
use Rattle.strips.specs.Plan.{AtMost, cheaper, smaller, same, cost}
use Rattle.strips.specs.Laws.Order.{trichotomy, at_most_trans, at_most_cost}
use Rattle.strips.specs.declared.Task.{Task}
use Rattle.outcome.specs.Laws.Answers.{below_not}
use Rattle.search.specs.Answer.{AnswerOf}
use Rattle.search.specs.Rows.{Among}
use Rattle.search.specs.Laws.Response.{answer_unique}
use Rattle.search.specs.Laws.Rows.{mem_among, take_among, among_take}
use Rattle.pareto.specs.Front.{Attacks, Inflicts, Line, Stands, Lower, Rising, nil, cons, Covered, Front}
use Rattle.planner.specs.Reading.{price_at, answer_at, rank_at, settled_at, leader_plan_at, follower_plan_at, notes, reading_at, SameReading}
use Rattle.planner.specs.Solved.{Solved}
use Rattle.planner.specs.Laws.Notes.{notes_length}
use Rattle.planner.specs.Laws.Reading.{readable_row}
use Rattle.front_lines.specs.Lines.{line_of, line_at, note_at, lines_in, Chosen}
use Rattle.front_lines.specs.Inner.Selection.{Serves, Selected}

-- lines that rise from place to place
rising_lines : (line : ℕ → Line) (xs : List ℕ)
    → ((a b : ℕ) → a < b → b < length xs → Lower (line (get_or xs a 0)) (line (get_or xs b 0))) → Rising (map line xs)
rising_lines line [] h = nil
rising_lines line (x ∷ xs) h =
    cons (λ y m. of y (Memᴰ.of_map line xs m)) (rising_lines line xs (λ a b u w. h (suc a) (suc b) (omega arith) (omega arith)))
  where
    to : (k : ℕ) → Among xs (length xs) k → Lower (line x) (line k)
    to k i = rw i.2 at (h 0 (suc i.0) (omega arith) (omega (arith, i.1)))

    of : (y : Line) → (k : ℕ) × Memᴰ k xs × (line k ≡ y) → Lower (line x) y
    of y k = rw k.2 at (to k.0 (mem_among k.1))

-- rows that say the same have the same lines
module _ {R R' : List (List ℕ)} (e : SameReading R R') where
  pub same_readings : reading_at R' ≡ reading_at R
  same_readings = fun_ext e.reading

  same_line : (i : ℕ) → line_at R' i ≡ line_at R i
  unfolding line_at
  same_line i = ap line_of (e.reading i)

  pub same_lines : (count : ℕ) → lines_in R' count ≡ map (line_at R) (take count (notes R'))
  unfolding lines_in
  same_lines count = ap (λ (f : ℕ → Line). map f (take count (notes R'))) (fun_ext same_line)

-- the leader plan of row i is at most that of row j
abbrev PlanAtMost : Task → List (List ℕ) → ℕ → ℕ → Type 0
PlanAtMost t R i j = AtMost (leader_actions t) (leader_plan_at R i) (leader_plan_at R j)

module _ {t : Task} {R : List (List ℕ)} {m : ℕ} (solved : Solved t R m) where
  -- there are as many rows
  pub rows_inside : m ≤ length R
  rows_inside = of (eq-or-lt_of_le (let z : 0 ≤ m = omega arith in z))
    where
      of : (0 ≡ m) ⊎ (0 < m) → m ≤ length R
      of (inl z) = omega arith
      of (inr z) = omega (arith, readable_row R (m - 1) (solved.readable (m - 1) (omega arith)))

  -- the row of the state where a leader plan ends
  record Row (q : List ℕ) (s : ℕ) : Type 0 where
    at : ℕ
    within : at < m
    state : solved.state at ≡ s
    least : AtMost (leader_actions t) (leader_plan_at R at) q

  row_of : (q : List ℕ) (s : ℕ) → Attacks t q s → Row q s
  row_of q s a =
      let j = solved.all q s a in
      record { at = j.0; within = j.1; state = j.2; least = (solved.leader j.0 j.1).least q (rw j.2 a) }

  -- the leader plan of the lower price, or of the lower rank at one price, comes first
  at_most : (i j : ℕ) → i < m → j < m → price_at R i ≤ price_at R j → (price_at R i ≡ price_at R j → rank_at R i ≤ rank_at R j) → PlanAtMost t R i j
  at_most i j h l p r = by_price (eq-or-lt_of_le p)
    where
      by_rank : price_at R i ≡ price_at R j → (rank_at R i ≡ rank_at R j) ⊎ (rank_at R i < rank_at R j) → PlanAtMost t R i j
      by_rank e (inl z) = same (ap (leader_plan_at R) (solved.apart i j h l z))
      by_rank e (inr z) = smaller (omega (arith, solved.price i h, solved.price j l)) (solved.ranked i j h l z)

      by_price : (price_at R i ≡ price_at R j) ⊎ (price_at R i < price_at R j) → PlanAtMost t R i j
      by_price (inl e) = by_rank e (eq-or-lt_of_le (r e))
      by_price (inr z) = cheaper (omega (arith, solved.price i h, solved.price j l))

  module _ (X : List ℕ) (count : ℕ) (room : count ≤ length X) (sel : Selected (reading_at R) (settled_at R) (λ k. get_or X k 0) m m count) where
    -- each row was settled, so a noted row serves for it
    served : (j : ℕ) → j < m → (k : ℕ) × (k < count) × Serves (reading_at R (get_or X k 0)) (reading_at R j)
    served j h =
        let p = solved.each j h in
        let x = sel.served p.0 p.1 in
        (x.0, x.1, rw p.2 at x.2)

    -- of the rows with one answer, a noted one has the least leader plan
    noted_least : (k j : ℕ) → k < count → j < m → answer_at R j ≡ answer_at R (get_or X k 0) → PlanAtMost t R (get_or X k 0) j
    noted_least k j h l e = of (served j l)
      where
        by : (n : ℕ) → n < count → Serves (reading_at R (get_or X n 0)) (reading_at R j) → (n < k) ⊎ (n ≡ k) ⊎ (k < n) → PlanAtMost t R (get_or X k 0) j
        by n u s (inl z) = absurd (below_not (sel.rising n k z h).answer (rw e at s.answer))
        by n u s (inr (inl z)) =
            let w : Serves (reading_at R (get_or X k 0)) (reading_at R j) = rw z at s in
            at_most (get_or X k 0) j (sel.row k h) l w.price (λ p. w.tie p (sym e))
        by n u s (inr (inr z)) =
            let w = sel.rising k n z u in
            at_most (get_or X k 0) j (sel.row k h) l (omega (arith, w.price, s.price)) (λ p. absurd (omega (arith, w.price, s.price)))

        of : (n : ℕ) × (n < count) × Serves (reading_at R (get_or X n 0)) (reading_at R j) → PlanAtMost t R (get_or X k 0) j
        of s = by s.0 s.1 s.2 (trichotomy s.0 k)

    stands : (k : ℕ) → k < count → Stands t (line_at R (get_or X k 0))
    unfolding line_at
    stands k h =
        let i = get_or X k 0 in
        let row = sel.row k h in
        let attacks = (solved.leader i row).has in
        let response = solved.response i row in
        record {
          end = solved.state i;
          attacks = attacks;
          costs = sym (solved.price i row);
          response = response;
          least = record {
            has = record { end = solved.state i; attacks = attacks; plan = follower_plan_at R i; response = response };
            least = λ q x. of q x (row_of q x.end x.attacks);
          };
        }
      where
        of : (q : List ℕ) (x : Inflicts t (answer_at R (get_or X k 0)) q) → Row q x.end → AtMost (leader_actions t) (leader_plan_at R (get_or X k 0)) q
        of q x y =
            let response : AnswerOf t (solved.state y.at) (answer_at R (get_or X k 0)) x.plan = rw y.state x.response in
            let answer = (answer_unique (solved.response y.at y.within) response).0 in
            at_most_trans (leader_actions t) (noted_least k y.at h y.within answer) y.least

    covered : (q : List ℕ) (s : ℕ) → Row q s → Covered t (map (line_at R) (take count X)) (cost (leader_actions t) q) s
    unfolding line_at
    covered q s y =
        let x = served y.at y.within in
        record {
          line = line_at R (get_or X x.0 0);
          listed = Memᴰ.map (line_at R) (among_take X count room (x.0, x.1, refl));
          answer = answer_at R y.at;
          plan = follower_plan_at R y.at;
          response = rw y.state at (solved.response y.at y.within);
          covers = (omega (arith, x.2.price, at_most_cost (leader_actions t) y.least, solved.price y.at y.within), x.2.answer);
        }

    lower : (a b : ℕ) → a < b → b < count → Lower (line_at R (get_or X a 0)) (line_at R (get_or X b 0))
    unfolding line_at
    lower a b h l = let u = sel.rising a b h l in record { price = u.price; answer = u.answer }

    -- the lines of the noted rows are the front
    pub front_of : Front t (map (line_at R) (take count X))
    front_of = record {
      rising = rising_lines (line_at R) (take count X) (λ a b h l.
          let u : b < count = omega (arith, length-take-le count X room) in
          rw (get_or-take count X a 0 (omega arith), get_or-take count X b 0 u) (lower a b h u));
      each = λ l w. of l (Memᴰ.of_map (line_at R) (take count X) w);
      covered = λ q s a. covered q s (row_of q s a);
    }
      where
        at_place : (i : ℕ) → Among X count i → Stands t (line_at R i)
        at_place i k = rw k.2 at (stands k.0 k.1)

        of : (l : Line) → (i : ℕ) × Memᴰ i (take count X) × (line_at R i ≡ l) → Stands t l
        of l i = rw i.2 at (at_place i.0 (take_among X count room i.1))

  -- the notes of rows that say the same as those that were solved, selected over all of these
  pub chosen : (R' : List (List ℕ)) (count : ℕ) → SameReading R R' → Selected (reading_at R) (settled_at R) (note_at R') m m count → Chosen t R' count
  chosen R' count e sel =
      let inside : count ≤ length R' = omega (arith, sel.few, rows_inside, e.size) in
      record {
        front = rw (same_lines e count) (front_of (notes R') count (omega (arith, notes_length R')) sel);
        listed = record {
          inside = inside;
          few = omega (arith, sel.few, solved.few);
          readable = λ k h. e.readable (note_at R' k) (solved.readable (note_at R' k) (sel.row k h));
        };
      }
