-- A task has one front, and it is what document 01 says: the pairs that are attained and not covered by a different one that is.
use Rattle.std.specs.Prelude.{◌≡◌, refl, ◌⊎◌, ℕ, ◌<◌}
use Rattle.std.proofs.Common.{sym, ap, ◌∙◌, inl, inr, arith}
use mathlib.Core.List.Memᴰ
use mathlib.Core.List.{List, [], ◌∷◌, Memᴰ}
use Rattle.strips.specs.Task.{leader_actions}
use Rattle.strips.specs.Plan.{done, cost}
use Rattle.outcome.specs.Answer.{Value}
use Rattle.outcome.specs.Laws.Answers.{up_to_trans, up_to_antisym, below_not}
use Rattle.strips.specs.Laws.Order.{least_unique}
use Rattle.strips.specs.declared.Task.{Task}
use Rattle.replay.specs.Laws.Steps.{runs_end}
use Rattle.search.specs.Answer.{AnswerOf}
use Rattle.search.specs.Laws.Response.{answer_unique}
use Rattle.pareto.specs.Front.{Covers, Attacks, Line, Stands, Lower, Rising, nil, cons, Front}

line : ℕ → Value → List ℕ → List ℕ → Line
line p f a b = record { price = p; answer = f; leader_plan = a; follower_plan = b }

line_eta : (x : Line) → line x.price x.answer x.leader_plan x.follower_plan ≡ x
unfolding line
line_eta x = refl

module _ (t : Task) where
  -- a line that covers a line of the same list is that line
  cover_same : {xs : List Line} → Rising xs → {x y : Line} → Memᴰ x xs → Memᴰ y xs → Covers x.price x.answer y.price y.answer → x ≡ y
  cover_same nil a b c = absurd (Memᴰ.not-nil a)
  cover_same (cons {x = z} {xs = zs} f r) {x} {y} a b c = of (Memᴰ.cases_cons a) (Memᴰ.cases_cons b) (λ a' b'. cover_same r a' b' c)
    where
      of : (x ≡ z) ⊎ Memᴰ x zs → (y ≡ z) ⊎ Memᴰ y zs → (Memᴰ x zs → Memᴰ y zs → x ≡ y) → x ≡ y
      of (inl e) (inl g) k = e ∙ sym g
      of (inl e) (inr g) k = absurd (below_not (rw (← e) at (f y g).answer) c.1)
      of (inr e) (inl g) k =
          let l : z.price < x.price = (f x e).price in
          let q : y.price ≡ z.price = ap (λ (v : Line). v.price) g in
          absurd (omega (arith, c.0))
      of (inr e) (inr g) k = k e g

  -- a pair that some leader plan attains
  pub record Attained (p : ℕ) (f : Value) : Type 0 where
    pub leader_plan : List ℕ
    pub end : ℕ
    pub plan : List ℕ
    pub attacks : Attacks t leader_plan end
    pub costs : cost (leader_actions t) leader_plan ≡ p
    pub response : AnswerOf t end f plan

  module _ {xs : List Line} (front : Front t xs) where
    -- no line covers another
    pub no_cover : {x y : Line} → Memᴰ x xs → Memᴰ y xs → Covers x.price x.answer y.price y.answer → x ≡ y
    no_cover a b c = cover_same front.rising a b c

    -- each pair that is attained is covered by a line
    pub covers_all : {p : ℕ} {f : Value} → Attained p f → (l : Line) × Memᴰ l xs × Covers l.price l.answer p f
    covers_all a =
        let c = front.covered a.leader_plan a.end a.attacks in
        let e = (answer_unique a.response c.response).0 in
        (c.line, c.listed, (omega (arith, c.covers.0, a.costs), rw e c.covers.1))

    -- the pair of a line is attained
    pub attained : {l : Line} → Memᴰ l xs → Attained l.price l.answer
    attained {l} h =
        let s = front.each l h in
        record { leader_plan = l.leader_plan; end = s.end; plan = l.follower_plan; attacks = s.attacks; costs = s.costs; response = s.response }

    pub not_empty : (xs ≡ []) → ⊥
    not_empty e = let c = front.covered [] t.initial done in Memᴰ.not-nil (rw e at c.listed)

    -- a pair that is attained and covers a line's pair is that pair
    pub line_not_covered : {l : Line} → Memᴰ l xs → {p : ℕ} {f : Value} → Attained p f → Covers p f l.price l.answer → (p ≡ l.price) × (f ≡ l.answer)
    line_not_covered {l} h {p} {f} a c = of (covers_all a)
      where
        of : (k : Line) × Memᴰ k xs × Covers k.price k.answer p f → (p ≡ l.price) × (f ≡ l.answer)
        of k =
            let e : k.0 ≡ l = no_cover k.1 h (omega (arith, k.2.0, c.0), up_to_trans c.1 k.2.1) in
            let ep : k.0.price ≡ l.price = ap (λ (v : Line). v.price) e in
            let ea : k.0.answer ≡ l.answer = ap (λ (v : Line). v.answer) e in
            (omega (arith, ep, k.2.0, c.0), up_to_antisym (rw ea at k.2.1) c.1)

    -- a pair that is attained and not covered by a different one that is stands in a line
    pub uncovered_listed : {p : ℕ} {f : Value} → Attained p f → ((q : ℕ) (g : Value) → Attained q g → Covers q g p f → (q ≡ p) × (g ≡ f))
        → (l : Line) × Memᴰ l xs × (l.price ≡ p) × (l.answer ≡ f)
    uncovered_listed a u = let k = covers_all a in let e = u _ _ (attained k.1) k.2 in (k.0, k.1, e.0, e.1)

  same_line : {x y : Line} → Stands t x → Stands t y → x.price ≡ y.price → x.answer ≡ y.answer → x ≡ y
  same_line {x} {y} a b p f =
      let o : x.leader_plan ≡ y.leader_plan = least_unique (leader_actions t) a.least (rw f b.least) in
      let e : a.end ≡ b.end = sym (runs_end (leader_actions t) a.attacks) ∙ runs_end (leader_actions t) (rw o b.attacks) in
      let r : AnswerOf t a.end y.answer y.follower_plan = rw e b.response in
      let m : x.follower_plan ≡ y.follower_plan = (answer_unique a.response r).1 in
      build p f o m
    where
      build : x.price ≡ y.price → x.answer ≡ y.answer → x.leader_plan ≡ y.leader_plan → x.follower_plan ≡ y.follower_plan → x ≡ y
      build h₁ h₂ h₃ h₄ = sym (line_eta x) ∙ (cc) ∙ line_eta y

  -- each line of a front is a line of any other
  included : {xs ys : List Line} → Front t xs → Front t ys → (x : Line) → Memᴰ x xs → Memᴰ x ys
  included {xs} {ys} fx fy x h = of (covers_all fy (attained fx h))
    where
      of : (y : Line) × Memᴰ y ys × Covers y.price y.answer x.price x.answer → Memᴰ x ys
      of y =
          let e = line_not_covered fx h (attained fy y.1) y.2 in
          let z : x ≡ y.0 = same_line (fx.each x h) (fy.each y.0 y.1) (sym e.0) (sym e.1) in
          rw z y.1

  -- two rising lists with the same lines are one
  same_list_lem : (xs ys : List Line) → Rising xs → Rising ys → ((x : Line) → Memᴰ x xs → Memᴰ x ys) → ((y : Line) → Memᴰ y ys → Memᴰ y xs) → xs ≡ ys
  same_list_lem [] [] a b f g = refl
  same_list_lem [] (y ∷ ys) a b f g = absurd (Memᴰ.not-nil (g y (Memᴰ.head refl)))
  same_list_lem (x ∷ xs) [] a b f g = absurd (Memᴰ.not-nil (f x (Memᴰ.head refl)))
  same_list_lem (x ∷ xs) (y ∷ ys) (cons lx rx) (cons ly ry) f g =
      let e : x ≡ y = heads (Memᴰ.cases_cons (f x (Memᴰ.head refl))) (Memᴰ.cases_cons (g y (Memᴰ.head refl))) in
      let r : xs ≡ ys = same_list_lem xs ys rx ry
      (λ z h. down z x y (lx z h) e (Memᴰ.cases_cons (f z (Memᴰ.tail h))))
      (λ z h. down z y x (ly z h) (sym e) (Memᴰ.cases_cons (g z (Memᴰ.tail h)))) in
      build e r
    where
      build : x ≡ y → xs ≡ ys → x ∷ xs ≡ y ∷ ys
      build h k = cc

      heads : (x ≡ y) ⊎ Memᴰ x ys → (y ≡ x) ⊎ Memᴰ y xs → x ≡ y
      heads (inl e) k = e
      heads (inr h) (inl e) = sym e
      heads (inr h) (inr k) = absurd (omega (arith, (ly x h).price, (lx y k).price))

      down : (z u v : Line) {l : List Line} → Lower u z → u ≡ v → (z ≡ v) ⊎ Memᴰ z l → Memᴰ z l
      down z u v w e (inr k) = k
      down z u v w e (inl k) = absurd (let q : u.price ≡ z.price = ap (λ (i : Line). i.price) (e ∙ sym k) in omega (arith, w.price))

  -- the front determines its lines
  pub front_unique : {xs ys : List Line} → Front t xs → Front t ys → xs ≡ ys
  front_unique {xs} {ys} fx fy = same_list_lem xs ys fx.rising fy.rising (included fx fy) (included fy fx)
