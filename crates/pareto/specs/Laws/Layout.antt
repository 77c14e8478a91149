-- Plans one after another: what is written behind another in a lent slice, and the plans of one line more.
use Rattle.std.specs.Prelude.{◌≡◌, List, [], ◌∷◌, ◌++◌, ℕ, ◌+◌, ◌-◌, ◌≤◌, length, take, drop}
use Rattle.std.proofs.Common.{sym, ap, ◌∙◌, append_assoc, append-nil, arith, length-drop, drop-drop, take_at, drop_at, take_all}
use Rattle.std.proofs.Math.Seq.{drop-length}
use borrow.Rule.Slice.PartMut.{mid_of, put_mid, Post-is}
use Rattle.pareto.specs.Front.{Line}
use Rattle.pareto.specs.Layout.{plans_for}

-- the rest of a list, and the list with another rest
pub rest_of : {A : Type 0} (a : ℕ) (xs : List A) → mid_of a (length xs - a) xs ≡ drop a xs
rest_of a xs = take_all (length xs - a) (drop a xs) (omega (arith, length-drop a xs))

pub put_rest : {A : Type 0} (a : ℕ) (xs ys : List A) → a ≤ length xs → put_mid a (length xs - a) xs ys ≡ take a xs ++ ys
put_rest {A} a xs ys h =
    ap (λ (l : List A). take a xs ++ (ys ++ l)) (Post-is a (length xs) xs h ∙ drop-length xs) ∙ ap (λ (l : List A). take a xs ++ l) (append-nil ys)

-- w is written behind p, in what was left of `out`
pub written_behind : (p w out xs ys : List ℕ) (a b : ℕ) → length p ≡ a → a ≤ length xs → xs ≡ p ++ drop a out → ys ≡ w ++ drop b (mid_of a (length xs - a) xs)
    → put_mid a (length xs - a) xs ys ≡ (p ++ w) ++ drop (a + b) out
written_behind p w out xs ys a b lp h ex ey =
    put_rest a xs ys h
    ∙ ap (λ (l : List ℕ). take a xs ++ l) (ey ∙ ap (λ (l : List ℕ). w ++ drop b l) (rest_of a xs ∙ ap (drop a) ex ∙ drop_at p (drop a out) a lp))
    ∙ ap (λ (l : List ℕ). l ++ (w ++ drop b (drop a out))) (ap (take a) ex ∙ take_at p (drop a out) a lp)
    ∙ ap (λ (l : List ℕ). p ++ (w ++ l)) (drop-drop b a out)
    ∙ sym (append_assoc p w (drop (a + b) out))

pub plans_snoc : (ls : List Line) (l : Line) → plans_for (ls ++ (l ∷ [])) ≡ plans_for ls ++ (l.leader_plan ++ l.follower_plan)
unfolding plans_for
plans_snoc [] l = ap (λ (p : List ℕ). l.leader_plan ++ p) (append-nil l.follower_plan)
plans_snoc (x ∷ ls) l =
    let new = l.leader_plan ++ l.follower_plan in
    ap (λ (p : List ℕ). x.leader_plan ++ (x.follower_plan ++ p)) (plans_snoc ls l)
    ∙ sym (ap (λ (p : List ℕ). x.leader_plan ++ p) (append_assoc x.follower_plan (plans_for ls) new))
    ∙ sym (append_assoc x.leader_plan (x.follower_plan ++ plans_for ls) new)
