-- Texts split at a byte and joined again.
use Rattle.std.specs.Prelude.{◌≡◌, refl, List, [], ◌∷◌, ◌++◌, ◌⊎◌, ℕ, ◌<◌, eqb, length}
use Rattle.std.proofs.Common.{sym, ap, ◌∙◌, append_assoc, inl, inr, ⊎_elim, arith, length-append, ne_eqb, eqb-true}
use Rattle.strips.specs.Choice.{pick}
use Rattle.task_format.specs.Text.{newline, comma, push, split, lines, parts}
use Rattle.strips.specs.Laws.Choice.{by_test, either}
use Rattle.task_format.specs.Laws.Text.{split_at, split_more, parts_some}
use Rattle.task_format.specs.Laws.Decimal.{Without}

-- ---- what is joined is split

pub split_join : (c : ℕ) (end : List (List ℕ)) (v t : List ℕ) → Without c v → split c end (v ++ c ∷ t) ≡ v ∷ split c end t
split_join c end [] t w = split_at c end c t refl
split_join c end (b ∷ v) t w = split_more c end b (v ++ c ∷ t) w.0 ∙ ap (push b) (split_join c end v t w.1)

pub parts_one : (v : List ℕ) → Without comma v → parts v ≡ v ∷ []
unfolding split
parts_one [] w = refl
parts_one (b ∷ v) w = rw (ne_eqb b comma w.0) (ap (push b) (parts_one v w.1))

-- ---- what is split is joined

-- parts behind the first, each behind its comma
abbrev pub tail : List (List ℕ) → List ℕ
tail [] = []
tail (p ∷ ps) = comma ∷ p ++ tail ps

abbrev pub joined : List (List ℕ) → List ℕ
joined [] = []
joined (p ∷ ps) = p ++ tail ps

pub parts_joined : (v : List ℕ) → v ≡ joined (parts v)
unfolding split
parts_joined [] = refl
parts_joined (b ∷ v) =
    let p = parts_some v in
    let r : v ≡ p.first ++ tail p.others = parts_joined v ∙ ap joined p.are in
    either (eqb b comma)
    (λ q. rw q (rw p.are (ap (λ (x : ℕ). x ∷ v) (eqb-true b comma q) ∙ ap (λ (u : List ℕ). comma ∷ u) r)))
    (λ q. rw q (rw p.are (ap (λ (u : List ℕ). b ∷ u) r)))

-- lines, each with its newline
unfoldable pub ended : List (List ℕ) → List ℕ
ended [] = []
ended (l ∷ ls) = l ++ newline ∷ ended ls

-- a text is its lines, each with its newline but perhaps the last
abbrev pub Ends : List ℕ → List (List ℕ) → Type 0
Ends text ls = (text ≡ ended ls) ⊎ (text ++ (newline ∷ []) ≡ ended ls)

no_more : (u : List ℕ) → u ++ (newline ∷ []) ≡ [] → ⊥
no_more u e = let z = ap length e in omega (arith, z, length-append u (newline ∷ []))

pushed : (b : ℕ) (t : List ℕ) (ls : List (List ℕ)) → Ends t ls → Ends (b ∷ t) (push b ls)
unfolding ended
pushed b t [] e = ⊎_elim (λ w. inr (ap (λ (u : List ℕ). b ∷ (u ++ (newline ∷ []))) w)) (λ w. absurd (no_more t w)) e
pushed b t (l ∷ ls) e = ⊎_elim (λ w. inl (ap (λ (u : List ℕ). b ∷ u) w)) (λ w. inr (ap (λ (u : List ℕ). b ∷ u) w)) e

pub lines_ended : (text : List ℕ) → Ends text (lines text)
unfolding split ended
lines_ended [] = inl refl
lines_ended (b ∷ t) =
    let r = lines_ended t in
    by_test (Ends (b ∷ t)) (eqb b newline) _ _
    (λ q. let e = eqb-true b newline q in
    ⊎_elim
    (λ w. inl (ap (λ (x : ℕ). x ∷ t) e ∙ ap (λ (u : List ℕ). newline ∷ u) w))
    (λ w. inr (ap (λ (x : ℕ). x ∷ (t ++ (newline ∷ []))) e ∙ ap (λ (u : List ℕ). newline ∷ u) w))
    r)
    (λ q. pushed b t (lines t) r)

-- ---- the last newline

-- a text that ends in a byte other than a newline has the same lines with one
pub lines_cut : (w : List ℕ) (b : ℕ) → (b ≡ newline → ⊥) → lines ((w ++ (b ∷ [])) ++ (newline ∷ [])) ≡ lines (w ++ (b ∷ []))
unfolding split
lines_cut [] b n = rw (ne_eqb b newline n)
lines_cut (a ∷ w) b n = ap (λ (ls : List (List ℕ)). pick (eqb a newline) ([] ∷ ls) (push a ls)) (lines_cut w b n)

-- a text ends in a byte that is no newline
pub record Last (v : List ℕ) : Type 0 where
  pub front : List ℕ
  pub byte : ℕ
  pub is : v ≡ front ++ (byte ∷ [])
  pub plain : byte ≡ newline → ⊥

pub last_of : (v : List ℕ) → 0 < length v → Without newline v → Last v
last_of [] h w = absurd (omega arith)
last_of (b ∷ []) h w = record { front = []; byte = b; is = refl; plain = w.0 }
last_of (b ∷ (a ∷ v)) h w =
    let r = last_of (a ∷ v) (omega arith) w.1 in
    record { front = b ∷ r.front; byte = r.byte; is = ap (λ (u : List ℕ). b ∷ u) r.is; plain = r.plain }

pub last_behind : (a v : List ℕ) → Last v → Last (a ++ v)
last_behind a v l =
    record {
      front = a ++ l.front;
      byte = l.byte;
      is = ap (λ (u : List ℕ). a ++ u) l.is ∙ sym (append_assoc a l.front (l.byte ∷ []));
      plain = l.plain;
    }

-- two texts are equal where they are with one byte more
pub cancel : (u v : List ℕ) (x : ℕ) → u ++ (x ∷ []) ≡ v ++ (x ∷ []) → u ≡ v
cancel [] [] x e = refl
cancel [] (b ∷ v) x e = absurd (let z = ap length e in omega (arith, z, length-append v (x ∷ [])))
cancel (a ∷ u) [] x e = absurd (let z = ap length e in omega (arith, z, length-append u (x ∷ [])))
cancel (a ∷ u) (b ∷ v) x e =
    let h : a ≡ b = cc in
    let r : u ++ (x ∷ []) ≡ v ++ (x ∷ []) = cc in
    let q = cancel u v x r in
    cc
