-- A value gone over byte by byte: where a byte ends its line, and where one shows that question 4 gets no.
use Rattle.std.specs.Prelude.{◌≡◌, refl, List, [], ◌∷◌, ◌++◌, ◌⊎◌, ℕ, ◌+◌, ◌-◌, ◌≤◌, ◌<◌, length, get_or, take, drop}
use Rattle.std.proofs.Common.{inl, inr, ⊎_elim, sym, ap, ◌∙◌, arith, rules, add-one}
use Rattle.std.proofs.Common.{take_all, length-drop, drop_of_length-le, drop-cons, append-nil, append_assoc}
use Rattle.std.proofs.lemmas.List.{take_more}
use Rattle.task_format.specs.Limits.{max_digits}
use Rattle.task_format.specs.Text.{newline, comma, push, parts, first_line, behind_line}
use Rattle.task_format.specs.Value.{All, IsDigit, Short, InForm}
use Rattle.task_format.specs.Laws.Text.{Plain, parts_some, split_at, split_more, first_ends, first_more}
use Rattle.task_format.specs.declared.Kind.{Kind}
use Rattle.task_format.specs.declared.Kind.TheVariants.{Number, FactList}
use Rattle.task_reader.specs.Cut.{Adds, Goes, Cutting}

-- ---- the first line behind a key

pub first_behind : (key t : List ℕ) → Plain key → (first_line (key ++ t) ≡ key ++ first_line t) × (behind_line (key ++ t) ≡ behind_line t)
first_behind [] t p = (refl, refl)
first_behind (b ∷ key) t p =
    let more = first_more b (key ++ t) p.0 in
    let r = first_behind key t p.1 in
    (more.0 ∙ ap (λ u. b ∷ u) r.0, more.1 ∙ r.1)

-- ---- a value that gets a yes to question 4

goes_number : (low high n : ℕ) (v : List ℕ) → All IsDigit v → n + length v ≤ max_digits → Goes (Number low high) n v
unfolding Goes
goes_number low high n [] a h = search rules
goes_number low high n (b ∷ v) a h = (n + 1, inl (a.0, omega (arith, h), refl), goes_number low high (n + 1) v a.1 (omega (arith, h)))

-- the first part goes on behind n digits
abbrev FirstShort : ℕ → List (List ℕ) → Type 0
FirstShort n [] = Unit {0}
FirstShort n (p ∷ ps) = (n + length p ≤ max_digits) × All Short ps

first_short : (ps : List (List ℕ)) → All Short ps → FirstShort 0 ps
first_short [] a = search rules
first_short (p ∷ ps) a = (omega (arith, a.0), a.1)

goes_list : (most n : ℕ) (v : List ℕ) → All (λ b. IsDigit b ⊎ (b ≡ comma)) v → FirstShort n (parts v) → Goes (FactList most) n v
unfolding Goes
goes_list most n [] a f = search rules
goes_list most n (b ∷ v) a f =
    ⊎_elim
    (λ (d : IsDigit b).
    let r = parts_some v in
    let more : parts (b ∷ v) ≡ push b (parts v) = split_more comma ([] ∷ []) b v (λ e. omega (arith, d, e)) in
    let g : FirstShort n ((b ∷ r.first) ∷ r.others) = rw r.are at (rw more at f) in
    (n + 1, inl (d, omega (arith, g.0), refl), goes_list most (n + 1) v a.1 (rw r.are (omega (arith, g.0), g.1))))
    (λ (e : b ≡ comma).
    let g : FirstShort n ([] ∷ parts v) = rw (split_at comma ([] ∷ []) b v e) at f in
    (0, inr (e, search rules, refl), goes_list most 0 v a.1 (first_short (parts v) g.1)))
    a.0

goes_form : (kind : Kind) (v : List ℕ) → InForm kind v → Goes kind 0 v
unfolding InForm
goes_form (Number low high) v f = goes_number low high 0 v f.0.0 (omega (arith, f.0.1))
goes_form (FactList most) v f = goes_list most 0 v f.0 (first_short (parts v) f.1)

-- ---- the loop over the bytes

-- a byte leaves one number of digits
adds_same : (kind : Kind) {n b m m' : ℕ} → Adds kind n b m → Adds kind n b m' → m ≡ m'
adds_same kind a a' = grind arith

pub cutting_start : (kind : Kind) (text : List ℕ) → Cutting kind text 0 0
cutting_start kind text = record { line = refl; behind = refl; goes = goes_form kind (first_line text) }

module _ {kind : Kind} {text : List ℕ} {i n : ℕ} (c : Cutting kind text i n) where
  pub cut_all : length text ≤ i → (text ≡ first_line text) × (take (length text - length text) (drop (length text) text) ≡ behind_line text)
  cut_all h =
      let end = drop_of_length-le text h in
      let none : length text - length text ≡ 0 = omega arith in
      let line = rw (end, take_all i text h) at c.line in
      (sym (append-nil text) ∙ sym line, rw none (sym (rw end at c.behind)))

  module _ (h : i < length text) where
    abbrev pub byte : ℕ
    byte = get_or text i 0

    abbrev pub rest : List ℕ
    rest = drop (i + 1) text

    here : drop i text ≡ byte ∷ rest
    here = rw (add-one i) (drop-cons text i 0 h)

    pub cut_here : byte ≡ newline → (take i text ≡ first_line text) × (take (length text - (i + 1)) rest ≡ behind_line text)
    cut_here e =
        let ends = first_ends byte rest e in
        let line = rw (here, ends.0) at c.line in
        let whole = take_all (length text - (i + 1)) rest (omega (arith, length-drop (i + 1) text)) in
        (sym (append-nil (take i text)) ∙ sym line, whole ∙ sym (rw (here, ends.1) at c.behind))

    pub adds_plain : (m : ℕ) → Adds kind n byte m → byte ≡ newline → ⊥
    adds_plain m a e = ⊎_elim (λ x. omega (arith, x.0, e)) (λ x. omega (arith, x.0, e)) a

    module _ (plain : byte ≡ newline → ⊥) where
      goes_on : InForm kind (first_line text) → Goes kind n (byte ∷ first_line rest)
      goes_on f = rw (here, (first_more byte rest plain).0) at (c.goes f)

      pub cut_more : (m : ℕ) → Adds kind n byte m → Cutting kind text (i + 1) m
      unfolding Goes
      cut_more m a =
          let more = first_more byte rest plain in
          let on : Goes kind n (byte ∷ first_line rest) → Goes kind m (first_line rest) = λ g. rw (adds_same kind a g.1) g.2 in
          record {
            line = rw (here, more.0) at c.line ∙ sym (rw (take_more text i 0 h) (append_assoc (take i text) (byte ∷ []) (first_line rest)));
            behind = rw (here, more.1) at c.behind;
            goes = λ f. on (goes_on f);
          }

      pub cut_not : ((m : ℕ) → Adds kind n byte m → ⊥) → InForm kind (first_line text) → ⊥
      unfolding Goes
      cut_not none f = let g = goes_on f in none g.0 g.1
