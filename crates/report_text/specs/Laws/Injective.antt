-- Where texts are cut, and different plans have different texts; that different lists of lines have is in proofs/Injective.antt.
use Rattle.std.specs.Prelude.{◌≡◌, refl, ℕ, ◌<◌, length}
use Rattle.std.proofs.Common.{sym, ap, ◌∙◌, arith, length-append}
use mathlib.Core.List.{List, [], ◌∷◌, ◌++◌, append_assoc, head-eq_of_cons-eq, tail-eq_of_cons-eq}
use Rattle.task_format.specs.Text.{newline, comma, zero_digit}
use Rattle.task_format.specs.Lines.{outages_key, moves_key}
use Rattle.task_format.specs.Value.{All, IsDigit}
use Rattle.task_format.specs.Laws.Decimal.{Without, all_append, digits_without}
use Rattle.pareto.specs.Front.{Line}
use Rattle.report_text.specs.Report.{price_key, answer_key, none_word, numeral, further_text, plan_text, answer_text, printed, line_text}
use Rattle.report_text.specs.Laws.Numerals.{numeral_digits, numeral_injective, numeral_some}

-- ---- texts ended by a byte that they do not have

pub record Same (a b x y : List ℕ) : Type 0 where
  pub first : a ≡ b
  pub rest : x ≡ y

cut : (c : ℕ) (a b x y : List ℕ) → Without c a → Without c b → a ++ c ∷ x ≡ b ++ c ∷ y → Same a b x y
cut c [] [] x y p q e = record { first = refl; rest = tail-eq_of_cons-eq e }
cut c [] (j ∷ b) x y p q e = absurd (q.0 (sym (head-eq_of_cons-eq e)))
cut c (i ∷ a) [] x y p q e = absurd (p.0 (head-eq_of_cons-eq e))
cut c (i ∷ a) (j ∷ b) x y p q e =
    let r = cut c a b x y p.1 q.1 (tail-eq_of_cons-eq e) in
    record { first = λ k. head-eq_of_cons-eq e k ∷ r.first k; rest = r.rest }

-- ---- plans

pub numeral_without : (c n : ℕ) → c < zero_digit → Without c (numeral n)
numeral_without c n h = digits_without c h (numeral n) (numeral_digits n)

-- each number before its comma
closed : List ℕ → List ℕ
closed [] = []
closed (n ∷ ns) = numeral n ++ comma ∷ closed ns

further_closed : (ns : List ℕ) → further_text ns ++ (comma ∷ []) ≡ comma ∷ closed ns
unfolding further_text closed
further_closed [] = refl
further_closed (n ∷ ns) = ap (λ (l : List ℕ). comma ∷ l)
    (append_assoc (numeral n) (further_text ns) (comma ∷ []) ∙ ap (λ (l : List ℕ). numeral n ++ l) (further_closed ns))

plan_closed : (n : ℕ) (ns : List ℕ) → plan_text (n ∷ ns) ++ (comma ∷ []) ≡ closed (n ∷ ns)
unfolding plan_text closed
plan_closed n ns = append_assoc (numeral n) (further_text ns) (comma ∷ []) ∙ ap (λ (l : List ℕ). numeral n ++ l) (further_closed ns)

closed_some : (n : ℕ) (ns : List ℕ) → 0 < length (closed (n ∷ ns))
unfolding closed
closed_some n ns = omega (arith, length-append (numeral n) (comma ∷ closed ns))

closed_injective : (ms ns : List ℕ) → closed ms ≡ closed ns → ms ≡ ns
unfolding closed
closed_injective [] [] e = refl
closed_injective [] (n ∷ ns) e = absurd (omega (arith, ap length e, closed_some n ns))
closed_injective (m ∷ ms) [] e = absurd (omega (arith, ap length e, closed_some m ms))
closed_injective (m ∷ ms) (n ∷ ns) e =
    let r = cut comma (numeral m) (numeral n) (closed ms) (closed ns) (numeral_without comma m (omega arith)) (numeral_without comma n (omega arith)) e in
    λ k. numeral_injective m n r.first k ∷ closed_injective ms ns r.rest k

plan_some : (n : ℕ) (ns : List ℕ) → 0 < length (plan_text (n ∷ ns))
unfolding plan_text
plan_some n ns = omega (arith, length-append (numeral n) (further_text ns), numeral_some n)

pub plan_injective : (p q : List ℕ) → plan_text p ≡ plan_text q → p ≡ q
unfolding plan_text
plan_injective [] [] e = refl
plan_injective [] (n ∷ ns) e = absurd (omega (arith, ap length e, plan_some n ns))
plan_injective (m ∷ ms) [] e = absurd (omega (arith, ap length e, plan_some m ms))
plan_injective (m ∷ ms) (n ∷ ns) e =
    closed_injective (m ∷ ms) (n ∷ ns) (sym (plan_closed m ms) ∙ ap (λ (l : List ℕ). l ++ (comma ∷ [])) e ∙ plan_closed n ns)

further_plain : (ns : List ℕ) → Without newline (further_text ns)
unfolding further_text
further_plain [] = tt
further_plain (n ∷ ns) = ((λ e. omega (arith, e)), all_append (λ b. b ≡ newline → ⊥) (numeral n) _ (numeral_without newline n (omega arith)) (further_plain ns))

pub plan_plain : (p : List ℕ) → Without newline (plan_text p)
unfolding plan_text
plan_plain [] = tt
plan_plain (n ∷ ns) = all_append (λ b. b ≡ newline → ⊥) (numeral n) _ (numeral_without newline n (omega arith)) (further_plain ns)

-- ---- answers

pub no_number : (n : ℕ) → numeral n ≡ none_word → ⊥
no_number n e = let d : All IsDigit none_word = rw e at (numeral_digits n) in omega (arith, d.0.1)

-- ---- lines

printed_behind : (key v x : List ℕ) → printed key v ++ x ≡ key ++ (v ++ newline ∷ x)
unfolding printed
printed_behind key v x = append_assoc key (v ++ (newline ∷ [])) x ∙ ap (λ (l : List ℕ). key ++ l) (append_assoc v (newline ∷ []) x)

cancel : (key a b : List ℕ) → key ++ a ≡ key ++ b → a ≡ b
cancel [] a b e = e
cancel (k ∷ key) a b e = cancel key a b (tail-eq_of_cons-eq e)

pub printed_cut : (key v w x y : List ℕ) → Without newline v → Without newline w → printed key v ++ x ≡ printed key w ++ y → Same v w x y
printed_cut key v w x y p q e =
    cut newline v w x y p q (cancel key (v ++ newline ∷ x) (w ++ newline ∷ y) (sym (printed_behind key v x) ∙ e ∙ printed_behind key w y))

-- the text of a line and what follows
pub four : (l : Line) (x : List ℕ) → line_text l ++ x
    ≡ printed price_key (numeral l.price)
    ++ (printed answer_key (answer_text l.answer) ++ (printed outages_key (plan_text l.leader_plan) ++ (printed moves_key (plan_text l.follower_plan) ++ x)))
unfolding line_text
four l x = simp append_assoc

pub line_some : (l : Line) (x : List ℕ) → 0 < length (line_text l ++ x)
line_some l x =
    omega (arith, ap length (four l x ∙ printed_behind price_key (numeral l.price) _))
