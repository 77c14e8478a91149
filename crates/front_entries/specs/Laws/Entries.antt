-- Entries stored one after another, and the rows cleared then.
use Rattle.std.specs.Prelude.{◌≡◌, refl, List, [], ◌∷◌, ◌++◌, map, ℕ, zero, suc, ◌+◌, ◌≤◌, ◌<◌, length, get_or, set, take, drop, replicate}
use Rattle.std.proofs.Common.{sym, ap, ◌∙◌, append_assoc, add-one, arith, length-take, take-suc, drop-cons, take_all}
use Rattle.std.proofs.lemmas.List.{map-append, length-map, set_at}
use Rattle.outcome.specs.declared.Entry.{Entry}
use Rattle.rows.specs.Cleared.{everywhere}
use Rattle.pareto.specs.Front.{Line}
use Rattle.pareto.specs.Layout.{entry_for}
use Rattle.front_lines.specs.Lines.{line_number}
use Rattle.front_entries.specs.Entries.{rows_left}

module _ (lines : List Line) (es : List Entry) where
  -- the entries of the first k lines are stored, and the others are as they were
  abbrev pub stored : ℕ → List Entry
  stored k = map entry_for (take k lines) ++ drop k es

  -- the entry of one line more
  pub stored_more : {es' : List Entry} (k : ℕ) (e : Entry) → es' ≡ stored k → e ≡ entry_for (line_number lines k) → k < length lines → k < length es
      → set es' k e ≡ stored (k + 1)
  stored_more k e now is h l =
      let this = line_number lines k in
      let long : length (map entry_for (take k lines)) ≡ k = length-map (take k lines) entry_for ∙ length-take k lines ∙ omega arith in
      let cut = drop-cons es k (entry_for this) l in
      let next : take (suc k) lines ≡ take k lines ++ (this ∷ []) = take-suc lines k _ h in
      rw (now, is, add-one k, cut, next, map-append entry_for (take k lines) (this ∷ []))
      (set_at (map entry_for (take k lines)) (get_or es k (entry_for this)) (drop (suc k) es) (entry_for this) k long
      ∙ sym (append_assoc (map entry_for (take k lines)) (entry_for this ∷ []) (drop (suc k) es)))

  -- of all lines
  pub stored_all : (k n : ℕ) → k ≡ n → length lines ≡ n → stored k ≡ map entry_for lines ++ drop n es
  stored_all k n e l = rw e (ap (λ (ls : List Line). map entry_for ls ++ drop n es) (take_all n lines (omega arith)))

-- no lines, nothing cleared
pub none_left : (R : List (List ℕ)) (n : ℕ) → n ≤ 0 → rows_left R n ≡ R
unfolding rows_left
none_left R zero h = refl
none_left R (suc n) h = absurd (omega arith)

pub left_cleared : (R : List (List ℕ)) (n : ℕ) → 1 ≤ n → rows_left R n ≡ everywhere (replicate 8 0) R
unfolding rows_left
left_cleared R zero h = absurd (omega arith)
left_cleared R (suc n) h = refl
