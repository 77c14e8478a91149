-- The plans of lines: how many steps they have, and that they are written one after another.
use Rattle.std.specs.Prelude.{◌≡◌, ℕ, ◌+◌, ◌-◌, ◌≤◌, ◌<◌, length, take, drop}
use Rattle.std.proofs.Math.Path.{refl, ap}
use Rattle.std.proofs.Common.{sym, ◌∙◌, add-one, arith, length-append, take-suc}
use Rattle.std.proofs.lemmas.List.{take-append-drop}
use mathlib.Core.List.{List, [], ◌∷◌, ◌++◌}
use borrow.Rule.Slice.PartMut.{mid_of, put_mid}
use Rattle.pareto.specs.Front.{Line}
use Rattle.pareto.specs.Layout.{plans_for}
use Rattle.pareto.specs.Laws.Layout.{plans_snoc, written_behind}
use Rattle.front_lines.specs.Lines.{line_number, plans_of}
use Rattle.front_lines.specs.Inner.Plans.{Written}

pub plans_none : plans_for [] ≡ []
unfolding plans_for
plans_none = refl

steps_append : (xs ys : List Line) → length (plans_for (xs ++ ys)) ≡ length (plans_for xs) + length (plans_for ys)
unfolding plans_for
steps_append [] ys = omega arith
steps_append (x ∷ xs) ys = omega (arith, steps_append xs ys, length-append {A = ℕ})

module _ (lines : List Line) where
  plans_more : (k : ℕ) → k < length lines → plans_for (take (k + 1) lines) ≡ plans_for (take k lines) ++ plans_of (line_number lines k)
  plans_more k h = rw add-one (ap plans_for (take-suc lines k _ h)) ∙ plans_snoc (take k lines) (line_number lines k)

  pub steps_more : (k : ℕ) → k < length lines
      → length (plans_for (take (k + 1) lines)) ≡ length (plans_for (take k lines)) + length (plans_of (line_number lines k))
  steps_more k h = ap length (plans_more k h) ∙ length-append (plans_for (take k lines)) (plans_of (line_number lines k))

  -- no more than all
  steps_most : (k : ℕ) → length (plans_for (take k lines)) ≤ length (plans_for lines)
  steps_most k = omega (arith, ap (λ (ls : List Line). length (plans_for ls)) (take-append-drop k lines), steps_append (take k lines) (drop k lines))

  module _ (out : List ℕ) where
    pub written_start : Written lines out out 0 0
    written_start = record { passed = omega arith; place = sym (ap length plans_none); size = refl; text = sym (ap (λ (p : List ℕ). p ++ out) plans_none) }

    module _ {out' : List ℕ} {at k : ℕ} (w : Written lines out out' at k) where
      -- there is room for the next line
      pub line_fits : k < length lines → length (plans_for lines) ≤ length out → at + length (plans_of (line_number lines k)) ≤ length out'
      line_fits h room = omega (arith, w.place, w.size, steps_more k h, steps_most (k + 1))

      pub written_more : (part : List ℕ) (n : ℕ) → k < length lines → at ≤ length out' → n ≡ length (plans_of (line_number lines k))
          → length (put_mid at (length out' - at) out' part) ≡ length out' → part ≡ plans_of (line_number lines k) ++ drop n (mid_of at (length out' - at) out')
          → Written lines out (put_mid at (length out' - at) out' part) (at + n) (k + 1)
      written_more part n h l e same wrote = record {
        passed = omega arith;
        place = omega (arith, w.place, steps_more k h);
        size = same ∙ w.size;
        text = written_behind (plans_for (take k lines)) (plans_of (line_number lines k)) out out' part at n (sym w.place) l w.text wrote
            ∙ ap (λ (p : List ℕ). p ++ drop (at + n) out) (sym (plans_more k h));
      }
