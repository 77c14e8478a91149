-- The bytes of the text, counted line by line.
use Rattle.std.specs.Prelude.{◌≡◌, List, [], ◌∷◌, ◌++◌, ℕ, ◌+◌, ◌*◌, ◌≤◌, ◌<◌, length, take, drop}
use Rattle.std.proofs.Common.{sym, ap, ◌∙◌, add-one, arith, take_at, take_all}
use Rattle.std.proofs.Math.Seq.{take-suc}
use Rattle.outcome.specs.declared.Entry.{Entry}
use Rattle.pareto.specs.Front.{Line}
use Rattle.pareto.specs.Layout.{entry_for}
use Rattle.planner.specs.Reading.{Reading}
use Rattle.front_lines.specs.Lines.{line_of, line_number}
use Rattle.report_text.specs.Entries.{entry_bytes}
use Rattle.report_text.specs.Report.{plan_text, line_text, lines_text, head_text, report_text}
use Rattle.report_text.specs.Laws.Sizes.{line_bytes, lines_none, lines_more, report_length}
use Rattle.report.specs.Inner.Bytes.{max_line_bytes}

-- a plan that was written to the front of a slice
pub plan_taken : (p plan out : List ℕ) (n : ℕ) → out ≡ p ++ drop n plan → n ≡ length p → take n out ≡ p
plan_taken p plan out n e l = ap (take n) e ∙ take_at p (drop n plan) n (sym l)

-- the entry and both plans of a row make its line
pub line_counted : (r : Reading) {l : Line} (e : Entry) {numbers leader follower : ℕ} {plan₁ plan₂ : List ℕ}
    → line_of r ≡ l → e ≡ entry_for l → numbers ≡ entry_bytes e
    → plan₁ ≡ r.leader_plan → leader ≡ length (plan_text plan₁) → plan₂ ≡ r.follower_plan → follower ≡ length (plan_text plan₂)
    → numbers + leader + follower ≡ length (line_text l)
line_counted r {l} e line is n p lp q lq =
    let size = λ (x : List ℕ). length (plan_text x) in
    omega (arith, n, line_bytes e l is, lp, lq, ap size (p ∙ ap (λ (x : Line). x.leader_plan) line), ap size (q ∙ ap (λ (x : Line). x.follower_plan) line))

lines_snoc : (ls : List Line) (l : Line) → length (lines_text (ls ++ (l ∷ []))) ≡ length (lines_text ls) + length (line_text l)
lines_snoc [] l = omega (arith, lines_more l [], lines_none)
lines_snoc (m ∷ ls) l = omega (arith, lines_more m (ls ++ (l ∷ [])), lines_more m ls, lines_snoc ls l)

module _ (lines : List Line) where
  -- the first printed line and k lines are counted
  pub record Counted (total k : ℕ) : Type 0 where
    pub passed : k ≤ length lines
    pub few : total ≤ max_line_bytes + k * max_line_bytes
    pub bytes : total ≡ length (head_text (length lines)) + length (lines_text (take k lines))

  pub counted_start : (total : ℕ) → total ≡ length (head_text (length lines)) → total ≤ 19 → Counted total 0
  counted_start total e h = record { passed = omega arith; few = omega arith; bytes = omega (arith, e, lines_none) }

  pub counted_more : {total n k : ℕ} → Counted total k → k < length lines → n ≤ max_line_bytes → n ≡ length (line_text (line_number lines k))
      → Counted (total + n) (k + 1)
  counted_more {k = k} c h small line =
      let next : take (k + 1) lines ≡ take k lines ++ (line_number lines k ∷ []) = rw (add-one k) (take-suc lines k _ h) in
      record {
        passed = omega arith;
        few = omega (arith, c.few);
        bytes = omega (arith, c.bytes, line, ap (λ (ls : List Line). length (lines_text ls)) next, lines_snoc (take k lines) (line_number lines k));
      }

  pub counted_end : {total k : ℕ} → Counted total k → length lines ≤ k → total ≡ length (report_text lines)
  counted_end {k = k} c h = omega (arith, c.bytes, ap (λ (ls : List Line). length (lines_text ls)) (take_all k lines h), report_length lines)
