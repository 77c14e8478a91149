-- The lines that entries and plan numbers say.
use Rattle.std.specs.Prelude.{◌≡◌, ℕ, length, take, drop}
use Rattle.std.proofs.Math.Path.{refl, sym, ap}
use Rattle.std.proofs.Common.{◌∙◌, drop_at}
use mathlib.Core.List.{List, ◌++◌}
use Rattle.std.proofs.Math.Seq.{take_at}
use Rattle.outcome.specs.declared.Entry.{Entry}
use Rattle.pareto.specs.Front.{Line}
use Rattle.pareto.specs.Layout.{entry_for}
use Rattle.report_text.specs.Entries.{line_of, line_from}
use Rattle.report_text.specs.Laws.Sizes.{entry_line}

module _ (l : Line) where
  pub leader_steps : (entry_for l).leader_steps ≡ length l.leader_plan
  unfolding entry_for
  leader_steps = refl

  pub follower_steps : (entry_for l).follower_steps ≡ length l.follower_plan
  unfolding entry_for
  follower_steps = refl

  -- the line of its entry, where its plans come first
  pub line_from_lem : (e : Entry) → e ≡ entry_for l → (others : List ℕ) → line_from e (l.leader_plan ++ (l.follower_plan ++ others)) ≡ l
  unfolding line_from
  line_from_lem e is others =
      let first = sym (ap (λ (x : Entry). x.leader_steps) is ∙ leader_steps) in
      let second = sym (ap (λ (x : Entry). x.follower_steps) is ∙ follower_steps) in
      ap (λ (p : List ℕ). line_of e p (take e.follower_steps (drop e.leader_steps (l.leader_plan ++ (l.follower_plan ++ others)))))
      (take_at l.leader_plan (l.follower_plan ++ others) e.leader_steps first)
      ∙ ap (λ (q : List ℕ). line_of e l.leader_plan q)
      (ap (take e.follower_steps) (drop_at l.leader_plan (l.follower_plan ++ others) e.leader_steps first)
      ∙ take_at l.follower_plan others e.follower_steps second)
      ∙ entry_line e l is
