-- The plans of lines, written one after another.
use Rattle.std.specs.Prelude.{◌≡◌, List, ◌++◌, ℕ, ◌≤◌, length, take, drop}
use Rattle.pareto.specs.Front.{Line}
use Rattle.pareto.specs.Layout.{plans_for}

-- the plans of the first k lines are written, up to the place `at`
pub record Written (lines : List Line) (out out' : List ℕ) (at k : ℕ) : Type 0 where
  pub passed : k ≤ length lines
  pub place : at ≡ length (plans_for (take k lines))
  pub size : length out' ≡ length out
  pub text : out' ≡ plans_for (take k lines) ++ drop at out
