-- The plan numbers that the text is made of.
use Rattle.std.specs.Prelude.{◌≡◌, List, ◌++◌, ℕ}
use Rattle.pareto.specs.Front.{Line}
use Rattle.pareto.specs.Layout.{plans_for}

-- the plans of the lines come first
abbrev pub PlansFirst : List Line → List ℕ → Type 0
PlansFirst lines plans = (beyond : List ℕ) × (plans ≡ plans_for lines ++ beyond)
