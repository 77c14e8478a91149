-- `questions::workspace::places` meets its contract.
use Rattle.std.proofs.Common.{rules, [], ◌∷◌, refl, arith, All, IsTrue, ◌↔◌, ◌≤◌, ◌<◌}
use Rattle.questions.specs.Size.{shortest, capacity}
use Rattle.questions.specs.Laws.Size.{Allowed, all_sizes, sizes_all, capacity_none, capacity_some}
use Rattle.questions.proofs.workspace.places.Goals as goal

pub returns-then-not-all : goal.returns-then-not-all
returns-then-not-all c =
    let sizes = c.args.states ∷ c.args.index ∷ c.args.links ∷ c.args.rows ∷ [] in
    let asked : IsTrue c.all.result ↔ All Allowed sizes = search rules in
    let none : 1 ≤ capacity sizes → ⊥ = λ h. search (rules, asked.1 (all_sizes sizes (capacity_some sizes refl h).0)) in
    (omega (arith, none), refl)

pub returns : goal.returns
unfolding shortest
returns c =
    let sizes = c.args.states ∷ c.args.index ∷ c.args.links ∷ c.args.rows ∷ [] in
    let asked : All Allowed c.iter.result.rest.now = search rules in
    let all = rw c.iter.ensures.rest at asked in
    let some : 1 ≤ capacity sizes = omega (arith, λ (h : capacity sizes < 1). capacity_none sizes refl h (sizes_all sizes all)) in
    let last = all 3 0 (omega arith) in
    let least = (capacity_some sizes refl some).1 in
    (omega arith, omega arith)
