-- `strips::validity::places_obey` meets its contract.
use Rattle.std.specs.Prelude.{◌≡◌, ◌↔◌, ◌≤◌, All, IsTrue, length, take, drop}
use Rattle.std.proofs.Common.{rules}
use Rattle.strips.specs.Task.{idle, Proper}
use Rattle.strips.specs.Laws.Decision.{iff_trans}
use Rattle.strips.specs.Laws.Validity.{places_split}
use Rattle.strips.proofs.validity.places_obey.Goals as goal

pub returns-then-all : goal.returns-then-all
returns-then-all c =
    let proper : All (Proper c.args.facts) (take c.args.count c.args.places.now) = search rules in
    let unused : IsTrue c.all-then-all.result ↔ All (λ a. a ≡ idle) (drop c.args.count c.args.places.now) = search rules in
    let room : c.args.count ≤ length c.args.places.now = search rules in
    iff_trans (λ e. (room, proper, unused.0 e), λ a. unused.1 a.2) (places_split c.args.facts c.args.count c.args.places.now)

pub returns-else-all : goal.returns-else-all
returns-else-all c =
    let proper : IsTrue c.all.result ↔ All (Proper c.args.facts) (take c.args.count c.args.places.now) = search rules in
    iff_trans (λ e. absurd (search rules), λ a. proper.1 a.1) (places_split c.args.facts c.args.count c.args.places.now)
