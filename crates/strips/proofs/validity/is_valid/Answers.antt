-- `strips::validity::is_valid` meets its contract.
use Rattle.std.proofs.Common.{rules}
use Rattle.strips.specs.Laws.Decision.{says_when}
use Rattle.strips.proofs.validity.is_valid.Goals as goal

pub returns-then-places_obey : goal.returns-then-places_obey
returns-then-places_obey c = says_when _ (search rules)

pub returns-else-places_obey : goal.returns-else-places_obey
returns-else-places_obey c = says_when _ (search rules)
