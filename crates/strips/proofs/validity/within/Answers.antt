-- `strips::validity::within` meets its contract.
use Rattle.std.proofs.Common.{rules}
use native.Mathlib.Nat.{lt_of_lt_of_le}
use lib.Pow.{pow_mono}
use Rattle.strips.specs.Laws.Validity.{within_shift}
use Rattle.strips.proofs.validity.within.Goals as goal

pub returns-then-facts-ge-MAX_FACTS : goal.returns-then-facts-ge-MAX_FACTS
returns-then-facts-ge-MAX_FACTS c =
    let few = lt_of_lt_of_le c.ranges.set.fits (pow_mono c.if-facts-ge-MAX_FACTS.true) in
    search rules

pub returns-else-facts-ge-MAX_FACTS : goal.returns-else-facts-ge-MAX_FACTS
returns-else-facts-ge-MAX_FACTS c = within_shift _ _
