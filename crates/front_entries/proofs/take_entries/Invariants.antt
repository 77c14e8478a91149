-- `front_entries::take_entries` meets its contract. The loop's invariant: the entries of the lines passed are stored.
use Rattle.std.proofs.Common.{◌≡◌}
use Rattle.front_entries.specs.Laws.Entries.{stored}
use Rattle.front_entries.proofs.take_entries.Given as goal

abbrev pub invariant-loop-k : goal.invariant-loop-k
invariant-loop-k l = l.entries ≡ stored l.lines l.initial.entries l.k
