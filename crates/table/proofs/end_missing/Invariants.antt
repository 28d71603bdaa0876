-- What the ends passed say, or the test of the rest, is the test of the whole table.
use Rattle.std.proofs.Common.{◌≡◌, ◌||◌}
use lib.ListN.{drop}
use Rattle.table.specs.Table.{end_missing}
use Rattle.table.proofs.end_missing.Given as goal

abbrev pub invariant-loop-end : goal.invariant-loop-end
invariant-loop-end l = end_missing l.units l.table ≡ (l.missing || end_missing l.units (drop l.end-index l.table))
