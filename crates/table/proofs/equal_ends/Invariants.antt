-- What the links passed say, or the test of the rest, is the test of the whole table.
use Rattle.std.proofs.Common.{◌≡◌, ◌||◌, ◌*◌}
use lib.ListN.{drop}
use Rattle.table.specs.Table.{equal_ends}
use Rattle.table.proofs.equal_ends.Given as goal

abbrev pub invariant-loop-j : goal.invariant-loop-j
invariant-loop-j l = equal_ends l.table ≡ (l.equal || equal_ends (drop (2 * l.j) l.table))
