-- The marks of the rest, after the links passed, are the marks of the whole table.
use Rattle.std.proofs.Common.{◌≡◌, ◌*◌}
use lib.ListN.{drop}
use Rattle.table.specs.Seen.{ends_seen}
use Rattle.table.proofs.seen.mark_ends.Given as goal

abbrev pub invariant-loop-j : goal.invariant-loop-j
invariant-loop-j l = ends_seen l.initial.marks l.table ≡ ends_seen l.marks (drop (2 * l.j) l.table)
