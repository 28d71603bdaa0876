-- The search of the rest, with the marks of the links passed, is the search of the whole table.
use Rattle.std.proofs.Common.{◌≡◌, ◌*◌}
use lib.ListN.{drop}
use Rattle.table.specs.Marks.{place_as, found_from}
use Rattle.table.proofs.marks.found.Given as goal

abbrev pub invariant-loop-j : goal.invariant-loop-j
invariant-loop-j l =
    found_from (place_as l.ordered) l.initial.marks l.table
    ≡ found_from (place_as l.ordered) l.marks (drop (2 * l.j) l.table)
