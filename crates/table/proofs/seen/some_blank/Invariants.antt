-- What the marks passed say is the test of as many marks.
use Rattle.std.proofs.Common.{◌≡◌}
use Rattle.table.specs.Seen.{some_blank}
use Rattle.table.proofs.seen.some_blank.Given as goal

abbrev pub invariant-loop-v : goal.invariant-loop-v
invariant-loop-v l = some_blank l.v l.marks ≡ l.blank
