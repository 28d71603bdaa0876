-- One walk over all lines; then each return is the first cause: the tests passed on the way fail, and the last one
-- holds.
use Rattle.std.proofs.Common.{◌-◌, length}
use Rattle.file_read.specs.Walk.{Walked}
use Rattle.file_read.proofs.reader.refusal.Given as goal

abbrev pub invariant-loop-at : goal.invariant-loop-at
invariant-loop-at l = Walked l.file l.at l.order l.links l.last l.outside

abbrev pub decreases-loop-at : goal.decreases-loop-at
decreases-loop-at l = length l.file - l.at
