-- One walk over all lines: the ends and levels of the links passed are laid down, and the rest is as it was.
use Rattle.std.proofs.Common.{◌-◌, length}
use Rattle.file_read.specs.Walk.{Filled}
use Rattle.file_read.proofs.reader.fill.Given as goal

abbrev pub invariant-loop-at : goal.invariant-loop-at
invariant-loop-at l = Filled l.file l.initial.words l.words l.initial.levels l.levels l.at l.n

abbrev pub decreases-loop-at : goal.decreases-loop-at
decreases-loop-at l = length l.file - l.at
