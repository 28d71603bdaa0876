-- Digit by digit.
use Rattle.std.proofs.Common.{◌-◌, ◌≤◌}
use Rattle.file_read.specs.Marks.{MarksBelow}
use Rattle.file_read.proofs.marks.made.Given as goal

abbrev pub invariant-loop-d : goal.invariant-loop-d
invariant-loop-d l = (l.d ≤ 16) × MarksBelow l.d l.t

abbrev pub decreases-loop-d : goal.decreases-loop-d
decreases-loop-d l = 16 - l.d
