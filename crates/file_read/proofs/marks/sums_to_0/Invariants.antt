-- The sum and the marks so far, with those of the characters from `i` on, are the sum and the marks of all.
use Rattle.std.proofs.Common.{◌≡◌, ◌+◌, ◌-◌, ◌%◌, ◌<◌, ◌≤◌, ◌&&◌, ltb, length, drop}
use Rattle.file_frames.specs.Frame.{sum_of, bytes_of, all_digits}
use Rattle.file_read.proofs.marks.sums_to_0.Given as goal

abbrev pub invariant-loop-i : goal.invariant-loop-i
invariant-loop-i l =
    (l.i ≤ length l.s)
    × (l.i % 2 ≡ 0)
    × (l.sum < 256)
    × ((l.sum + sum_of (bytes_of (drop l.i l.s))) % 256 ≡ sum_of (bytes_of l.s) % 256)
    × (all_digits l.s ≡ (ltb l.seen 16 && all_digits (drop l.i l.s)))

abbrev pub decreases-loop-i : goal.decreases-loop-i
decreases-loop-i l = length l.s - l.i
