-- The sum so far, with what the bytes from `i` on add, is the sum of all.
use Rattle.std.proofs.Common.{◌≡◌, ◌+◌, ◌%◌, ◌<◌, ◌≤◌, length, drop}
use Rattle.file_frames.specs.Frame.{sum_of}
use Rattle.file_frames.proofs.check.sum.Given as goal

abbrev pub invariant-loop-b : goal.invariant-loop-b
invariant-loop-b l =
    (l.b-index ≤ length l.f) × (l.sum < 256) × ((l.sum + sum_of (drop l.b-index l.f)) % 256 ≡ sum_of l.f % 256)
