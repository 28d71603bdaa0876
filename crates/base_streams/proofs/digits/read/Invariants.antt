-- Digit by digit.
use mathlib.Core.Path.{◌≡◌}
use Prim.Native.Nat.{◌+◌, ◌-◌}
use lib.ListN.{length, drop}
use Rattle.base_streams.specs.Stream.{value_of, width}
use Rattle.base_streams.proofs.digits.read.Given as goal

abbrev pub invariant-loop-value : goal.invariant-loop-value
invariant-loop-value l =
    (value_of 0 (drop l.at l.stream) ≡ value_of l.value (drop l.end l.stream))
    × (l.at + width 0 (drop l.at l.stream) ≡ l.end + width l.value (drop l.end l.stream))

abbrev pub decreases-loop-value : goal.decreases-loop-value
decreases-loop-value l = length l.stream - l.end
