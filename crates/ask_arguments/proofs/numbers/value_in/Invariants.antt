-- Digit by digit.
use mathlib.Core.Path.{◌≡◌}
use Prim.Native.Nat.{◌-◌, ◌≤◌}
use lib.ListN.{length, drop}
use Rattle.ask_arguments.specs.Arguments.{value_in}
use Rattle.ask_arguments.proofs.numbers.value_in.Given as goal

abbrev pub invariant-loop-byte : goal.invariant-loop-byte
invariant-loop-byte l =
    (l.byte-index ≤ length l.word) × (l.value ≤ 65535)
    × (value_in 0 l.word ≡ value_in l.value (drop l.byte-index l.word))
