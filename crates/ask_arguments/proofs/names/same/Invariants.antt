-- Byte by byte.
use mathlib.Core.Path.{◌≡◌}
use Prim.Native.Nat.{◌-◌, ◌≤◌}
use lib.ListN.{length, drop}
use Rattle.ask_arguments.specs.Arguments.{same}
use Rattle.ask_arguments.proofs.names.same.Given as goal

abbrev pub invariant-loop-i : goal.invariant-loop-i
invariant-loop-i l =
    (l.i ≤ length l.word) × (same l.word l.name ≡ same (drop l.i l.word) (drop l.i l.name))
