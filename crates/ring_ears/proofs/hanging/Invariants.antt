-- Unit by unit.
use mathlib.Core.Path.{◌≡◌}
use Prim.Native.Nat.{◌+◌, ◌-◌}
use lib.ListN.{length}
use Rattle.theory_ears.specs.Steps.{hanging}
use Rattle.ring_ears.proofs.hanging.Given as goal

abbrev pub invariant-loop-k : goal.invariant-loop-k
invariant-loop-k l =
    length (hanging l.limit l.parent l.pos l.v) ≡ l.k + length (hanging (l.limit - l.k) l.parent l.pos l.u)
