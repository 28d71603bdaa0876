-- Unit by unit, from the greatest down.
use mathlib.Core.Path.{◌≡◌}
use Prim.Native.Nat.{◌≤◌}
use lib.ListN.{length}
use Rattle.stage03_tour.specs.Siblings.{Eldest, Later, Past}
use Rattle.stage03_tour.proofs.followers.siblings.scan.Given as goal

abbrev pub invariant-loop-w : goal.invariant-loop-w
invariant-loop-w l =
    (l.w ≤ l.units)
    × (length l.eldest ≡ 256)
    × (length l.later ≡ 256)
    × (length l.past ≡ 256)
    × Eldest 256 l.units l.w l.parent l.eldest
    × Later l.units l.w l.parent l.later
    × Past l.units l.w l.parent l.past
