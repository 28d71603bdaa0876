-- Unit by unit, until all stand or none may stand next.
use mathlib.Core.Path.{◌≡◌}
use lib.ListN.{length}
use Rattle.lifting_order.specs.Standing.{Growing}
use Rattle.lifting_order.proofs.growth.grown.Given as goal

abbrev pub invariant-loop-left : goal.invariant-loop-left
invariant-loop-left l =
    (length l.order ≡ 256) × Growing l.units l.ends l.pairs l.order l.near l.wait l.left
