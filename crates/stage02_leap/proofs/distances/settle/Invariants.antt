-- Unit by unit, from the tables as they were.
use Rattle.std.proofs.Common.{◌≡◌, length}
use Rattle.base_lists.specs.Folds.{some}
use Rattle.base_lists.specs.Tables.{over}
use Rattle.spec_rules.specs.Basics.{at}
use Rattle.stage02_leap.specs.Goal.{parent_from}
use Rattle.stage02_leap.specs.Nearer.{strays_at}
use Rattle.stage02_leap.proofs.distances.settle.Given as goal

abbrev pub invariant-loop-v : goal.invariant-loop-v
invariant-loop-v l =
    (length l.new_parent ≡ 256)
    × (length l.new_dist ≡ 256)
    × (l.new_parent ≡ over l.v (parent_from l.made l.far l.cand l.parent) l.parent)
    × (l.new_dist ≡ over l.v (at l.far) l.dist)
    × (l.stray ≡ some l.v (strays_at l.made l.last l.far l.cand l.dist))
