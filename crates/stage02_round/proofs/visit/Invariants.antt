-- Unit by unit, from the tables as they were.
use mathlib.Core.Path.{◌≡◌}
use lib.ListN.{length}
use Rattle.base_lists.specs.Tables.{over}
use Rattle.base_lists.specs.Folds.{some}
use Rattle.spec_rules.specs.TreeLaws.{visits_by, parent_by, dist_by}
use Rattle.stage02_round.proofs.visit.Given as goal

abbrev pub invariant-loop-v : goal.invariant-loop-v
invariant-loop-v l =
    (length l.new_parent ≡ 256)
    × (length l.new_dist ≡ 256)
    × (l.new_parent ≡ over l.v (parent_by l.made l.color l.dist l.cand l.parent) l.parent)
    × (l.new_dist ≡ over l.v (dist_by l.made l.color l.dist l.cand) l.dist)
    × (l.any ≡ some l.v (visits_by l.made l.color l.dist l.cand))
