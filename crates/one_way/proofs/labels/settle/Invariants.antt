-- As long as a label falls, the sum of the labels falls with a sweep.
use Rattle.std.proofs.Common.{◌≡◌, length}
use Rattle.theory_min_label.specs.MinLabelLaws.{Hears}
use Rattle.theory_min_label.specs.Hands.{Live, Spread, total}
use Rattle.one_way.proofs.labels.settle.Given as goal

abbrev pub invariant-loop-x : goal.invariant-loop-x
invariant-loop-x l =
    (length l.x ≡ 256) × Spread (Hears l.forward (Live l.links l.key)) l.initial.x l.x

abbrev pub decreases-loop-x : goal.decreases-loop-x
decreases-loop-x l = total l.x
