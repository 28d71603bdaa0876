-- Unit after unit of the queue.
use Rattle.std.proofs.Common.{◌-◌, ◌≤◌}
use Rattle.theory_min_label.specs.MinLabelLaws.{Hears}
use Rattle.theory_min_label.specs.Hands.{Live, Spread}
use Rattle.one_way.proofs.labels.flood.Given as goal

abbrev pub invariant-loop-head : goal.invariant-loop-head
invariant-loop-head l = (l.end ≤ 256) × Spread (Hears l.forward (Live l.links l.key)) l.initial.x l.x

abbrev pub decreases-loop-head : goal.decreases-loop-head
decreases-loop-head l = 256 - l.head
