-- Whatever links the order names, labels are only handed on.
use Rattle.std.proofs.Common.{◌≤◌}
use Rattle.theory_min_label.specs.MinLabelLaws.{Hears}
use Rattle.theory_min_label.specs.Hands.{Live, Spread}
use Rattle.one_way.proofs.labels.relax.Given as goal

abbrev pub invariant-loop-k : goal.invariant-loop-k
invariant-loop-k l = (l.end ≤ 256) × Spread (Hears l.forward (Live l.links l.key)) l.initial.x l.x
