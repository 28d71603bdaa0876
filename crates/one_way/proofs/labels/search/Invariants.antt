-- Unit after unit.
use Rattle.std.proofs.Common.{◌≡◌, length}
use Rattle.theory_min_label.specs.MinLabelLaws.{Hears}
use Rattle.theory_min_label.specs.Hands.{Live, Spread}
use Rattle.one_way.proofs.labels.search.Given as goal

abbrev pub invariant-loop-unit : goal.invariant-loop-unit
invariant-loop-unit l = (length l.queue ≡ 256) × Spread (Hears l.forward (Live l.links l.key)) l.initial.x l.x
