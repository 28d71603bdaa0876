-- Unit by unit, from the buckets.
use mathlib.Core.Path.{◌≡◌}
use Rattle.base_lists.specs.Tables.{over}
use Rattle.spec_rules.specs.OrderLaws.{place_by}
use Rattle.stage06_places.proofs.number.Given as goal

abbrev pub invariant-loop-v : goal.invariant-loop-v
invariant-loop-v l = l.pre ≡ over l.v (place_by l.units l.color l.bucket l.absent l.parent l.sum) l.initial.pre
