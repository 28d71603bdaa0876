-- Unit by unit.
use mathlib.Core.Path.{◌≡◌}
use Rattle.base_lists.specs.Folds.{some}
use Rattle.live_table.specs.CountLaws.{wrong_at}
use Rattle.live_table.proofs.miscounted.Given as goal

abbrev pub invariant-loop-v : goal.invariant-loop-v
invariant-loop-v l = l.wrong ≡ some l.v (wrong_at l.links l.words l.counts)
