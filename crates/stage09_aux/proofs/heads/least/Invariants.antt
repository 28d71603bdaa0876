-- Unit by unit.
use mathlib.Core.Path.{◌≡◌}
use Rattle.base_lists.specs.Tables.{over}
use Rattle.stage09_aux.specs.Heads.{least_of}
use Rattle.stage09_aux.proofs.heads.least.Given as goal

abbrev pub invariant-loop-v : goal.invariant-loop-v
invariant-loop-v l = l.new ≡ over l.v (least_of l.parent l.told l.t) l.initial.new
