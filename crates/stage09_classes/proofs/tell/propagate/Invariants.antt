-- Unit by unit.
use mathlib.Core.Path.{◌≡◌}
use Rattle.base_lists.specs.Tables.{over}
use Rattle.stage09_classes.specs.Propagation.{to_heads, by_head}
use Rattle.stage09_classes.proofs.tell.propagate.Given as goal

abbrev pub invariant-loop-u : goal.invariant-loop-u
invariant-loop-u l =
    (l.t ≡ to_heads l.u l.units l.heads l.said l.initial.t)
    × (l.told ≡ over l.u (by_head l.heads l.said) l.initial.told)
