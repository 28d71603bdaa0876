-- Unit by unit.
use mathlib.Core.Path.{◌≡◌}
use Rattle.theory_ears.specs.Steps.{laid, onward, climb}
use Rattle.ring_tables.proofs.lay.Given as goal

abbrev pub invariant-loop-left : goal.invariant-loop-left
invariant-loop-left l =
    laid l.placing (onward l.up) l.i (climb l.next l.count l.v) l.initial.out
    ≡ laid l.placing (onward l.up) l.x (climb l.next l.left l.u) l.out
