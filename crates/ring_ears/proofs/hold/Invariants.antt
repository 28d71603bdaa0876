-- Unit by unit.
use mathlib.Core.Path.{◌≡◌}
use Rattle.theory_ears.specs.Weaving.{holding}
use Rattle.ring_ears.proofs.hold.Given as goal

abbrev pub invariant-loop-i : goal.invariant-loop-i
invariant-loop-i l = l.held ≡ holding l.parent l.seq l.pos l.i l.initial.held
