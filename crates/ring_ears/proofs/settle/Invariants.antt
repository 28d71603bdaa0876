-- Pass by pass; each that is not the last makes the order longer.
use Rattle.theory_ears.specs.Present.{sure}
use Rattle.theory_ears.specs.Weaving.{Lengthened}
use Rattle.ring_ears.proofs.settle.Given as goal

abbrev pub invariant-loop-k : goal.invariant-loop-k
invariant-loop-k l =
    Lengthened (sure l.marks) l.units l.links l.ends l.b l.count l.parent l.seq l.initial.pos l.initial.held l.k
    l.pos l.held
