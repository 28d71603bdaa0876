-- Link by link.
use Rattle.theory_ears.specs.Present.{sure}
use Rattle.theory_ears.specs.Weaving.{Passed}
use Rattle.ring_ears.proofs.pass.Given as goal

abbrev pub invariant-loop-j : goal.invariant-loop-j
invariant-loop-j l =
    Passed (sure l.marks) l.units l.links l.ends l.count l.parent l.seq l.j l.initial.pos l.initial.held l.pos l.held
