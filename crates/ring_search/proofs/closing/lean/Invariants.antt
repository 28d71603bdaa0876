-- Link by link.
use Rattle.theory_ears.specs.Found.{Leans}
use Rattle.theory_ears.specs.Present.{sure}
use Rattle.ring_search.proofs.closing.lean.Given as goal

abbrev pub invariant-loop-j : goal.invariant-loop-j
invariant-loop-j l =
    Leans (sure l.marks) l.links l.ends l.pos l.j l.initial.low l.initial.high l.low l.high
