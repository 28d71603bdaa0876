-- Link by link.
use Rattle.theory_ears.specs.Present.{sure}
use Rattle.theory_ears.specs.Reaching.{Swept}
use Rattle.ring_order.proofs.tree.sweep.Given as goal

abbrev pub invariant-loop-j : goal.invariant-loop-j
invariant-loop-j l =
    Swept (sure l.marks) l.links l.ends l.j l.initial.parent l.initial.seq l.count l.parent l.seq l.c
