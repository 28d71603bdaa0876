-- Sweep by sweep; each that is not the last adds a unit.
use Rattle.theory_ears.specs.Present.{sure}
use Rattle.theory_ears.specs.Reaching.{Filling}
use Rattle.ring_order.proofs.tree.fill.Given as goal

abbrev pub invariant-loop-k : goal.invariant-loop-k
invariant-loop-k l =
    Filling (sure l.marks) l.links l.ends l.initial.parent l.initial.seq l.count l.k l.parent l.seq l.c
