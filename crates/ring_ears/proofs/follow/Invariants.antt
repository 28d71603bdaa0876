-- Place by place.
use Rattle.theory_ears.specs.Present.{sure}
use Rattle.theory_ears.specs.Weaving.{Followed}
use Rattle.ring_ears.proofs.follow.Given as goal

abbrev pub invariant-loop-i : goal.invariant-loop-i
invariant-loop-i l =
    Followed (sure l.marks) l.units l.links l.ends l.count l.parent l.seq l.initial.pos l.initial.held l.pos l.held
