-- Step by step, the tree stays one.
use Rattle.theory_ears.specs.Present.{sure}
use Rattle.theory_ears.specs.Reaching.{Spanned}
use Rattle.ring_order.proofs.tree.deepen.Given as goal

abbrev pub invariant-loop : goal.invariant-loop
invariant-loop l =
    Spanned (sure l.marks) l.links l.ends l.initial.parent l.initial.seq 2 l.parent l.seq l.count
