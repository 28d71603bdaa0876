-- Along the chain, place by place.
use mathlib.Core.Path.{◌≡◌}
use lib.ListN.{length}
use Rattle.lifting_order.specs.Marking.{acts, does}
use Rattle.lifting_order.specs.Chains.{Along}
use Rattle.lifting_order.proofs.chains.walk.Given as goal

abbrev pub invariant-loop-c : goal.invariant-loop-c
invariant-loop-c l =
    (length l.x ≡ length l.initial.x) × Along l.t l.v (acts l.t (does l.mark)) l.initial.x l.c l.x

abbrev pub decreases-loop-c : goal.decreases-loop-c
decreases-loop-c l = l.c
