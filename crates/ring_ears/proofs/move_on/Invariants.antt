-- Unit by unit.
use mathlib.Core.Path.{◌≡◌}
use mathlib.Core.Bool.{cond}
use Prim.Native.Nat.{ℕ, ◌+◌, min}
use lib.Dec.{ltb}
use Rattle.base_lists.specs.Tables.{over}
use Rattle.spec_rules.specs.Basics.{at}
use Rattle.ring_ears.proofs.move_on.Given as goal

abbrev pub invariant-loop-v : goal.invariant-loop-v
invariant-loop-v l =
    l.pos ≡ over l.v
    (λ (w : ℕ). cond (ltb l.q (at l.initial.pos w)) (min (at l.initial.pos w + l.c) 2048) (at l.initial.pos w))
    l.initial.pos
