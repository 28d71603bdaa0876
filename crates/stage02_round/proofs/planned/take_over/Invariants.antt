-- Unit by unit: the planner's parent, and the steps up to the colour unit.
use mathlib.Core.Path.{◌≡◌}
use Prim.Native.Nat.{ℕ}
use Rattle.base_lists.specs.Tables.{over}
use Rattle.spec_rules.specs.Basics.{at}
use Rattle.spec_rules.specs.Planned.{steps_to}
use Rattle.stage02_round.proofs.planned.take_over.Given as goal

abbrev pub invariant-loop-v : goal.invariant-loop-v
invariant-loop-v l =
    (l.parent ≡ over l.v (at l.plan) l.initial.parent)
    × (l.dist ≡ over l.v (λ (w : ℕ). steps_to l.plan (at l.color w) l.count w) l.initial.dist)
