-- Unit by unit.
use mathlib.Core.Path.{◌≡◌}
use mathlib.Core.Bool.{cond}
use Prim.Native.Nat.{ℕ}
use Rattle.base_lists.specs.Folds as folds
use Rattle.lifting_order.specs.Standing.{ready}
use Rattle.lifting_order.proofs.growth.next_up.Given as goal

abbrev pub invariant-loop-v : goal.invariant-loop-v
invariant-loop-v l = l.least ≡ folds.least l.v (λ (u : ℕ). cond (ready l.near l.wait u) u l.units) l.units
