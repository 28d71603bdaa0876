-- Unit by unit.
use mathlib.Core.Path.{◌≡◌}
use Prim.Native.Nat.{ℕ, ◌+◌, ◌-◌}
use lib.Dec.{eqb}
use lib.ListN.{length}
use Rattle.spec_rules.specs.Basics.{at}
use Rattle.theory_ears.specs.Upright.{chain}
use Rattle.ring_search.proofs.closing.steps.Given as goal

abbrev pub invariant-loop-k : goal.invariant-loop-k
invariant-loop-k l =
    length (chain (at l.next) (λ (z : ℕ). eqb z l.stop) l.limit l.v)
    ≡ l.k + length (chain (at l.next) (λ (z : ℕ). eqb z l.stop) (l.limit - l.k) l.u)
