-- Unit by unit.
use Rattle.std.proofs.Common.{◌≡◌, ℕ, ◌<◌, true}
use Rattle.leap_tests.specs.Found.{unit_right}
use Rattle.leap_tests.proofs.units_right.Given as goal

abbrev pub invariant-loop-v : goal.invariant-loop-v
invariant-loop-v l =
    l.right ≡ true → (i : ℕ) → i < l.v → unit_right l.pairs l.ends l.value l.key l.via i ≡ true
