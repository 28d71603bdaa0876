-- Unit by unit.
use Rattle.std.proofs.Common.{◌≡◌, ℕ, max, get_or}
use Rattle.base_lists.specs.Folds.{fold}
use Rattle.leap_tests.specs.Found.{wait_in}
use Rattle.leap_tests.proofs.furthest.Given as goal

abbrev pub invariant-loop-v : goal.invariant-loop-v
invariant-loop-v l = l.most ≡ fold max l.v (λ (u : ℕ). wait_in (get_or l.key u 0)) 0
