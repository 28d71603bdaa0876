-- Unit by unit.
use Rattle.std.proofs.Common.{◌≡◌, ℕ, get_or}
use Rattle.base_lists.specs.Tables.{over}
use Rattle.leap_tests.specs.Found.{last_in}
use Rattle.leap_tests.proofs.end.Given as goal

abbrev pub invariant-loop-v : goal.invariant-loop-v
invariant-loop-v l = l.value ≡ over l.v (λ (u : ℕ). last_in (get_or l.key u 0)) l.initial.value
