-- Pair by pair.
use Rattle.std.proofs.Common.{ℕ, ◌<◌, ◌≤◌, get_or}
use Rattle.table.specs.Table.{end_a, end_b}
use Rattle.leap_tests.specs.Found.{Close}
use Rattle.leap_tests.proofs.pairs_right.Given as goal

abbrev pub invariant-loop-j : goal.invariant-loop-j
invariant-loop-j l =
    l.most ≤ 1 → (i : ℕ) → i < l.j → Close (get_or l.key (end_a l.ends i) 0) (get_or l.key (end_b l.ends i) 0)
