-- Object by object.
use Rattle.std.proofs.Common.{◌≡◌, ◌+◌, ◌*◌, ◌≤◌, max}
use Rattle.base_lists.specs.Folds.{fold}
use Rattle.leap_ranking.specs.Keys.{digits_at}
use Rattle.leap_ranking.proofs.tests.asked.Given as goal

abbrev pub invariant-loop-a : goal.invariant-loop-a
invariant-loop-a l =
    (l.requests ≤ 16 * l.a) × (l.rounds ≤ 16) × (l.requests ≡ fold ◌+◌ l.a (digits_at l.rank) 0)
    × (l.rounds ≡ fold max l.a (digits_at l.rank) 0)
