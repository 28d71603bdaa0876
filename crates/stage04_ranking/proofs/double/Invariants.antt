-- Entry by entry, from the tables as they were, as far as there are entries.
use mathlib.Core.Path.{◌≡◌}
use Rattle.base_lists.specs.Tables.{over}
use Rattle.spec_rules.specs.Ranking.{jump_after, sum_after}
use Rattle.stage04_ranking.proofs.double.Given as goal

abbrev pub invariant-loop-a : goal.invariant-loop-a
invariant-loop-a l =
    (l.jump ≡ over l.a (jump_after l.initial.jump) l.initial.jump)
    × (l.sum ≡ over l.a (sum_after l.initial.jump l.initial.sum) l.initial.sum)
