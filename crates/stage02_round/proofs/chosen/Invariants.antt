-- Link by link, from tables without neighbours.
use Rattle.spec_rules.specs.Tree.{visited_before, best_neighbor}
use Rattle.spec_rules.specs.TreeLaws.{Holds}
use Rattle.stage02_round.specs.Wrapped.{wrapped}
use Rattle.stage02_round.proofs.chosen.Given as goal

abbrev pub invariant-loop-j : goal.invariant-loop-j
invariant-loop-j l =
    Holds l.held l.best (best_neighbor (visited_before l.made l.dist) l.j (wrapped l.ends) l.levels)
