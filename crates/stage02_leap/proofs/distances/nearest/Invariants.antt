-- Link by link, from tables without neighbours.
use Rattle.std.proofs.Common.{◌≡◌, ℕ}
use Rattle.base_lists.specs.Folds.{some}
use Rattle.spec_rules.specs.Tree.{best_neighbor}
use Rattle.spec_rules.specs.TreeLaws.{Holds}
use Rattle.stage02_leap.specs.Goal.{one_nearer}
use Rattle.stage02_leap.specs.Nearer.{apart_at}
use Rattle.stage02_leap.proofs.distances.nearest.Given as goal

abbrev pub invariant-loop-j : goal.invariant-loop-j
invariant-loop-j l =
    Holds l.held l.best (λ (v : ℕ). best_neighbor (one_nearer l.far v) l.j l.ends l.levels v)
    × (l.wide ≡ some l.j (apart_at l.ends l.far))
