-- One more for each object passed that asks.
use mathlib.Core.Path.{◌≡◌}
use Prim.Native.Nat.{◌≤◌}
use Rattle.base_lists.specs.Folds.{count}
use Rattle.spec_rules.specs.Ranking.{asks}
use Rattle.stage04_ranking.proofs.requests.Given as goal

abbrev pub invariant-loop-a : goal.invariant-loop-a
invariant-loop-a l = (l.made ≤ l.a) × (l.made ≡ count l.a (asks l.jump))
