-- Link by link.
use Prim.Native.Nat.{◌≤◌}
use Rattle.stage09_aux.specs.Pairs.{Hears, links_heard}
use Rattle.stage09_aux.proofs.pairs.of_links.Given as goal

abbrev pub invariant-loop-j : goal.invariant-loop-j
invariant-loop-j l = (l.count ≤ l.j) × Hears l.count l.pairs (links_heard l.j l.ends l.parent l.linked)
