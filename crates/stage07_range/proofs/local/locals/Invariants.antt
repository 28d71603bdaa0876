-- Link by link, from the places.
use mathlib.Core.Path.{◌≡◌}
use mathlib.Core.Bool.{true, false}
use Prim.Native.Nat.{◌≤◌}
use Rattle.spec_rules.specs.RangeLaws.{local_table}
use Rattle.stage07_range.proofs.local.locals.Given as goal

abbrev pub invariant-loop-j : goal.invariant-loop-j
invariant-loop-j l =
    (l.j ≤ l.links) × (l.low ≡ local_table false l.j l.ends l.parent l.pre)
    × (l.high ≡ local_table true l.j l.ends l.parent l.pre)
