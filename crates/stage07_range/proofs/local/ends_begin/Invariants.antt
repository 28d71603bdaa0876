-- Unit by unit.
use mathlib.Core.Path.{◌≡◌}
use Prim.Native.Nat.{◌≤◌}
use Rattle.base_lists.specs.Tables.{over}
use Rattle.spec_rules.specs.Basics.{at}
use Rattle.spec_rules.specs.Range.{big_begin}
use Rattle.stage07_range.proofs.local.ends_begin.Given as goal

abbrev pub invariant-loop-v : goal.invariant-loop-v
invariant-loop-v l =
    (l.v ≤ l.n) × (l.little ≡ over l.v (at l.pre) l.initial.little)
    × (l.big ≡ over l.v (big_begin l.nd l.pre) l.initial.big)
