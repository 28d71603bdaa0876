-- Link by link.
use mathlib.Core.Path.{◌≡◌}
use Prim.Native.Nat.{◌≤◌}
use lib.ListN.{length}
use Rattle.base_lists.specs.Tables.{over}
use Rattle.spec_rules.specs.Aux.{link_join}
use Rattle.stage08_joins.proofs.link_joins.Given as goal

abbrev pub invariant-loop-j : goal.invariant-loop-j
invariant-loop-j l =
    (l.j ≤ l.links) × (length l.new ≡ 1024) × (l.new ≡ over l.j (link_join l.ends l.parent l.nd l.pre) l.initial.new)
