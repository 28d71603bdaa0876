-- Unit by unit.
use mathlib.Core.Path.{◌≡◌}
use Prim.Native.Nat.{◌≤◌}
use lib.ListN.{length}
use Rattle.base_lists.specs.Tables.{over}
use Rattle.spec_rules.specs.Aux.{parent_join}
use Rattle.stage08_joins.proofs.parent_joins.Given as goal

abbrev pub invariant-loop-u : goal.invariant-loop-u
invariant-loop-u l =
    (l.u ≤ l.units) × (length l.new ≡ 256) ×
    (l.new ≡ over l.u (parent_join l.parent l.nd l.pre l.low l.high) l.initial.new)
