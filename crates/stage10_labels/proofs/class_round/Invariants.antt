-- Link by link.
use mathlib.Core.Path.{◌≡◌}
use Prim.Native.Nat.{◌≤◌}
use lib.ListN.{length}
use Rattle.base_lists.specs.Tables.{over}
use Rattle.spec_rules.specs.Labels.{class_of}
use Rattle.stage10_labels.proofs.class_round.Given as goal

abbrev pub invariant-loop-j : goal.invariant-loop-j
invariant-loop-j l =
    (l.j ≤ l.links) × (length l.new ≡ 1024) × (l.new ≡ over l.j (class_of l.ends l.parent l.pre l.color) l.initial.new)
