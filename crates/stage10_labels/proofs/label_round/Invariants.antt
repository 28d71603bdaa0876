-- Link by link, from the buckets.
use mathlib.Core.Path.{◌≡◌}
use Prim.Native.Nat.{◌≤◌}
use lib.ListN.{length}
use Rattle.base_lists.specs.Tables.{over}
use Rattle.spec_rules.specs.LabelsLaws.{label_by}
use Rattle.stage10_labels.proofs.label_round.Given as goal

abbrev pub invariant-loop-j : goal.invariant-loop-j
invariant-loop-j l =
    (l.j ≤ l.links) × (length l.new ≡ 1024)
    × (l.new ≡ over l.j (label_by l.links l.class l.first l.absent) l.initial.new)
