-- Entry by entry: the one read is still the old one.
use mathlib.Core.Path.{◌≡◌}
use Rattle.base_lists.specs.Tables.{over}
use Rattle.theory_min_label.specs.MinLabel.{marked}
use Rattle.one_way_tables.proofs.mark.Given as goal

abbrev pub invariant-loop-v : goal.invariant-loop-v
invariant-loop-v l = l.out ≡ over l.v (marked l.f l.b l.initial.out) l.initial.out
