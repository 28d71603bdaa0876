-- Entry by entry, as far as both have entries.
use Rattle.std.proofs.Common.{◌≡◌, ◌≤◌}
use Rattle.base_lists.specs.Folds.{agree}
use Rattle.table_values.proofs.propagation.agree.Given as goal

abbrev pub invariant-loop-i : goal.invariant-loop-i
invariant-loop-i l = (l.i ≤ l.count) × (l.same ≡ agree l.i l.before l.after)
