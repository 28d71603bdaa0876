-- One flag more at a time.
use Rattle.std.proofs.Common.{◌≡◌, ℕ, ◌≤◌, eqb, get_or}
use Rattle.base_lists.specs.Folds.{count}
use Rattle.report_flags.proofs.flags.count_flags.Given as goal

abbrev pub invariant-loop-i : goal.invariant-loop-i
invariant-loop-i l =
    (l.i ≤ l.n) × (l.ones ≤ l.i) × (l.ones ≡ count l.i (λ (k : ℕ). eqb (get_or l.flags k 0) 1))
