-- The tables passed so far.
use Rattle.std.proofs.Common.{◌≡◌, Bool, ℕ, take}
use Rattle.base_lists.specs.Folds.{every}
use Rattle.table_values.specs.Tops.{Tells}
use Rattle.value_kept.proofs.all_within.Given as goal

abbrev pub invariant-loop-t : goal.invariant-loop-t
invariant-loop-t l =
    (p : ℕ → Bool) → Tells l.limit.more l.limit.most p → l.ok ≡ every (λ t. every p t.now) (take l.t-index l.tables)
