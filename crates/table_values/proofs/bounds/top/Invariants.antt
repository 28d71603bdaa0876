-- The greatest of the entries passed and of those from `i` on is the greatest of all.
use Rattle.std.proofs.Common.{◌≡◌, max, drop}
use Rattle.table_values.specs.Tops.{top_of}
use Rattle.table_values.proofs.bounds.top.Given as goal

abbrev pub invariant-loop-x : goal.invariant-loop-x
invariant-loop-x l =
    (top_of l.more l.t ≡ max l.greatest (top_of l.more (drop l.x-index l.t)))
