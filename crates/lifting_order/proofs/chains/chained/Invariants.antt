-- Word by word, from empty chains.
use mathlib.Core.Path.{◌≡◌}
use lib.ListN.{length}
use Rattle.lifting_order.specs.Chains.{Chained}
use Rattle.lifting_order.proofs.chains.chained.Given as goal

abbrev pub invariant-loop-i : goal.invariant-loop-i
invariant-loop-i l =
    (length l.last ≡ 256) × (length l.next ≡ 2048)
    × Chained l.t l.last l.next l.i
