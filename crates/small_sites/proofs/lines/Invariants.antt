-- A line a turn.
use mathlib.Core.Path.{◌≡◌}
use mathlib.Core.List.{◌++◌}
use Prim.Native.Nat.{◌*◌, ◌≤◌}
use lib.ListN.{length, drop}
use Rattle.small_sites.specs.Sites.{lines_to, PRINTED}
use Rattle.small_sites.proofs.lines.Given as goal

abbrev pub invariant-loop-i : goal.invariant-loop-i
invariant-loop-i l =
    (l.i ≤ 1099) × (PRINTED ≤ length l.initial.out) × (length l.out ≡ length l.initial.out)
    × (l.out ≡ lines_to l.i ++ drop (15 * l.i) l.initial.out)
