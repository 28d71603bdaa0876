-- The lines of the links passed are laid down, and the rest is as it was.
use mathlib.Core.Path.{◌≡◌}
use mathlib.Core.List.{◌++◌}
use Prim.Native.Nat.{◌≤◌, ◌-◌, ◌*◌}
use lib.ListN.{length, drop, take}
use Rattle.table.specs.Table.{link_count}
use Rattle.file_spec.specs.File.{link_lines}
use Rattle.file_write.proofs.writer.link_lines.Given as goal

abbrev pub invariant-loop-j : goal.invariant-loop-j
invariant-loop-j l =
    (l.j ≤ link_count l.words) × (length l.out ≡ length l.initial.out)
    × (l.out ≡ link_lines (take (2 * l.j) l.words) (take l.j l.levels) ++ drop (15 * l.j) l.initial.out)

abbrev pub decreases-loop-j : goal.decreases-loop-j
decreases-loop-j l = link_count l.words - l.j
