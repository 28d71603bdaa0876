-- The lines passed are laid down, and the rest is as it was.
use Rattle.std.proofs.Common.{◌≡◌, ◌*◌, ◌≤◌, ◌++◌, length, drop}
use Rattle.report_lines.specs.Lines.{unit_row, lines_of}
use Rattle.report_lines.proofs.unit_lines.Given as goal

abbrev pub invariant-loop-v : goal.invariant-loop-v
invariant-loop-v l =
    (l.v ≤ l.units) × (length l.out ≡ length l.initial.out)
    × (l.out ≡ lines_of l.v (unit_row l.color l.parent l.place l.singles) ++ drop (23 * l.v) l.initial.out)
