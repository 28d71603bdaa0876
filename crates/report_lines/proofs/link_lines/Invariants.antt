-- The lines passed are laid down, and the rest is as it was.
use Rattle.std.proofs.Common.{◌≡◌, ◌*◌, ◌≤◌, ◌++◌, length, drop}
use Rattle.report_lines.specs.Lines.{label_row, lines_of}
use Rattle.report_lines.proofs.link_lines.Given as goal

abbrev pub invariant-loop-j : goal.invariant-loop-j
invariant-loop-j l =
    (l.j ≤ l.links) × (length l.out ≡ length l.initial.out)
    × (l.out ≡ lines_of l.j (label_row l.label l.lones) ++ drop (15 * l.j) l.initial.out)
