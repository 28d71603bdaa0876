-- From multiple to multiple, in place.
use mathlib.Core.Path.{◌≡◌}
use Prim.Native.Nat.{◌*◌, min, max}
use Rattle.base_lists.specs.Tables.{over}
use Rattle.base_lists.specs.Multiples.{Multiple}
use Rattle.spec_rules.specs.MoveLaws.{global_by}
use Rattle.stage07_segments.proofs.segments_move.Given as goal

abbrev pub invariant-loop-q : goal.invariant-loop-q
invariant-loop-q l =
    Multiple (2 * l.span) l.q
    × (l.low ≡ over l.q (global_by min l.span (2 * l.span) l.n l.initial.low) l.initial.low)
    × (l.high ≡ over l.q (global_by max l.span (2 * l.span) l.n l.initial.high) l.initial.high)
