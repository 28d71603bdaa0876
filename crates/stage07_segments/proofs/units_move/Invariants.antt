-- Unit by unit: what a turn finds is as it was before the round.
use mathlib.Core.Path.{◌≡◌}
use Prim.Native.Nat.{◌*◌, ◌≤◌, min, max}
use Rattle.base_lists.specs.Tables.{over}
use Rattle.spec_rules.specs.MoveLaws.{little_by, big_by, range_by}
use Rattle.stage07_segments.proofs.units_move.Given as goal

abbrev pub invariant-loop-v : goal.invariant-loop-v
invariant-loop-v l =
    (l.v ≤ l.n)
    × (l.low ≡ over l.v (range_by min l.span (2 * l.span) l.n l.least l.initial.little l.initial.big l.initial.low)
    l.initial.low)
    × (l.high ≡ over l.v (range_by max l.span (2 * l.span) l.n l.greatest l.initial.little l.initial.big
    l.initial.high) l.initial.high)
    × (l.little ≡ over l.v (little_by l.span (2 * l.span) l.initial.little l.initial.big) l.initial.little)
    × (l.big ≡ over l.v (big_by l.span (2 * l.span) l.initial.little l.initial.big) l.initial.big)
