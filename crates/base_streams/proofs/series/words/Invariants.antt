-- Entry by entry.
use mathlib.Core.Path.{◌≡◌}
use Prim.Native.Nat.{◌-◌, ◌≤◌}
use Rattle.base_lists.specs.Tables.{over}
use Rattle.base_streams.specs.Series.{after_numbers, word_from}
use Rattle.base_streams.proofs.series.words.Given as goal

abbrev pub invariant-loop-i : goal.invariant-loop-i
invariant-loop-i l =
    (l.i ≤ l.count) × (l.c ≡ after_numbers l.i l.stream l.initial.c)
    × (l.words ≡ over l.i (word_from l.stream l.initial.c) l.initial.words)
