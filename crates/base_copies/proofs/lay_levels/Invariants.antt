-- The levels passed are laid down as words, which stand for them, and the rest is as it was.
use mathlib.Core.Path.{◌≡◌}
use Prim.Native.Nat.{◌+◌, ◌≤◌}
use lib.ListN.{length, take}
use lib.Seq.{paste}
use Rattle.table_levels.specs.Level.{to_words, from_words}
use Rattle.base_copies.proofs.lay_levels.Given as goal

abbrev pub invariant-loop-i : goal.invariant-loop-i
invariant-loop-i l =
    (l.i ≤ length l.levels)
    × (length l.words ≡ length l.initial.words)
    × (l.at + length l.levels ≤ length l.initial.words)
    × (l.words ≡ paste l.initial.words l.at (to_words l.levels) l.i)
    × (from_words (to_words (take l.i l.levels)) ≡ take l.i l.levels)
