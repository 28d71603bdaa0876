-- The levels passed are laid down as words, which stand for them.
use mathlib.Core.Path.{◌≡◌}
use mathlib.Core.List.{◌++◌}
use Prim.Native.Nat.{◌≤◌}
use lib.ListN.{length, take, drop}
use Rattle.table_levels.specs.Level.{to_words, from_words}
use Rattle.table_levels.proofs.lay.Given as goal

abbrev pub invariant-loop-i : goal.invariant-loop-i
invariant-loop-i l =
    (l.i ≤ length l.levels)
    × (length l.words ≡ length l.initial.words)
    × (l.words ≡ to_words (take l.i l.levels) ++ drop l.i l.initial.words)
    × (from_words (to_words (take l.i l.levels)) ≡ take l.i l.levels)
