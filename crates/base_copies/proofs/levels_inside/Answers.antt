-- The words passed are laid down as levels, and the rest is as it was.
use mathlib.Core.Path.{refl}
use Prim.Native.Nat.{◌+◌}
use native.Mathlib.Omega.{arith}
use lib.ListN.{get_or}
use mir.Syntax.{w16}
use mir.ValLaws.{to_z-of_z}
use Rattle.table_levels.specs.Level.{word_level}
use Rattle.base_copies.specs.LevelCopies.{level-small, levels-begin, levels-next}
use borrow.Author.Rules.{rules}
use Rattle.base_copies.proofs.levels_inside.Goals as goal

pub loop-i-init : goal.loop-i-init
loop-i-init c =
    let a = c.args in
    (omega arith, refl, levels-begin a.words.now a.to.now a.at)

pub loop-i-preserved : goal.loop-i-preserved
loop-i-preserved c =
    let a = c.args in
    let w = get_or a.words.now (a.at + c.loop-i.i) 0 in (
      search rules,
      search rules,
      rw (
        c.of_word.ensures,
        to_z-of_z w16 (word_level w) (record { sfits = level-small w }),
        c.loop-i.invariant.2,
      ) (levels-next a.words.now a.to.now a.at c.loop-i.i (search rules) c.requires),
    )
