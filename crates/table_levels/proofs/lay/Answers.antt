-- The levels passed are laid down as words, which stand for them.
use mathlib.Core.Path.{refl, ap, ◌∙◌}
use native.Mathlib.Omega.{arith}
use lib.ListN.{get_or}
use lib.IntN.{pos}
use Prim.Native.Nat.{◌<◌}
use Rattle.std.specs.Int.Signed.{mag}
use mir.Syntax.{w16}
use mir.ValLaws.{to_z-of_z}
use Rattle.table_levels.specs.Level.{level_word}
use Rattle.table_levels.specs.WordLaws.{words-next, back-next, back_none, none-words}
use borrow.Author.Rules.{rules}
use Rattle.table_levels.proofs.lay.Goals as goal

pub loop-i-init : goal.loop-i-init
loop-i-init c = (omega arith, refl, none-words c.args.words.now, back_none c.args.levels.now)

pub loop-i-preserved : goal.loop-i-preserved
loop-i-preserved c =
    let ls = c.args.levels.now in
    let i = c.loop-i.i in
    let h = c.loop-i-test.true in
    let f : mag (get_or ls i (pos 0)) < 32768 = search rules in
    let w = c.word_of.ensures ∙ ap level_word (to_z-of_z w16 (get_or ls i (pos 0)) (record { sfits = f })) in (
      search rules,
      search rules,
      rw c.loop-i.invariant.2 (words-next ls c.args.words.now i c.word_of.result w h c.requires),
      back-next ls i h f c.loop-i.invariant.3,
    )
