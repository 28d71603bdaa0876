-- The levels passed are laid down as words, which stand for them, and the rest is as it was.
use mathlib.Core.Path.{◌≡◌, refl, sym, ap, ◌∙◌}
use mathlib.Core.Bool.{false}
use Prim.Native.Nat.{◌+◌, ◌<◌}
use Rattle.std.specs.Int.Signed.{mag}
use native.Mathlib.Omega.{arith}
use lib.Dec.{leb}
use lib.IntN.{pos}
use lib.ListN.{length, get_or}
use lib.Seq.{paste-zero, take-length}
use mir.Syntax.{w16}
use mir.ValLaws.{to_z-of_z}
use borrow.Author.Tests.{leb-true, leb-false}
use borrow.Author.Rules.{rules}
use Rattle.table_levels.specs.Level.{level_word, to_words}
use Rattle.table_levels.specs.WordLaws.{length-words, back-next, back_none}
use Rattle.base_copies.specs.CopyLaws.{paste_next, paste_end, laid_out}
use Rattle.base_copies.specs.LevelCopies.{word-at}
use Rattle.base_copies.proofs.lay_levels.Goals as goal

pub returns-then-not-fits : goal.returns-then-not-fits
returns-then-not-fits c =
    let a = c.args in
    let far : leb (a.at + length a.levels.now) (length a.words.now) ≡ false =
    sym c.fits.ensures ∙ c.if-not-fits.true in record {
      words = laid_out a.at (to_words a.levels.now) a.words.now (rw (length-words a.levels.now) far);
      back = λ l. absurd (omega (arith, l, leb-false (a.at + length a.levels.now) (length a.words.now) far));
    }

pub loop-i-init : goal.loop-i-init
loop-i-init c =
    let a = c.args in (
      omega arith,
      refl,
      leb-true _ _ (sym c.fits.ensures ∙ c.if-not-fits.false),
      paste-zero a.words.now a.at (to_words a.levels.now),
      back_none a.levels.now,
    )

pub loop-i-preserved : goal.loop-i-preserved
loop-i-preserved c =
    let a = c.args in
    let ls = a.levels.now in
    let i = c.loop-i.i in
    let v = c.loop-i.invariant in
    let h = c.loop-i-test.true in
    let f : mag (get_or ls i (pos 0)) < 32768 = search rules in
    let w = c.word_of.ensures ∙ ap level_word (to_z-of_z w16 (get_or ls i (pos 0)) (record { sfits = f }))
    ∙ word-at ls i h in (
      search rules,
      search rules,
      v.2,
      rw v.3 (paste_next a.words.now (to_words ls) a.at i c.word_of.result w
          (omega (arith, length-words ls, h)) (omega (arith, length-words ls, v.2))),
      back-next ls i h f v.4,
    )

pub returns : goal.returns
returns c =
    let a = c.args in
    let ls = a.levels.now in
    let v = c.loop-i.invariant in
    let e : c.loop-i.i ≡ length ls = omega (arith, v.0, c.loop-i-test.false) in record {
      words = v.3 ∙ paste_end a.words.now (to_words ls) a.at c.loop-i.i (omega (arith, length-words ls, e))
          (omega (arith, length-words ls, v.2));
      back = λ _. rw (e, take-length ls) at v.4;
    }
