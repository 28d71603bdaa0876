-- Entry by entry.
use mathlib.Core.Path.{◌≡◌, refl, ap, ◌∙◌}
use Prim.Native.Nat.{◌%◌}
use native.Mathlib.Omega.{arith}
use lib.ListN.{length}
use Rattle.base_lists.specs.Tables.{over, length_over}
use Rattle.base_lists.specs.Rounds.{over-more}
use Rattle.base_streams.specs.Stream.{number_at}
use Rattle.base_streams.specs.Series.{after_numbers, word_from, numbers_more}
use borrow.Author.Rules.{rules}
use Rattle.base_streams.proofs.series.words.Goals as goal

pub loop-i-init : goal.loop-i-init
unfolding after_numbers
loop-i-init c = (omega arith, refl, refl)

pub loop-i-preserved : goal.loop-i-preserved
loop-i-preserved c =
    let s = c.args.stream.now in
    let c0 = c.args.cursor in
    let was = c.loop-i.invariant.1 in
    let is = c.next_number-next.ensures in (
      search rules,
      numbers_more s c0 c.loop-i.i c.loop-i.c c.next_number-next.result was is,
      over-more c.loop-i.i (word_from s c0) c.args.words.now c.loop-i.words _ _
          c.loop-i.invariant.2 (ap (λ x. x.value % 65536) (is ∙ ap (number_at s) was)) c.put.ensures,
    )

pub shape_of-words : goal.shape_of-words
shape_of-words c =
    let a = c.args in
    ap length c.loop-i.invariant.2 ∙ length_over c.loop-i.i (word_from a.stream.now a.cursor) a.words.now

pub returns : goal.returns
returns c =
    let e : c.loop-i.i ≡ c.args.count = omega arith in record {
      cursor = c.loop-i.invariant.1 ∙ ap (λ i. after_numbers i c.args.stream.now
          c.args.cursor) e;
      words = c.loop-i.invariant.2 ∙ ap (λ i. over i
          (word_from c.args.stream.now c.args.cursor)
          c.args.words.now) e;
    }
