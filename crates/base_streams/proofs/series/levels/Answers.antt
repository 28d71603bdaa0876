-- Entry by entry.
use mathlib.Core.Path.{◌≡◌, refl, ap, ◌∙◌}
use Prim.Native.Nat.{◌<◌}
use native.Mathlib.Omega.{arith}
use lib.ListN.{length}
use lib.Signed.{mag}
use mir.Syntax.{w16}
use mir.ValLaws.{to_z-of_z}
use Rattle.base_lists.specs.Tables.{over, length_over}
use Rattle.base_lists.specs.Rounds.{over-more}
use Rattle.base_streams.specs.Stream.{level_at}
use Rattle.base_streams.specs.Series.{after_levels, level_from, levels-more, level-small}
use borrow.Author.Rules.{rules}
use Rattle.base_streams.proofs.series.levels.Goals as goal

pub loop-i-init : goal.loop-i-init
unfolding after_levels
loop-i-init c = (omega arith, refl, refl)

pub loop-i-preserved : goal.loop-i-preserved
loop-i-preserved c =
    let s = c.args.stream.now in
    let c0 = c.args.cursor in
    let was = c.loop-i.invariant.1 in
    let is = c.next_level-next.ensures in
    let fits : mag c.next_level-next.result.value < 32768 = rw is (level-small s c.loop-i.c) in (
      search rules,
      levels-more s c0 c.loop-i.i c.loop-i.c c.next_level-next.result was is,
      over-more c.loop-i.i (level_from s c0) c.args.levels.now c.loop-i.levels _ _
          c.loop-i.invariant.2 (to_z-of_z w16 c.next_level-next.result.value (record { sfits = fits })
          ∙ ap (λ x. x.value) (is ∙ ap (level_at s) was)) c.put_level.ensures,
    )

pub shape_of-levels : goal.shape_of-levels
shape_of-levels c =
    let a = c.args in
    ap length c.loop-i.invariant.2 ∙ length_over c.loop-i.i (level_from a.stream.now a.cursor) a.levels.now

pub returns : goal.returns
returns c =
    let e : c.loop-i.i ≡ c.args.count = omega arith in record {
      cursor = c.loop-i.invariant.1 ∙ ap (λ i. after_levels i c.args.stream.now c.args.cursor)
          e;
      levels = c.loop-i.invariant.2 ∙ ap (λ i. over i
          (level_from c.args.stream.now c.args.cursor)
          c.args.levels.now) e;
    }
