-- Unit by unit: what a turn finds is as it was before the round.
use borrow.Author.Rules.{rules}
use mathlib.Core.Path.{◌≡◌, refl, ◌∙◌}
use Prim.Native.Nat.{suc, ◌*◌, ◌-◌, ◌^◌, ◌≤◌, min, max}
use native.Mathlib.Nat.{le_refl, le_antisymm}
use native.Mathlib.Omega.{arith}
use lib.ListN.{get_or}
use Rattle.base_lists.specs.Rounds.{over-more}
use Rattle.spec_rules.specs.MoveLaws.{odd_by, range-later, little-later, big-later}
use Rattle.table_values.specs.Passes.{read_past, over-kept}
use Rattle.stage07_segments.specs.Turns.{odd-by, range-stays, little-stays, big-stays, range-moves, little-moves}
use Rattle.stage07_segments.specs.Turns.{big-moves}
use Rattle.stage07_segments.proofs.units_move.Goals as goal

pub loop-v-preserved-then-to-from : goal.loop-v-preserved-then-to-from
loop-v-preserved-then-to-from c =
    let a = c.args in
    let span = c.span_of-span.result in
    let low = a.low.now in
    let high = a.high.now in
    let little = a.little.now in
    let big = a.big.now in
    let met : get_or big c.loop-v.v 0 ≤ get_or little c.loop-v.v 0
    = rw (
      read_past c.loop-v.v _ big _ c.loop-v.invariant.4 c.loop-v.v (le_refl c.loop-v.v),
      read_past c.loop-v.v _ little _ c.loop-v.invariant.3 c.loop-v.v (le_refl c.loop-v.v),
    ) at c.if-to-from.true in (
      search rules,
      over-kept c.loop-v.v _ low _ c.loop-v.invariant.1
          (range-stays span (2 * span) a.n little big c.loop-v.v met min a.least.now low),
      over-kept c.loop-v.v _ high _ c.loop-v.invariant.2
          (range-stays span (2 * span) a.n little big c.loop-v.v met max a.greatest.now high),
      over-kept c.loop-v.v _ little _ c.loop-v.invariant.3 (little-stays span (2 * span) a.n little big c.loop-v.v met),
      over-kept c.loop-v.v _ big _ c.loop-v.invariant.4 (big-stays span (2 * span) a.n little big c.loop-v.v met),
    )

pub loop-v-preserved : goal.loop-v-preserved
loop-v-preserved c =
    let a = c.args in
    let span = c.span_of-span.result in
    let low = a.low.now in
    let high = a.high.now in
    let little = a.little.now in
    let big = a.big.now in
    let from = get_or c.loop-v.little c.loop-v.v 0 in
    let to = get_or c.loop-v.big c.loop-v.v 0 in
    let is-from : from ≡ get_or little c.loop-v.v 0 = read_past c.loop-v.v _ little _ c.loop-v.invariant.3 c.loop-v.v
    (le_refl c.loop-v.v) in
    let is-to : to ≡ get_or big c.loop-v.v 0 = read_past c.loop-v.v _ big _ c.loop-v.invariant.4 c.loop-v.v
    (le_refl c.loop-v.v) in
    let is-low : get_or c.loop-v.low c.loop-v.v 0 ≡ get_or low c.loop-v.v 0 = read_past c.loop-v.v _ low _
    c.loop-v.invariant.1 c.loop-v.v (le_refl c.loop-v.v) in
    let is-high : get_or c.loop-v.high c.loop-v.v 0 ≡ get_or high c.loop-v.v 0 = read_past c.loop-v.v _ high _
    c.loop-v.invariant.2 c.loop-v.v (le_refl c.loop-v.v) in
    let odd-left : c.is_odd-left.result ≡ odd_by (2 * span) from
    = c.is_odd-left.ensures ∙ odd-by (min a.i 16) span (2 * span - 1) c.span_of-span.ensures.length refl from in
    let odd-right : c.is_odd-right.result ≡ odd_by (2 * span) to
    = c.is_odd-right.ensures ∙ odd-by (min a.i 16) span (2 * span - 1) c.span_of-span.ensures.length refl to in (
      search rules,
      over-more c.loop-v.v _ low _ _ _ c.loop-v.invariant.1
          (range-moves span (2 * span) a.n little big c.loop-v.v from to is-from is-to c.if-to-from.false min
          a.least.now low c.is_odd-left.result c.is_odd-right.result _ _ odd-left odd-right is-low c.take.ensures)
          refl,
      over-more c.loop-v.v _ high _ _ _ c.loop-v.invariant.2
          (range-moves span (2 * span) a.n little big c.loop-v.v from to is-from is-to c.if-to-from.false max
          a.greatest.now high c.is_odd-left.result c.is_odd-right.result _ _ odd-left odd-right is-high
          c.take-in-loop-v.ensures)
          refl,
      over-more c.loop-v.v _ little _ _ _ c.loop-v.invariant.3
          (little-moves span (2 * span) a.n little big c.loop-v.v from to is-from is-to c.if-to-from.false
          c.is_odd-left.result _ odd-left
          c.step_on.ensures) refl,
      over-more c.loop-v.v _ big _ _ _ c.loop-v.invariant.4
          (big-moves span (2 * span) a.n little big c.loop-v.v from to is-from is-to
          c.if-to-from.false c.is_odd-right.result _ odd-right c.step_back.ensures) refl,
    )

pub returns : goal.returns
returns c =
    let a = c.args in
    let span = c.span_of-span.result in
    let low = a.low.now in
    let high = a.high.now in
    let little = a.little.now in
    let big = a.big.now in
    let i = min a.i 16 in
    let twice : 2 * span ≡ 2 ^ suc (min a.i 16) = omega (arith, c.span_of-span.ensures.length) in
    let ended = le_antisymm c.loop-v.invariant.0 c.loop-v-test.false in record {
      low = rw ended at c.loop-v.invariant.1 ∙ range-later i span (2 * span) c.span_of-span.ensures.length twice min a.n
          a.least.now little big low;
      high = rw ended at c.loop-v.invariant.2 ∙ range-later i span (2 * span) c.span_of-span.ensures.length twice max
          a.n
          a.greatest.now little big high;
      little = rw ended at c.loop-v.invariant.3 ∙ little-later i span (2 * span) c.span_of-span.ensures.length twice
          a.n big little;
      big = rw ended at c.loop-v.invariant.4 ∙ big-later i span (2 * span) c.span_of-span.ensures.length twice
          a.n little big;
    }
