-- From multiple to multiple, in place.
use mathlib.Core.Path.{◌≡◌, refl, ◌∙◌}
use Prim.Native.Nat.{suc, ◌+◌, ◌*◌, ◌-◌, ◌^◌, ◌≤◌, min, max}
use native.Mathlib.Omega.{arith}
use lib.Pow.{pow_pos}
use Rattle.base_lists.specs.Multiples.{multiple_up}
use Rattle.spec_rules.specs.MoveLaws.{global-later}
use Rattle.stage07_segments.specs.Strides.{stride, strides_end}
use Rattle.stage07_segments.proofs.segments_move.Goals as goal

pub loop-q-preserved : goal.loop-q-preserved
loop-q-preserved c =
    let a = c.args in
    let span = c.span_of-span.result in
    let wide : 1 ≤ 2 * span = omega (arith, c.span_of-span.ensures.length, pow_pos (min a.i 16)) in
    let next : suc (c.loop-q.q + span) ≤ a.n = omega (arith, c.loop-q-test.true, c.less_step-last.ensures) in (
      multiple_up (2 * span) c.loop-q.q c.loop-q.invariant.0,
      stride min span (2 * span) a.n a.low.now c.loop-q.q _ _ _ _ _ wide c.loop-q.invariant.0 next
          c.loop-q.invariant.1 refl refl
          c.min.ensures refl,
      stride max span (2 * span) a.n a.high.now c.loop-q.q _ _ _ _ _ wide c.loop-q.invariant.0 next
          c.loop-q.invariant.2 refl refl
          c.max.ensures refl,
    )

pub returns : goal.returns
returns c =
    let a = c.args in
    let span = c.span_of-span.result in
    let twice : 2 * span ≡ 2 ^ suc (min a.i 16) = omega (arith, c.span_of-span.ensures.length) in
    let past : a.n - span ≤ c.loop-q.q = omega (arith, c.loop-q-test.false, c.less_step-last.ensures) in record {
      low = strides_end min span (2 * span) a.n a.low.now c.loop-q.q _ past c.loop-q.invariant.1
          ∙ global-later (min a.i 16) span (2 * span) c.span_of-span.ensures.length twice min a.n
          a.low.now;
      high = strides_end max span (2 * span) a.n a.high.now c.loop-q.q _ past c.loop-q.invariant.2
          ∙ global-later (min a.i 16) span (2 * span) c.span_of-span.ensures.length twice max a.n
          a.high.now;
    }

-- the last turn
pub returns-2 : goal.returns-2
returns-2 c =
    let a = c.args in
    let span = c.span_of-span.result in
    let wide : 1 ≤ 2 * span = omega (arith, c.span_of-span.ensures.length, pow_pos (min a.i 16)) in
    let next : suc (c.loop-q.q + span) ≤ a.n = omega (arith, c.loop-q-test.true, c.less_step-last.ensures) in
    let twice : 2 * span ≡ 2 ^ suc (min a.i 16) = omega (arith, c.span_of-span.ensures.length) in
    let past : a.n - span ≤ c.loop-q.q + 2 * span = omega (arith, c.less_step-last.ensures) in record {
      low = strides_end min span (2 * span) a.n a.low.now (c.loop-q.q + 2 * span) _ past
          (stride min span (2 * span) a.n a.low.now c.loop-q.q _ _ _ _ _ wide c.loop-q.invariant.0 next
          c.loop-q.invariant.1 refl refl c.min.ensures refl)
          ∙ global-later (min a.i 16) span (2 * span) c.span_of-span.ensures.length twice min a.n
          a.low.now;
      high = strides_end max span (2 * span) a.n a.high.now (c.loop-q.q + 2 * span) _ past
          (stride max span (2 * span) a.n a.high.now c.loop-q.q _ _ _ _ _ wide c.loop-q.invariant.0 next
          c.loop-q.invariant.2 refl refl c.max.ensures refl)
          ∙ global-later (min a.i 16) span (2 * span) c.span_of-span.ensures.length twice max a.n
          a.high.now;
    }
