-- Digit by digit.
use mathlib.Core.Path.{refl, sym, ap, ◌∙◌}
use native.Mathlib.Omega.{arith}
use lib.ListN.{get_or}
use Rattle.base_streams.specs.Stream.{goes}
use Rattle.base_streams.specs.StreamLaws.{digit_low, value-small, digit_inside, value-more, width-more}
use Rattle.base_streams.specs.StreamLaws.{digits-end}
use borrow.Author.Rules.{rules}
use Rattle.base_streams.proofs.digits.read.Goals as goal

pub loop-value-init : goal.loop-value-init
loop-value-init c = (refl, refl)

pub more-value-requires : goal.more-value-requires
more-value-requires c =
    let e = ap (goes c.loop-value.value) (sym c.byte.ensures) ∙ (sym c.goes.ensures ∙ c.loop-value-test.true) in
    let x = get_or c.args.stream.now c.loop-value.end 0 in
    (value-small c.loop-value.value x e, omega (arith, c.byte-in-loop-value.ensures, digit_low c.loop-value.value x e))

pub overflow_add-end : goal.overflow_add-end
overflow_add-end c =
    let h = digit_inside c.args.stream.now c.loop-value.end c.loop-value.value
    (ap (goes c.loop-value.value) (sym c.byte.ensures) ∙ (sym c.goes.ensures ∙ c.loop-value-test.true)) in
    search rules

pub loop-value-smaller : goal.loop-value-smaller
loop-value-smaller c =
    omega (
      arith,
      digit_inside c.args.stream.now c.loop-value.end c.loop-value.value
          (ap (goes c.loop-value.value) (sym c.byte.ensures) ∙ (sym c.goes.ensures ∙ c.loop-value-test.true)),
    )

pub loop-value-preserved : goal.loop-value-preserved
loop-value-preserved c =
    let e = ap (goes c.loop-value.value) (sym c.byte.ensures) ∙ (sym c.goes.ensures ∙ c.loop-value-test.true) in
    rw (c.more-value.ensures, c.byte-in-loop-value.ensures) (
      c.loop-value.invariant.0 ∙ value-more c.args.stream.now c.loop-value.end c.loop-value.value e,
      c.loop-value.invariant.1 ∙ omega (arith, width-more c.args.stream.now c.loop-value.end c.loop-value.value e),
    )

pub returns : goal.returns
returns c =
    let e = digits-end c.args.stream.now c.loop-value.end c.loop-value.value
    (ap (goes c.loop-value.value) (sym c.byte.ensures) ∙ (sym c.goes.ensures ∙ c.loop-value-test.false)) in
    (sym (c.loop-value.invariant.0 ∙ e.0), omega (arith, c.loop-value.invariant.1, e.1))
