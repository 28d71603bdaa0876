-- Digit by digit.
use mathlib.Core.Path.{refl, sym, ◌∙◌}
use native.Mathlib.Omega.{arith}
use Rattle.ask_arguments.specs.ArgumentLaws.{value-more, value-ends, value-all}
use borrow.Author.Rules.{rules}
use Rattle.ask_arguments.proofs.numbers.value_in.Goals as goal

pub loop-byte-init : goal.loop-byte-init
loop-byte-init c = (omega arith, omega arith, refl)

pub returns-then-longer-gt65535 : goal.returns-then-longer-gt65535
returns-then-longer-gt65535 c =
    let a = c.args in
    sym (c.loop-byte.invariant.2 ∙ sym (value-ends a.word.now c.loop-byte.byte-index c.loop-byte.value
    (search rules) c.more-longer.result
    c.more-longer.ensures c.if-longer-gt65535.true))

pub loop-byte-preserved : goal.loop-byte-preserved
loop-byte-preserved c =
    let a = c.args in (
      search rules,
      c.if-longer-gt65535.false,
      c.loop-byte.invariant.2 ∙ value-more a.word.now c.loop-byte.byte-index c.loop-byte.value (search
          rules) c.more-longer.result
          c.more-longer.ensures c.if-longer-gt65535.false,
    )

pub returns : goal.returns
returns c =
    let a = c.args in
    sym (c.loop-byte.invariant.2 ∙ value-all a.word.now c.loop-byte.byte-index c.loop-byte.value (search rules))
