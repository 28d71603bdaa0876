-- Digit by digit.
use Rattle.std.proofs.Common.{◌≡◌, ◌-◌, arith, rules}
use Rattle.file_read.specs.Marks.{marks-none, marks-next, marks-all}
use Rattle.file_read.proofs.marks.made.Goals as goal

pub loop-d-init : goal.loop-d-init
loop-d-init c = (search rules, marks-none)

pub loop-d-preserved : goal.loop-d-preserved
loop-d-preserved c = (
  search rules,
  marks-next c.loop-d.t c.loop-d.d c.low_digit-at.result c.loop-d-test.true
      c.low_digit-at.ensures c.loop-d.invariant.1,
)

pub returns : goal.returns
returns c =
    let e : c.loop-d.d ≡ 16 = omega (arith, c.loop-d.invariant.0, c.loop-d-test.false) in
    marks-all c.loop-d.t c.loop-d.d e c.loop-d.invariant.1
