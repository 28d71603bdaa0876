-- A pair that there is.
use Rattle.std.proofs.Common.{refl, arith, le-ltb, lt-ltb}
use Rattle.leap_tests.specs.Found.{led}
use Rattle.leap_tests.proofs.led.Goals as goal

pub returns-then-pairs-j : goal.returns-then-pairs-j
unfolding led
returns-then-pairs-j c =
    rw (le-ltb c.args.j c.args.pairs c.if-pairs-j.true) refl

pub returns : goal.returns
unfolding led
returns c =
    rw (lt-ltb c.args.j c.args.pairs (omega (arith, c.if-pairs-j.false)), c.leads.ensures) refl
