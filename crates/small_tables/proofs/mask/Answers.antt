-- One unit after another.
use mathlib.Core.Path.{◌≡◌}
use native.Mathlib.Omega.{arith}
use Rattle.small_tables.specs.Small.{mask_of}
use Rattle.small_tables.proofs.mask.Goals as goal

pub returns : goal.returns
unfolding mask_of
returns c =
    let all : c.loop-single.single-index ≡ 5 = omega (arith, c.loop-single.invariant.0, c.loop-single-test.false) in
    rw all at c.loop-single.invariant.4
