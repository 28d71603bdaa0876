-- Pair by pair.
use Rattle.std.proofs.Common.{◌≡◌, max, arith, rules, below_more}
use Rattle.leap_tests.proofs.pairs_right.Goals as goal

pub loop-j-preserved : goal.loop-j-preserved
loop-j-preserved c =
    let most : c.max-most.result ≡ max c.loop-j.most c.apart.result = search rules in
    λ few. below_more _ _ (c.loop-j.invariant (omega (arith, few, most))) (c.apart.ensures (omega (arith, few, most)))
