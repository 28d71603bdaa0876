-- Object by object.
use Rattle.std.proofs.Common.{◌≡◌, refl, arith}
use Rattle.base_lists.specs.Rounds.{over-more}
use Rattle.leap_ranking.proofs.tests.of_keys.Goals as goal

pub loop-a-preserved : goal.loop-a-preserved
loop-a-preserved g c =
    λ f is. over-more c.loop-a.a _ _ _ _ _ (c.loop-a.invariant f is) (is _ _ c.part.ensures) refl

pub returns : goal.returns
returns g c =
    λ f is. let ended : c.loop-a.a ≡ c.args.arcs = omega arith in rw ended at (c.loop-a.invariant f is)
