-- Unit by unit: the planner's parent, and the steps up to the colour unit.
use Rattle.std.proofs.Common.{◌≡◌, min, refl, arith}
use Rattle.base_lists.specs.Rounds.{over-more}
use Rattle.spec_rules.specs.Planned.{planned_parents, planned_dists}
use Rattle.stage02_round.proofs.planned.take_over.Goals as goal

pub loop-v-preserved : goal.loop-v-preserved
loop-v-preserved c = (
  over-more _ _ _ _ _ _ c.loop-v.invariant.0 refl refl,
  over-more _ _ _ _ _ _ c.loop-v.invariant.1 c.steps.ensures refl,
)

pub returns : goal.returns
unfolding planned_parents planned_dists
returns c =
    let ended : c.loop-v.v ≡ min c.args.units 256 = omega arith in record {
      parents = rw ended at c.loop-v.invariant.0;
      dists = rw (ended, c.min-count.ensures) at c.loop-v.invariant.1;
    }
