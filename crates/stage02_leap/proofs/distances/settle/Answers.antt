-- Unit by unit, from the tables as they were.
use Rattle.std.proofs.Common.{◌≡◌, refl, rules}
use Rattle.base_lists.specs.Rounds.{over-more}
use Rattle.base_lists.specs.Some.{some_more}
use Rattle.stage02_leap.specs.Goal.{parent_from}
use Rattle.stage02_leap.specs.Nearer.{strays_at}
use Rattle.stage02_leap.proofs.distances.settle.Goals as goal

pub loop-v-preserved : goal.loop-v-preserved
loop-v-preserved c =
    let a = c.args in
    let is-parent
    : c.choose.result ≡ parent_from a.made a.far.now a.cand.now a.parent c.loop-v.v
    = rw c.to_visit.ensures at c.choose.ensures in
    let is-stray
    : c.strays-off.result ≡ strays_at a.made a.last a.far.now a.cand.now a.dist c.loop-v.v
    = c.strays-off.ensures in (
      search rules,
      search rules,
      over-more _ _ _ _ _ _ c.loop-v.invariant.2 is-parent refl,
      over-more _ _ _ _ _ _ c.loop-v.invariant.3 refl refl,
      some_more _ (strays_at a.made a.last a.far.now a.cand.now a.dist) _ _ _ c.loop-v.invariant.4 is-stray refl,
    )
