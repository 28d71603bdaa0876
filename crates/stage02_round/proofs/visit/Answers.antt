-- Unit by unit, from the tables as they were.
use Rattle.std.proofs.Common.{◌≡◌, refl, rules}
use Rattle.base_lists.specs.Rounds.{over-more}
use Rattle.base_lists.specs.Some.{some_more}
use Rattle.spec_rules.specs.TreeLaws.{visits_by, parent_by, dist_by}
use Rattle.stage02_round.proofs.visit.Goals as goal

pub loop-v-preserved : goal.loop-v-preserved
loop-v-preserved c =
    let a = c.args in
    let is-parent
    : c.choose.result ≡ parent_by a.made a.color.now a.dist a.cand.now a.parent c.loop-v.v
    = rw (c.visits-visited.ensures, c.choose-taken.ensures) at c.choose.ensures in
    let is-dist
    : c.choose-in-loop-v.result ≡ dist_by a.made a.color.now a.dist a.cand.now c.loop-v.v
    = rw c.visits-visited.ensures at c.choose-in-loop-v.ensures in (
      search rules,
      search rules,
      over-more _ _ _ _ _ _ c.loop-v.invariant.2 is-parent refl,
      over-more _ _ _ _ _ _ c.loop-v.invariant.3 is-dist refl,
      some_more _ (visits_by a.made a.color.now a.dist a.cand.now) _ _ _ c.loop-v.invariant.4
          c.visits-visited.ensures refl,
    )
