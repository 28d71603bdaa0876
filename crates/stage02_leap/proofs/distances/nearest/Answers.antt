-- Link by link, from tables without neighbours.
use Rattle.std.proofs.Common.{get_or, pos, w16, rules, refl}
use Rattle.std.proofs.lemmas.List.{get_or-replicate}
use mir.ValLaws.{to_z-of_z}
use Rattle.base_lists.specs.Some.{some_more}
use Rattle.spec_rules.specs.TreeLaws.{best_none, best-more}
use Rattle.stage02_leap.specs.Goal.{one_nearer}
use Rattle.stage02_leap.specs.Nearer.{apart_at, nearest-all}
use Rattle.stage02_leap.proofs.distances.nearest.Goals as goal

pub loop-j-init : goal.loop-j-init
loop-j-init c =
    let a = c.args in (
      best_none (one_nearer a.far.now) a.ends.now a.levels.now _ _ (search rules) (search rules)
          (λ i h. get_or-replicate 256 i (pos 0) (pos 0) h) (λ i h. get_or-replicate 256 i 65535 0 h),
      search rules,
    )

pub loop-j-preserved : goal.loop-j-preserved
loop-j-preserved c =
    let a = c.args in
    let level = to_z-of_z w16 (get_or a.levels.now c.loop-j.j (pos 0)) (search rules) in (
      best-more (one_nearer a.far.now) a.ends.now a.levels.now c.loop-j.j _ _ _ _ _ level
          c.offer_nearer-gap.ensures.units c.loop-j.invariant.0,
      some_more _ (apart_at a.ends.now a.far.now) _ _ _ c.loop-j.invariant.1 c.offer_nearer-gap.ensures.apart refl,
    )

pub returns-else-wide-clause-units : goal.returns-else-wide-clause-units
returns-else-wide-clause-units c =
    let a = c.args in
    λ v h. nearest-all a.links c.loop-j.j a.ends.now a.levels.now a.far.now c.loop-j.held c.loop-j.best
    c.loop-j.invariant.0 c.loop-j.auto.j-end c.loop-j-test.false v h
