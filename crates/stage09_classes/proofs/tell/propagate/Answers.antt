-- Unit by unit.
use mathlib.Core.Path.{◌≡◌, refl}
use native.Mathlib.Omega.{arith}
use Rattle.base_lists.specs.Tables.{get_d_over}
use Rattle.base_lists.specs.Rounds.{over-more}
use Rattle.stage09_classes.specs.Propagation.{by_head}
use Rattle.stage09_classes.specs.HeadLaws.{to_none, to-more}
use borrow.Author.Rules.{rules}
use Rattle.stage09_classes.proofs.tell.propagate.Goals as goal

pub loop-u-init : goal.loop-u-init
loop-u-init c = (to_none _ _ _ _, refl)

pub loop-u-preserved : goal.loop-u-preserved
loop-u-preserved c =
    let a = c.args in
    let low = c.requires.1 c.loop-u.u c.loop-u-test.true in (
      to-more a.units a.heads.now a.said.now c.loop-u.u _ _ _ c.loop-u.invariant.0 low (rw c.min.ensures),
      over-more _ _ _ _ _ _ c.loop-u.invariant.1 refl refl,
    )

pub returns : goal.returns
returns c =
    let a = c.args in
    let all : c.loop-u.u ≡ a.units = search rules in (
      rw all at c.loop-u.invariant.0,
      λ u h. rw (c.loop-u.invariant.1, all)
          (get_d_over a.units (by_head a.heads.now a.said.now) _ u 0 h (omega (arith, h, c.requires.0))),
    )
