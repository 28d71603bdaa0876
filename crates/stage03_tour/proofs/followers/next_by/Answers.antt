-- Unit by unit, from the tables.
use mathlib.Core.Path.{◌≡◌, refl, ◌∙◌}
use Prim.Native.Nat.{◌+◌, ◌*◌}
use native.Mathlib.Nat.{le_antisymm}
use Rattle.base_lists.specs.Rounds.{over-pair}
use Rattle.spec_rules.specs.TourLaws.{stored_next, next_stored}
use Rattle.spec_rules.specs.NextLaws.{next-exact}
use Rattle.stage03_tour.specs.Neighbors.{in_right, out-right}
use borrow.Author.Rules.{rules}
use Rattle.stage03_tour.proofs.followers.next_by.Goals as goal

pub loop-v-preserved : goal.loop-v-preserved
loop-v-preserved c =
    let a = c.args in
    let is-in : c.in_by.result ≡ stored_next a.units a.parent.now (2 * c.loop-v.v) =
    c.in_by.ensures
    ∙ in_right a.units a.parent.now a.eldest.now a.later.now a.past.now c.requires.parents c.requires.eldest_len.1
    c.requires.later_len.1 c.requires.past_len.1 c.loop-v.v c.loop-v-test.true in
    let is-out : c.out_by.result ≡ stored_next a.units a.parent.now (2 * c.loop-v.v + 1) =
    c.out_by.ensures
    ∙ out-right a.units a.parent.now a.eldest.now a.later.now a.past.now c.requires.parents c.requires.eldest_len.1
    c.requires.later_len.1 c.requires.past_len.1 c.loop-v.v c.loop-v-test.true in (
      search rules,
      search rules,
      over-pair c.loop-v.v (stored_next a.units a.parent.now) _ _ _ _ _ c.loop-v.invariant.2 (λ _. is-in)
          (λ _. is-out) refl,
    )

pub returns : goal.returns
unfolding next_stored
returns c =
    let a = c.args in
    rw (le_antisymm c.loop-v.invariant.0 c.loop-v-test.false) at c.loop-v.invariant.2
    ∙ next-exact a.units a.parent.now c.requires.parents.0 c.requires.parents.1.1 _
