-- Unit by unit.
use mathlib.Core.Path.{◌≡◌, refl}
use borrow.Author.Rules.{rules}
use Rattle.base_lists.specs.Rounds.{over-more}
use Rattle.stage09_aux.specs.Heads.{least_of}
use Rattle.stage09_aux.proofs.heads.least.Goals as goal

pub loop-v-preserved : goal.loop-v-preserved
loop-v-preserved c =
    let a = c.args in
    let is : c.choose.result ≡ least_of a.parent.now a.told.now a.t.now c.loop-v.v = search rules in
    over-more _ _ _ _ _ _ c.loop-v.invariant is refl
