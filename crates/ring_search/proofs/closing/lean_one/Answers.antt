-- A link that is not within the order, or one that is.
use mathlib.Core.Path.{sym, ◌∙◌}
use Rattle.theory_ears.specs.Found.{leans_skip, leans_store}
use Rattle.theory_ears.specs.Present.{sure}
use mathlib.Core.Path.{refl}
use Rattle.ring_search.proofs.closing.lean_one.Goals as goal

pub returns-then-not-within : goal.returns-then-not-within
returns-then-not-within c =
    let a = c.args in
    leans_skip (sure a.marks.now) a.ends.now a.pos.now a.j a.low.now a.high.now
    (sym c.within.ensures ∙ c.if-not-within.true)

pub returns : goal.returns
returns c =
    let a = c.args in
    leans_store (sure a.marks.now) a.ends.now a.pos.now a.j a.low.now a.high.now
    c.store.new.t c.store-2.new.t
    c.end_a-a.result c.end_b-b.result c.at.result c.at-2.result
    c.choose-lower.result c.choose-higher.result _ (sym c.within.ensures
    ∙ c.if-not-within.false)
    c.end_a-a.ensures c.end_b-b.ensures c.at.ensures c.at-2.ensures refl
    c.choose-lower.ensures c.choose-higher.ensures c.store.ensures
    c.store-2.ensures
