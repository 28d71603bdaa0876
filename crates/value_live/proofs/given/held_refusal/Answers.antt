-- By the checks in order.
use mathlib.Core.Path.{sym, ◌∙◌}
use Rattle.live_table.specs.GivenLaws.{held-refused, held-miscounted, held-right}
use Rattle.value_live.proofs.given.held_refusal.Goals as goal

pub returns-then-refused-ne0 : goal.returns-then-refused-ne0
returns-then-refused-ne0 c =
    let a = c.args in
    c.refusal-refused.ensures ∙ held-refused a.units a.links a.words.now a.levels.now a.counts.now
    (λ z. c.if-refused-ne0.true (c.refusal-refused.ensures ∙ z))

pub returns-then-miscounted : goal.returns-then-miscounted
returns-then-miscounted c =
    let a = c.args in
    held-miscounted a.units a.links a.words.now a.levels.now a.counts.now (sym c.refusal-refused.ensures
    ∙ c.if-refused-ne0.false) (sym c.miscounted.ensures ∙ c.if-miscounted.true)

pub returns : goal.returns
returns c =
    let a = c.args in
    held-right a.units a.links a.words.now a.levels.now a.counts.now (sym c.refusal-refused.ensures
    ∙ c.if-refused-ne0.false) (sym c.miscounted.ensures ∙ c.if-miscounted.false)
