-- The first part that refuses: counts, ends.
use mathlib.Core.Path.{◌≡◌, sym, ◌∙◌}
use Rattle.table.specs.Table.{count_refusal}
use Rattle.table.specs.TableLaws.{unlevelled_counts, unlevelled_ends, counted-units}
use Rattle.table.proofs.unlevelled.Goals as goal

pub returns-then-number-ne0 : goal.returns-then-number-ne0
returns-then-number-ne0 c =
    let a = c.args in
    let e = c.counts-number.ensures in
    e ∙ unlevelled_counts a.units a.table.now a.ordered (λ z. c.if-number-ne0.true (e ∙ z))

pub ends-requires : goal.ends-requires
ends-requires c =
    let counted : count_refusal c.args.units
    c.args.table.now ≡ 0 = sym c.counts-number.ensures ∙ c.if-number-ne0.false in
    let a = c.args in
    counted-units a.units a.table.now (counted)

pub returns : goal.returns
returns c =
    let counted : count_refusal c.args.units
    c.args.table.now ≡ 0 = sym c.counts-number.ensures ∙ c.if-number-ne0.false in
    let a = c.args in
    c.ends.ensures ∙ unlevelled_ends a.units a.table.now a.ordered (counted)
