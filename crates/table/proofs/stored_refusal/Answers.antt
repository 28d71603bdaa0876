-- The first part that refuses: counts, levels, ends.
use mathlib.Core.Path.{◌≡◌, sym, ◌∙◌}
use Rattle.table.specs.Table.{count_refusal, level_refusal}
use Rattle.table.specs.TableLaws.{table-counts, table-levels, table-ends, counted-units}
use Rattle.table.proofs.stored_refusal.Goals as goal

pub returns-then-number-ne0 : goal.returns-then-number-ne0
returns-then-number-ne0 c =
    let a = c.args in
    let e = c.counts-number.ensures in
    e ∙ table-counts a.units a.table.now a.levels.now (λ z. c.if-number-ne0.true (e ∙ z))

pub returns-then-later-ne0 : goal.returns-then-later-ne0
returns-then-later-ne0 c =
    let counted : count_refusal c.args.units
    c.args.table.now ≡ 0 = sym c.counts-number.ensures ∙ c.if-number-ne0.false in
    let a = c.args in
    let e = c.levelled-later.ensures in
    e ∙ table-levels a.units a.table.now a.levels.now (counted)
    (λ z. c.if-later-ne0.true (e ∙ z))

pub ends-requires : goal.ends-requires
ends-requires c =
    let counted : count_refusal c.args.units
    c.args.table.now ≡ 0 = sym c.counts-number.ensures ∙ c.if-number-ne0.false in
    let a = c.args in
    counted-units a.units a.table.now (counted)

pub returns : goal.returns
returns c =
    let counted : count_refusal c.args.units
    c.args.table.now ≡ 0 = sym c.counts-number.ensures ∙ c.if-number-ne0.false in
    let passed : level_refusal c.args.table.now
    c.args.levels.now ≡ 0 = sym c.levelled-later.ensures ∙ c.if-later-ne0.false in
    let a = c.args in
    c.ends.ensures ∙ table-ends a.units a.table.now a.levels.now (counted)
    (passed)
