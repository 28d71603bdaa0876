-- A stored table's refusal comes first; then, of a fresh table, 22. A table that passes so far has at most 256 units.
use mathlib.Core.Path.{◌≡◌, sym, ◌∙◌}
use Rattle.table.specs.Table.{stored_refusal}
use Rattle.table.proofs.Passes.{passes, table-alone}
use Rattle.table.proofs.FreshReplies.{as_refused, as_stored, as_unlinked, as_linked}
use Rattle.table.proofs.refusal.Goals as goal

pub returns-then-number-ne0 : goal.returns-then-number-ne0
returns-then-number-ne0 c =
    let a = c.args in
    let r = c.stored_refusal-number.ensures in
    r ∙ as_refused a.fresh a.units a.table.now a.levels.now (λ z. c.if-number-ne0.true (r ∙ z))

pub returns-then-not-fresh : goal.returns-then-not-fresh
returns-then-not-fresh c =
    let none : stored_refusal c.args.units
    c.args.table.now c.args.levels.now ≡ 0 = sym c.stored_refusal-number.ensures ∙ c.if-number-ne0.false in
    let a = c.args in
    as_stored a.fresh a.units a.table.now a.levels.now c.if-not-fresh.true (none)

pub unlinked-requires : goal.unlinked-requires
unlinked-requires c =
    let none : stored_refusal c.args.units
    c.args.table.now c.args.levels.now ≡ 0 = sym c.stored_refusal-number.ensures ∙ c.if-number-ne0.false in
    let a = c.args in
    (passes a.units a.table.now (table-alone a.units a.table.now a.levels.now (none))).few_units

pub returns-then-unlinked : goal.returns-then-unlinked
returns-then-unlinked c =
    let none : stored_refusal c.args.units
    c.args.table.now c.args.levels.now ≡ 0 = sym c.stored_refusal-number.ensures ∙ c.if-number-ne0.false in
    let a = c.args in
    as_unlinked a.fresh a.units a.table.now a.levels.now c.if-not-fresh.false (none)
    (sym c.unlinked.ensures ∙ c.if-unlinked.true)

pub returns-else-unlinked : goal.returns-else-unlinked
returns-else-unlinked c =
    let none : stored_refusal c.args.units
    c.args.table.now c.args.levels.now ≡ 0 = sym c.stored_refusal-number.ensures ∙ c.if-number-ne0.false in
    let a = c.args in
    as_linked a.fresh a.units a.table.now a.levels.now c.if-not-fresh.false (none)
    (sym c.unlinked.ensures ∙ c.if-unlinked.false)
