-- As many levels as links, each in range.
use mathlib.Core.Path.{◌≡◌, refl, sym, ◌∙◌}
use mathlib.Core.Bool.{false}
use Prim.Native.Nat.{◌/◌}
use lib.ListN.{length}
use borrow.Author.Tests.{eq-eqb, ne_eqb}
use Rattle.table.specs.Table.{levels_differ}
use Rattle.table.specs.TableLaws.{refused_15, refused_16, levels-passed}
use Rattle.table.proofs.levelled.Goals as goal

pub returns-then-levels-table : goal.returns-then-levels-table
returns-then-levels-table c =
    let a = c.args in
    refused_15 a.table.now a.levels.now
    (rw (ne_eqb (length a.levels.now) (length a.table.now / 2) c.if-levels-table.true) refl)

pub returns-then-all_in_range : goal.returns-then-all_in_range
returns-then-all_in_range c =
    let p15 : levels_differ c.args.table.now c.args.levels.now
    ≡ false = let a = c.args in rw
    (eq-eqb (length a.levels.now) (length a.table.now / 2) c.if-levels-table.false) refl in
    let a = c.args in
    levels-passed a.table.now a.levels.now (p15) (sym c.all_in_range.ensures ∙ c.if-all_in_range.true)

pub returns-else-all_in_range : goal.returns-else-all_in_range
returns-else-all_in_range c =
    let p15 : levels_differ c.args.table.now c.args.levels.now
    ≡ false = let a = c.args in rw
    (eq-eqb (length a.levels.now) (length a.table.now / 2) c.if-levels-table.false) refl in
    let a = c.args in
    refused_16 a.table.now a.levels.now (p15) (sym c.all_in_range.ensures ∙ c.if-all_in_range.false)
