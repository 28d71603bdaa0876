-- The table's own refusal comes first; a table that passes has so few links that the file's length fits.
use mathlib.Core.Path.{◌≡◌, sym, ◌∙◌}
use native.Mathlib.Omega.{arith}
use Rattle.table.specs.Table.{fresh_refusal}
use Rattle.table.proofs.Passes.{Passes, passes, table-alone}
use Rattle.table.proofs.FreshReplies.{fresh-accepted}
use Rattle.file_write.specs.WriteLaws.{write_table, write_14, write_0}
use Rattle.file_write.proofs.writer.refusal.Goals as goal

pub returns-then-refused-ne0 : goal.returns-then-refused-ne0
returns-then-refused-ne0 c =
    let a = c.args in
    let r = c.refusal-refused.ensures in
    r ∙ write_table a.units a.words.now a.levels.now a.places (λ z. c.if-refused-ne0.true (r ∙ z))

pub overflow_mul-words : goal.overflow_mul-words
overflow_mul-words c =
    let none : fresh_refusal c.args.units
    c.args.words.now c.args.levels.now ≡ 0 = sym c.refusal-refused.ensures ∙ c.if-refused-ne0.false in
    let passed : Passes c.args.units c.args.words.now = let a = c.args in
    passes a.units a.words.now (table-alone a.units a.words.now a.levels.now
    (fresh-accepted a.units a.words.now a.levels.now (none))) in
    omega (arith, (passed).few_links)

pub overflow_add-words : goal.overflow_add-words
overflow_add-words c =
    let none : fresh_refusal c.args.units
    c.args.words.now c.args.levels.now ≡ 0 = sym c.refusal-refused.ensures ∙ c.if-refused-ne0.false in
    let passed : Passes c.args.units c.args.words.now = let a = c.args in
    passes a.units a.words.now (table-alone a.units a.words.now a.levels.now
    (fresh-accepted a.units a.words.now a.levels.now (none))) in
    omega (arith, (passed).few_links)

pub returns-then-places-words : goal.returns-then-places-words
returns-then-places-words c =
    let none : fresh_refusal c.args.units
    c.args.words.now c.args.levels.now ≡ 0 = sym c.refusal-refused.ensures ∙ c.if-refused-ne0.false in
    let a = c.args in
    write_14 a.units a.words.now a.levels.now a.places (none) c.if-places-words.true

pub returns : goal.returns
returns c =
    let none : fresh_refusal c.args.units
    c.args.words.now c.args.levels.now ≡ 0 = sym c.refusal-refused.ensures ∙ c.if-refused-ne0.false in
    let a = c.args in
    write_0 a.units a.words.now a.levels.now a.places (none) c.if-places-words.false
