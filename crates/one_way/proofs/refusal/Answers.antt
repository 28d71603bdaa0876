-- The first part that refuses: the table, 14.
use Rattle.one_way.specs.NumberingLaws.{strong-table, strong-short, strong-passed}
use Rattle.std.proofs.Common.{sym, ◌∙◌}
use Rattle.one_way.proofs.refusal.Goals as goal

pub returns-then-number-ne0 : goal.returns-then-number-ne0
returns-then-number-ne0 c =
    c.pair_refusal-number.ensures ∙ strong-table c.args.units c.args.links.now c.args.words
    (λ z. c.if-number-ne0.true (c.pair_refusal-number.ensures ∙ z))

pub returns-then-words-units : goal.returns-then-words-units
returns-then-words-units c =
    strong-short c.args.units c.args.links.now c.args.words (sym c.pair_refusal-number.ensures
    ∙ c.if-number-ne0.false) c.if-words-units.true

pub returns-else-words-units : goal.returns-else-words-units
returns-else-words-units c =
    strong-passed c.args.units c.args.links.now c.args.words (sym c.pair_refusal-number.ensures
    ∙ c.if-number-ne0.false) c.if-words-units.false
