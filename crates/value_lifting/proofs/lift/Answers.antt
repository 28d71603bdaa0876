-- Refused early, or by what is told of the tables.
use mathlib.Core.Path.{◌≡◌, sym, ◌∙◌}
use lib.ListN.{length}
use Rattle.value_lifting.specs.LiftingLaws.{told-early, told-refused, told-lifted}
use Rattle.survey.specs.View.{of}
use borrow.Author.Rules.{rules}
use Rattle.value_lifting.proofs.lift.Goals as goal

pub returns-then-early-ne0 : goal.returns-then-early-ne0
returns-then-early-ne0 c = let a = c.args in let all =
    told-early (of a.survey) a.pairs.now a.out.now c.early_refusal-early.result c.early_refusal-early.ensures
    c.if-early-ne0.true in record { reply = all.0; lent = all.1 }

pub returns-then-refused-ne0 : goal.returns-then-refused-ne0
returns-then-refused-ne0 c =
    let a = c.args in
    let long : length a.survey.table.ends ≡ 2048 =
    search (
      c.write-arg-3-1.given,
      c.write-arg-2-1.given,
      c.write-arg-1.given,
      rules,
    ) in let all = told-refused (of a.survey) a.pairs.now a.out.now c.write-refused.result _
    (sym c.early_refusal-early.ensures
    ∙ c.if-early-ne0.false) long c.write-refused.ensures.number c.write-refused.ensures.lent c.if-refused-ne0.true in
    record { reply = all.0; lent = all.1 }

pub returns : goal.returns
returns c =
    let a = c.args in
    let long : length a.survey.table.ends ≡ 2048 =
    search (
      c.write-arg-3-1.given,
      c.write-arg-2-1.given,
      c.write-arg-1.given,
      rules,
    ) in let all = told-lifted (of a.survey) a.pairs.now a.out.now c.write-refused.result _
    (sym c.early_refusal-early.ensures
    ∙ c.if-early-ne0.false) long c.write-refused.ensures.number c.write-refused.ensures.lent c.if-refused-ne0.false in
    record { reply = all.0; lent = all.1 }
