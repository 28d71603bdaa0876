-- Refused, or by the verdict on the tables.
use mathlib.Core.Path.{◌≡◌, sym, ◌∙◌}
use lib.ListN.{length}
use Rattle.value_doubtful.specs.Doubtful.{doubt_refusal}
use Rattle.value_doubtful.specs.DoubtRightProof.{doubt_refused, doubt_told}
use Rattle.survey.specs.View.{of}
use borrow.Author.Rules.{rules}
use Rattle.value_doubtful.proofs.doubt.Goals as goal

pub returns-then-refused-ne0 : goal.returns-then-refused-ne0
unfolding doubt_refusal
returns-then-refused-ne0 c =
    let a = c.args in
    doubt_refused a.first a.second a.marks.now (of a.survey) c.two_links-refused.result
    (rw c.well_formed-2.ensures at c.two_links-refused.ensures) c.if-refused-ne0.true

pub returns : goal.returns
unfolding doubt_refusal
returns c =
    let a = c.args in
    let long : length a.survey.table.ends ≡ 2048 =
    search (c.judged-arg-2-1.given, c.judged-arg-1.given, rules) in
    doubt_told a.first a.second a.marks.now (of a.survey) c.judged-reply.result
    (sym (rw c.well_formed-2.ensures at c.two_links-refused.ensures)
    ∙ c.if-refused-ne0.false) long c.judged-reply.ensures.number c.judged-reply.ensures.told
