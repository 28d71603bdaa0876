-- Refused, or by the verdict on the tables.
use mathlib.Core.Path.{◌≡◌, sym, ◌∙◌}
use lib.ListN.{length}
use Rattle.words_layout.specs.Layout.{state_of}
use Rattle.value_doubtful.specs.Doubtful.{doubt_refusal}
use Rattle.words_requests.specs.DoubtSaidLaws.{doubt_not_asked, doubt_said}
use borrow.Author.Rules.{rules}
use Rattle.words_requests.proofs.doubt.Goals as goal

pub returns-then-refused-ne0 : goal.returns-then-refused-ne0
unfolding doubt_refusal
returns-then-refused-ne0 c =
    let a = c.args in
    doubt_not_asked a.first a.second a.marks.now (state_of a.state.now) a.verdict.now
    c.two_links-refused.result (rw c.table_at-table.ensures at c.two_links-refused.ensures) c.if-refused-ne0.true

pub returns : goal.returns
unfolding doubt_refusal
returns c =
    let a = c.args in
    let known : length c.table_at-table.result.ends ≡ 2048 = search rules in
    doubt_said a.first a.second a.marks.now (state_of a.state.now) a.verdict.now c.judged-told.result _
    (sym (rw c.table_at-table.ensures at c.two_links-refused.ensures) ∙ c.if-refused-ne0.false)
    (rw c.table_at-table.ensures at known) c.judged-told.ensures.number
    (rw c.table_at-table.ensures at c.judged-told.ensures.told)
    c.word_of.ensures
