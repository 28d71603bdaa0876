-- Refused, or by what is laid.
use mathlib.Core.Path.{◌≡◌, sym, ◌∙◌}
use lib.ListN.{length}
use Rattle.words_layout.specs.Layout.{state_of}
use Rattle.value_ring.specs.Shown.{shown_refusal}
use Rattle.words_requests.specs.RingSaidLaws.{ring-refused, ring-said}
use borrow.Author.Rules.{rules}
use Rattle.words_requests.proofs.ring.Goals as goal

pub returns-then-refused-ne0 : goal.returns-then-refused-ne0
unfolding shown_refusal
returns-then-refused-ne0 c =
    let a = c.args in
    ring-refused a.first a.second (state_of a.state.now) a.out.now a.count.now c.two_links-refused.result
    (rw c.table_at-table.ensures at c.two_links-refused.ensures) c.if-refused-ne0.true

pub returns : goal.returns
unfolding shown_refusal
returns c =
    let a = c.args in
    let known : length c.table_at-table.result.ends ≡ 2048 = search rules in
    ring-said a.first a.second (state_of a.state.now) a.out.now a.count.now _ c.lay_ring.result
    (sym (rw c.table_at-table.ensures at c.two_links-refused.ensures) ∙ c.if-refused-ne0.false)
    (rw c.table_at-table.ensures at known) (rw c.table_at-table.ensures at c.lay_ring.ensures.laid)
