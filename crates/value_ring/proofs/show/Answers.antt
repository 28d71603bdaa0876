-- Refused, or by what is told of the tables.
use mathlib.Core.Path.{◌≡◌, sym, ◌∙◌}
use lib.ListN.{length}
use Rattle.value_ring.specs.Shown.{shown_refusal}
use Rattle.value_ring.specs.ShownRightProof.{shown-refused, shown-none, shown-ring}
use Rattle.survey.specs.View.{of}
use borrow.Author.Rules.{rules}
use Rattle.value_ring.proofs.show.Goals as goal

pub returns-then-refused-ne0 : goal.returns-then-refused-ne0
unfolding shown_refusal
returns-then-refused-ne0 c =
    let a = c.args in
    shown-refused a.first a.second (of a.survey) a.out.now c.two_links-refused.result
    (rw c.well_formed-2.ensures at c.two_links-refused.ensures) c.if-refused-ne0.true

pub returns-then-count-eq0 : goal.returns-then-count-eq0
unfolding shown_refusal
returns-then-count-eq0 c =
    let a = c.args in
    let passed : shown_refusal a.first a.second (length a.out.now) (of a.survey) ≡ 0 =
    sym (rw c.well_formed-2.ensures at c.two_links-refused.ensures) ∙ c.if-refused-ne0.false in
    let whole : length a.survey.table.ends ≡ 2048 = search rules in
    shown-none a.first a.second (of a.survey) a.out.now _ c.lay_ring-count.result passed whole
    c.lay_ring-count.ensures.laid
    c.if-count-eq0.true

pub returns : goal.returns
unfolding shown_refusal
returns c =
    let a = c.args in
    let passed : shown_refusal a.first a.second (length a.out.now) (of a.survey) ≡ 0 =
    sym (rw c.well_formed-2.ensures at c.two_links-refused.ensures) ∙ c.if-refused-ne0.false in
    let whole : length a.survey.table.ends ≡ 2048 = search rules in
    shown-ring a.first a.second (of a.survey) a.out.now _ c.lay_ring-count.result passed whole
    c.lay_ring-count.ensures.laid
    c.if-count-eq0.false
