-- Link by link, from the buckets.
use mathlib.Core.Path.{refl, ◌∙◌}
use Rattle.base_lists.specs.Rounds.{over-more, over-all}
use Rattle.spec_rules.specs.LabelsLaws.{label_round_lem}
use borrow.Author.Rules.{rules}
use Rattle.stage10_labels.proofs.label_round.Goals as goal

pub loop-j-preserved : goal.loop-j-preserved
loop-j-preserved c = (
  search rules,
  search rules,
  over-more _ _ _ _ _ _ c.loop-j.invariant.2 c.first_by.ensures refl,
)

pub returns : goal.returns
returns c =
    let a = c.args in
    c.loop-j.invariant.2 ∙ over-all _ _ _ _ c.loop-j.invariant.0 c.loop-j-test.false
    ∙ label_round_lem a.links a.class.now c.firsts-first.result c.first_at-absent.result a.label c.firsts-first.ensures
    c.first_at-absent.ensures
