-- Group by group.
use mathlib.Core.Path.{refl}
use Rattle.spec_machine.specs.Load.{begun}
use Rattle.survey.proofs.whole.Survey.begun.Goals as goal

pub returns : goal.returns
unfolding begun
returns c =
    rw (
      c.labels-labels.ensures,
      c.aux-aux.ensures,
      c.global-global.ensures,
      c.range-range.ensures,
      c.order-order.ensures,
      c.ranking-ranking.ensures,
      c.tour-tour.ensures,
      c.tree-tree.ensures,
      c.unplanned-plan.ensures,
      c.components-components.ensures,
      c.clock-clock.ensures,
    ) refl
