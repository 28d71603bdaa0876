-- Group by group.
use mathlib.Core.Path.{refl}
use Rattle.words_load.proofs.front.Goals as goal

pub returns : goal.returns
returns c =
    rw (
      c.lay_plan.ensures,
      c.unplanned-plan.ensures,
      c.lay_order.ensures,
      c.order-order.ensures,
      c.lay_ranking.ensures,
      c.ranking-ranking.ensures,
      c.lay_tour.ensures,
      c.tour-tour.ensures,
      c.lay_tree.ensures,
      c.tree-tree.ensures,
      c.lay_components.ensures,
      c.components-components.ensures,
    ) refl
