-- From the tables taken out.
use mathlib.Core.Path.{refl}
use Rattle.words_calls.proofs.questions.unit_values.Goals as goal

pub returns : goal.returns
returns c =
    rw (
      c.single.ensures,
      c.word-place.ensures,
      c.word-parent.ensures,
      c.word-color.ensures,
      c.order_at-order.ensures,
      c.tree_at-tree.ensures,
      c.components_at-components.ensures,
    ) refl
