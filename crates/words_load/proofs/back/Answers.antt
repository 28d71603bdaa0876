-- Group by group.
use mathlib.Core.Path.{refl}
use Rattle.words_load.proofs.back.Goals as goal

pub returns : goal.returns
returns c =
    rw (
      c.lay_labels.ensures,
      c.labels-labels.ensures,
      c.lay_aux.ensures,
      c.aux-aux.ensures,
      c.lay_global.ensures,
      c.global-global.ensures,
      c.lay_range.ensures,
      c.range-range.ensures,
    ) refl
