-- From the tables taken out.
use mathlib.Core.Path.{refl}
use Rattle.words_calls.proofs.questions.single.Goals as goal

pub returns : goal.returns
returns c =
    rw (
      c.word_of.ensures,
      c.single.ensures,
      c.labels_at-labels.ensures,
      c.table_at-table.ensures,
    ) refl
