-- Table by table.
use mathlib.Core.Path.{refl}
use Rattle.words_layout.specs.Layout.{state_of}
use borrow.Author.Rules.{rules}
use Rattle.words_layout.proofs.take.labels_at.Goals as goal

pub returns : goal.returns
unfolding state_of
returns c = rw (c.table_at-class.ensures.0 (search rules), c.table_at-label.ensures.0 (search rules)) refl
