-- By its two tests.
use mathlib.Core.Path.{refl, sym, ap, ◌∙◌}
use mathlib.Core.Bool.{not}
use Rattle.spec_channel.specs.Office.{spoilt}
use Rattle.words_seat_tests.proofs.spoilt.Goals as goal

pub returns-then-not-empty : goal.returns-then-not-empty
unfolding spoilt
returns-then-not-empty c = rw (sym c.empty.ensures ∙ c.if-not-empty.true) (ap not c.kept.ensures)

pub returns-else-not-empty : goal.returns-else-not-empty
unfolding spoilt
returns-else-not-empty c = rw (sym c.empty.ensures ∙ c.if-not-empty.false) (ap not c.if-not-empty.false)
