-- By its two tests.
use mathlib.Core.Path.{refl, sym, ap, ◌∙◌}
use mathlib.Core.Bool.{not}
use lib.Dec.{eqb}
use Rattle.spec_state.specs.declared.groups.Clock.{Clock}
use Rattle.spec_channel.specs.Office.{waiting}
use Rattle.words_seat_tests.proofs.waiting.Goals as goal

pub returns-then-not-empty : goal.returns-then-not-empty
unfolding waiting
returns-then-not-empty c =
    rw (sym c.empty.ensures ∙ c.if-not-empty.true)
    (ap (λ (k : Clock). not (eqb k.stage 11)) c.clock_at.ensures)

pub returns-else-not-empty : goal.returns-else-not-empty
unfolding waiting
returns-else-not-empty c = rw (sym c.empty.ensures ∙ c.if-not-empty.false) (ap not c.if-not-empty.false)
