-- By the two tests in order.
use mathlib.Core.Path.{refl}
use borrow.Author.Tests.{eq-eqb, ne_eqb}
use Rattle.survey.proofs.running.refusal.Goals as goal

pub returns-then-not-well : goal.returns-then-not-well
returns-then-not-well c = rw c.if-not-well.true refl

pub returns-then-stage-eq-FINISHED : goal.returns-then-stage-eq-FINISHED
returns-then-stage-eq-FINISHED c =
    rw (
      c.if-not-well.false,
      eq-eqb c.args.stage 11 c.if-stage-eq-FINISHED.true,
    ) refl

pub returns-else-stage-eq-FINISHED : goal.returns-else-stage-eq-FINISHED
returns-else-stage-eq-FINISHED c =
    rw (
      c.if-not-well.false,
      ne_eqb c.args.stage 11 c.if-stage-eq-FINISHED.false,
    ) refl
