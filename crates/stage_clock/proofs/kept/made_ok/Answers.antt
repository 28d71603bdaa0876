-- By the stage.
use mathlib.Core.Path.{refl}
use borrow.Author.Tests.{eq-eqb, ne_eqb}
use Rattle.spec_machine.specs.WellFormed.{made_ok}
use Rattle.stage_clock.proofs.kept.made_ok.Goals as goal

pub returns-then-c-eq-FINISHED : goal.returns-then-c-eq-FINISHED
unfolding made_ok
returns-then-c-eq-FINISHED c = rw (eq-eqb c.args.c.stage 11 c.if-c-eq-FINISHED.true) refl

pub returns-else-c-eq-FINISHED : goal.returns-else-c-eq-FINISHED
unfolding made_ok
returns-else-c-eq-FINISHED c =
    rw (
      ne_eqb c.args.c.stage 11 c.if-c-eq-FINISHED.false,
      c.ceiling.ensures,
    ) refl
