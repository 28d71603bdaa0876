-- By the tests in order.
use mathlib.Core.Path.{sym, ◌∙◌}
use Rattle.value_lifting.specs.LiftingLaws.{early_malformed, early_running, early-none}
use Rattle.survey.specs.View.{of}
use Rattle.value_lifting.proofs.early_refusal.Goals as goal

pub returns-then-not-well_formed : goal.returns-then-not-well_formed
returns-then-not-well_formed c = early_malformed (of c.args.s) (sym c.well_formed-2.ensures ∙ c.if-not-well_formed.true)

pub returns-then-s-ne-FINISHED : goal.returns-then-s-ne-FINISHED
returns-then-s-ne-FINISHED c =
    early_running (of c.args.s) (sym c.well_formed-2.ensures
    ∙ c.if-not-well_formed.false) c.if-s-ne-FINISHED.true

pub returns : goal.returns
returns c =
    early-none (of c.args.s) (sym c.well_formed-2.ensures
    ∙ c.if-not-well_formed.false) c.if-s-ne-FINISHED.false
