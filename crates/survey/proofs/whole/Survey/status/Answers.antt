-- By whether the state is well formed.
use mathlib.Core.Path.{sym, ◌∙◌}
use Rattle.spec_machine.specs.KeptLaws.{kept-countdown}
use Rattle.spec_machine.specs.AnswerLaws.{status-refused, status-made}
use Rattle.survey.specs.View.{of}
use Rattle.survey.proofs.whole.Survey.status.Goals as goal

pub returns-then-not-well_formed : goal.returns-then-not-well_formed
returns-then-not-well_formed c =
    status-refused (of c.args.self) (sym c.well_formed-2.ensures
    ∙ c.if-not-well_formed.true)

pub returns : goal.returns
returns c =
    let s = of c.args.self in
    let well = sym c.well_formed-2.ensures ∙ c.if-not-well_formed.false in
    rw (c.countdown.ensures ∙ kept-countdown s well) (status-made s well)
