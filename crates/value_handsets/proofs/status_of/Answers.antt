-- The clock, and the countdown of a well-formed state.
use mathlib.Core.Path.{refl, ◌∙◌}
use Rattle.spec_machine.specs.KeptLaws.{kept-countdown}
use Rattle.survey.specs.View.{of}
use Rattle.value_handsets.proofs.status_of.Goals as goal

pub returns : goal.returns
returns c = rw (c.countdown.ensures ∙ kept-countdown (of c.args.s) c.requires) refl
