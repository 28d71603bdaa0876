-- As `load_as` answers.
use Rattle.spec_machine.specs.Calls.{stored_load_answer}
use Rattle.survey.proofs.whole.Survey.load_stored.Goals as goal

pub returns : goal.returns
unfolding stored_load_answer
returns c = c.load_as.ensures
