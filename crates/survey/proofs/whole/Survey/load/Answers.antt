-- As `load_as` answers.
use Rattle.spec_machine.specs.Calls.{load_answer}
use Rattle.survey.proofs.whole.Survey.load.Goals as goal

pub returns : goal.returns
unfolding load_answer
returns c = c.load_as.ensures
