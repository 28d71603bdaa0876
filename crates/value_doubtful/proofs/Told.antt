-- What is told where only some settings have a ring with both.
use Rattle.value_doubtful.specs.DoubtRightProof.{told-perhaps}

pub ruleset told = (told-perhaps)
