-- Its label is counted.
use Rattle.report_flags.specs.Sharing.{lone-sharing}
use Rattle.report_flags.proofs.links.lone.Goals as goal

pub returns : goal.returns
returns c = rw (c.sharing.ensures, c.word.ensures) (lone-sharing _ _ _)
