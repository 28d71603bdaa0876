-- The level goes over as its 16 bits.
use mir.Syntax.{w16}
use mir.ValLaws.{to_z-of_z}
use Rattle.survey_c.proofs.live_tables.link_survey_live_add.Goals as goal

pub returns : goal.returns
returns c = rw (to_z-of_z w16 c.args.level c.ranges.level) at c.add.ensures
