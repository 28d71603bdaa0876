-- By what is copied over zeros.
use Rattle.base_copies.specs.CopyLaws.{levels_or}
use Rattle.base_copies.proofs.levels_at.Goals as goal

pub returns : goal.returns
returns c = levels_or 1024 _ _ c.copy_levels.ensures
