-- By what is copied over zeros.
use Rattle.base_copies.specs.CopyLaws.{part_or}
use Rattle.base_copies.proofs.table_at.Goals as goal

pub returns : goal.returns
returns g c = part_or _ _ _ c.copy.ensures
