-- What the answer carries.
use mathlib.Core.Path.{sym, ap}
use Rattle.small_sites.specs.Sites.{told_single}
use Rattle.small_sites.proofs.told.Goals as goal

pub returns-in-Unit : goal.returns-in-Unit
returns-in-Unit c = sym (ap told_single c.in-Unit.is)
