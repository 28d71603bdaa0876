-- By its entries and its parent's.
use Rattle.spec_rules.specs.Aux.{joins_parent}
use Rattle.stage08_joins.proofs.joins_parent.Goals as goal

pub returns : goal.returns
unfolding joins_parent
returns c = cc
