-- One entry is set.
use Rattle.lifting_order.specs.Standing.{reached-at}
use borrow.Author.Rules.{rules}
use Rattle.lifting_order.proofs.growth.reached.Goals as goal

pub returns : goal.returns
returns c = reached-at c.zeros-near.result (search rules) c.zeros-near.ensures
