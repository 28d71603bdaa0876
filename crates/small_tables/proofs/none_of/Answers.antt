-- By the record.
use Rattle.small_tables.specs.SmallLaws.{blank}
use borrow.Author.Rules.{rules}
use Rattle.small_tables.proofs.none_of.Goals as goal

pub returns : goal.returns
unfolding blank
returns c = search rules
