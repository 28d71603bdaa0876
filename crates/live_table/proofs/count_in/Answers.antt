-- One after the other.
use Rattle.live_table.specs.CountLaws.{counted_in}
use Rattle.live_table.proofs.count_in.Goals as goal

pub returns : goal.returns
unfolding counted_in
returns c = cc
