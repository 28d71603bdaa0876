-- Every entry is the one value.
use lib.ListN.{get_or-replicate}
use Rattle.load_plan.proofs.near.no_marks.Goals as goal

pub returns : goal.returns
returns c = λ i h. get_or-replicate 256 i 0 0 h
