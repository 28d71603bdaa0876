-- Cleared memory has no chain.
use Rattle.std.proofs.Common.{replicate}
use Rattle.leap_search.specs.Chains.{chains_none, zeros-at}
use Rattle.leap_search.proofs.neighbours.chained.Goals as goal

pub loop-j-init : goal.loop-j-init
loop-j-init c = chains_none (replicate 256 0) c.args.next.now (zeros-at 256)
