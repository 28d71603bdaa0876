-- One more for each object passed that asks.
use Rattle.std.proofs.Common.{rules}
use Rattle.spec_rules.specs.Ranking.{requests_of}
use Rattle.stage04_ranking.proofs.requests.Goals as goal

pub returns : goal.returns
unfolding requests_of
returns c = search rules
