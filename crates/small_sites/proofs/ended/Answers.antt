-- The state of the answer.
use mathlib.Core.Path.{ap}
use Rattle.spec_machine.specs.Calls.{Answer}
use Rattle.small_sites.proofs.ended.Goals as goal

pub returns : goal.returns
returns c = ap (λ (a : Answer). a.state) c.run-ran.ensures
