-- The reply of the answer.
use mathlib.Core.Path.{ap, ◌∙◌}
use Rattle.spec_machine.specs.Calls.{Answer}
use Rattle.small_sites.specs.Sites.{told_single}
use Rattle.small_sites.proofs.single.Goals as goal

pub returns : goal.returns
returns c = c.told.ensures ∙ ap (λ (a : Answer). told_single a.reply) c.unit-answer.ensures
