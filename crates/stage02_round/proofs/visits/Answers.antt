-- The three entries read tell.
use Rattle.std.proofs.Common.{eq-eqb, ne_eqb}
use Rattle.spec_rules.specs.TreeLaws.{visits_by}
use Rattle.stage02_round.proofs.visits.Goals as goal

pub returns-then-made-eq0 : goal.returns-then-made-eq0
unfolding visits_by
returns-then-made-eq0 c = rw (eq-eqb c.args.made 0 c.if-made-eq0.true)

pub returns-else-made-eq0 : goal.returns-else-made-eq0
unfolding visits_by
returns-else-made-eq0 c = rw (ne_eqb c.args.made 0 c.if-made-eq0.false)
