-- A first round never ends the stage.
use Rattle.std.proofs.Common.{eq-eqb, ne_eqb}
use Rattle.spec_rules.specs.Components.{color_ends}
use Rattle.table_values.proofs.propagation.ends.Goals as goal

pub returns-then-made-ne0 : goal.returns-then-made-ne0
unfolding color_ends
returns-then-made-ne0 c = rw (ne_eqb c.args.made 0 c.if-made-ne0.true) c.agree.ensures

pub returns-else-made-ne0 : goal.returns-else-made-ne0
unfolding color_ends
returns-else-made-ne0 c = rw (eq-eqb c.args.made 0 c.if-made-ne0.false)
