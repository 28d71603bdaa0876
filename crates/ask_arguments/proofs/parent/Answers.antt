-- By whether there is none.
use mathlib.Core.Path.{refl, sym, ◌∙◌}
use Rattle.ask_arguments.specs.Arguments.{parent_in}
use Rattle.ask_arguments.proofs.parent.Goals as goal

pub returns-then-same : goal.returns-then-same
unfolding parent_in
returns-then-same c = rw (sym c.same.ensures ∙ c.if-same.true) refl

pub returns-else-same : goal.returns-else-same
unfolding parent_in
returns-else-same c = rw (sym c.same.ensures ∙ c.if-same.false) c.number_in.ensures
