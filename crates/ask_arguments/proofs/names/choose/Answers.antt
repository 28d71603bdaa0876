-- By whether they are the same.
use mathlib.Core.Path.{refl, sym, ◌∙◌}
use Rattle.ask_arguments.proofs.names.choose.Goals as goal

pub returns-then-same : goal.returns-then-same
returns-then-same c = rw (sym c.same.ensures ∙ c.if-same.true) refl

pub returns-else-same : goal.returns-else-same
returns-else-same c = rw (sym c.same.ensures ∙ c.if-same.false) refl
