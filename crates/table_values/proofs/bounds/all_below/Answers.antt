-- None, or the greatest within the limit.
use Rattle.std.proofs.Common.{◌∙◌}
use Rattle.table_values.specs.TopLaws.{below_none}
use Rattle.table_values.proofs.bounds.all_below.Goals as goal

pub returns-then-count-eq0 : goal.returns-then-count-eq0
returns-then-count-eq0 c = rw c.if-count-eq0.true (c.is_empty.ensures ∙ below_none c.args.t.now)
