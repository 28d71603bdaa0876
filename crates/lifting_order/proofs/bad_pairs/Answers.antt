-- By the tests in order.
use Rattle.std.proofs.Common.{ap, ◌∙◌}
use mathlib.Core.Bool.{not}
use Rattle.lifting_order.proofs.WrittenLaws.{bad_named}
use Rattle.lifting_order.proofs.bad_pairs.Goals as goal

pub returns-else-odd : goal.returns-else-odd
returns-else-odd c =
    ap not c.links_fit.ensures ∙ bad_named c.args.units c.args.pairs.now c.if-odd.false.0 c.if-odd.false.1
