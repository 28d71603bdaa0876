-- One end, then the other.
use borrow.Author.Tests.{lt-ltb}
use Rattle.base_lists.specs.Scatter.{takes_in}
use Rattle.spec_rules.specs.HeardLaws.{hears}
use Rattle.stage07_range.proofs.local.hear.Goals as goal

pub returns : goal.returns
unfolding hears takes_in
returns c =
    rw (
      c.op_of-2.ensures,
      c.op_of.ensures,
      lt-ltb c.args.a 256 c.requires.0,
      lt-ltb c.args.b 256 c.requires.1,
    )
