-- Both entries, one after the other.
use Rattle.stage09_classes.specs.LinkLaws.{hears-within}
use Rattle.stage09_classes.proofs.links.hear.Goals as goal

pub returns : goal.returns
returns c =
    let a = c.args in
    hears-within a.units a.said.now a.t.now _ a.a a.b c.requires.1 c.requires.2 (rw (c.min-2.ensures, c.min.ensures))
