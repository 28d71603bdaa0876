-- As a load lays the table down, with its counts.
use Rattle.value_live.specs.ChangedLaws.{made_of}
use Rattle.value_live.proofs.changed.made.Goals as goal

pub returns : goal.returns
returns c =
    made_of c.args.count c.args.words.now c.args.heard.now c.table-units.result c.counts_of-counts.result
    c.requires.0 c.requires.1 c.table-units.ensures c.counts_of-counts.ensures
