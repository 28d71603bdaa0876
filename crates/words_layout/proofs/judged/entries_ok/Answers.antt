-- Row by row.
use Rattle.std.proofs.Common.{rules}
use Rattle.words_layout.specs.Rows.{entries-judged}
use Rattle.words_layout.proofs.judged.entries_ok.Goals as goal

pub returns : goal.returns
returns c =
    rw (
      c.within-given.ensures _ c.numbers-number.ensures,
      c.within-levels.ensures _ c.levels.ensures,
      c.within-numbers.ensures _ c.numbers-number.ensures,
      c.within-dists.ensures _ c.dists.ensures,
      c.within-labels.ensures _ c.names-link.ensures,
      c.within-arcs.ensures _ c.names-arc.ensures,
      c.within-drawn.ensures _ c.names-unit.ensures,
      c.within-classes.ensures _ c.names-unit.ensures,
      c.within-trees.ensures _ c.names-unit.ensures,
      c.within-ends.ensures _ c.names-unit.ensures,
    )
    (entries-judged c.args.words.now (search rules) c.args.units
    c.args.links c.requires.0 c.requires.1)
