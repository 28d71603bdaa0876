-- Two words of the first field, and the others.
use mathlib.Core.Path.{refl}
use lib.Dec.{lit<}
use Rattle.words_layout.specs.FieldLaws.{number_in_lem}
use Rattle.words_live.specs.LiveLayout.{live_in}
use borrow.Author.Rules.{rules}
use Rattle.words_live.proofs.live_at.Goals as goal

pub levels_at-levels-requires : goal.levels_at-levels-requires
levels_at-levels-requires c = tt

pub returns : goal.returns
unfolding live_in
returns c =
    let ws = c.args.words.now in
    rw (
      number_in_lem 0 2 0 ws (lit< tt),
      number_in_lem 0 2 1 ws (lit< tt),
      c.table_at-ends.ensures.0 (search rules),
      c.levels_at-levels.ensures.0 (search rules),
      c.table_at-counts.ensures.0 (search rules),
    ) refl
