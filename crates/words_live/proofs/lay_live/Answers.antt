-- Four fields, one behind the other.
use Rattle.value_live.specs.View.{of}
use Rattle.words_live.proofs.LayoutLaws.{laid-live}
use Rattle.base_copies.specs.CopyLaws.{laid_in_lem}
use borrow.Author.Rules.{rules}
use Rattle.words_live.proofs.lay_live.Goals as goal

pub lay-requires : goal.lay-requires
lay-requires c = tt

pub lay-requires-2 : goal.lay-requires-2
lay-requires-2 c = tt

pub lay-requires-3 : goal.lay-requires-3
lay-requires-3 c = tt

pub lay-requires-4 : goal.lay-requires-4
lay-requires-4 c = tt

pub returns : goal.returns
returns c =
    let a = c.args in let all = laid-live (of a.l) c.words_of-levels.result c.words_of-levels.ensures.words
    c.words_of-levels.ensures.back (search rules)
    (search rules) (search rules) a.words.now _ (search rules)
    (rw (
      laid_in_lem _ _ _ c.lay-3.ensures (search rules),
      laid_in_lem _ _ _ c.lay-2.ensures (search rules),
      laid_in_lem _ _ _ c.lay.ensures (search rules),
    ) at (laid_in_lem _ _ _ c.lay-4.ensures (search rules))) in record { words = all.0; live = all.1 }
