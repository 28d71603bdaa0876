-- One after the other.
use Rattle.base_copies.specs.CopyLaws.{laid_in_lem}
use borrow.Author.Rules.{rules}
use Rattle.words_layout.proofs.lay.lay_two.Goals as goal

pub lay-requires : goal.lay-requires
lay-requires c = tt

pub lay-requires-2 : goal.lay-requires-2
lay-requires-2 c = tt

pub returns : goal.returns
returns c =
    rw (laid_in_lem _ _ _ c.lay.ensures (search rules)) at
    (laid_in_lem _ _ _ c.lay-2.ensures (search rules))
