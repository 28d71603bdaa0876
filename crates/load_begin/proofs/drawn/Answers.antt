-- The first of the parents, over absent ones.
use mathlib.Core.Path.{refl}
use Rattle.spec_machine.specs.LoadLaws.{length-absents}
use Rattle.load_begin.proofs.drawn.Goals as goal

pub orphans-drawn-requires : goal.orphans-drawn-requires
orphans-drawn-requires c = tt

pub first_words-requires : goal.first_words-requires
first_words-requires c = tt

pub returns : goal.returns
returns c = rw (c.first_words.ensures, c.orphans-drawn.ensures, length-absents 256) refl
