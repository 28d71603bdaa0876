-- The first of the words, over absent ones.
use mathlib.Core.Path.{refl}
use Rattle.spec_machine.specs.LoadLaws.{length-absents}
use Rattle.load_begin.proofs.ends.Goals as goal

pub blank-ends-requires : goal.blank-ends-requires
blank-ends-requires c = tt

pub first_words-requires : goal.first_words-requires
first_words-requires c = tt

pub returns : goal.returns
returns c = rw (c.first_words.ensures, c.blank-ends.ensures, length-absents 2048) refl
