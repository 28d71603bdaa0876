-- What a call leaves in the words of a state that it was lent, word for word.
use Rattle.std.specs.Prelude.{◌≡◌, List, ℕ}
use Rattle.spec_machine.specs.Calls.{Answer, number_of}
use Rattle.words_layout.specs.Layout.{state_of}
use Rattle.words_layout.specs.SameWords.{words_of}

pub record Left (before after : List ℕ) (answer : Answer) : Type 0 where
  -- the state that the words are is the one handed back, and the words are those of that state
  pub state : state_of after ≡ answer.state
  pub words : after ≡ words_of answer.state
  -- a refused call leaves every word
  pub refused : (number_of answer.reply ≡ 0 → ⊥) → after ≡ before
