-- What the call that shows a ring leaves on words: what T-04 asks holds of some reply, and the number that comes back
-- and the word lent for the number of units are that reply's; the word is 0 where there is no ring, and as it was on a
-- refusal.
use Rattle.std.specs.Prelude.{◌≡◌, List, ℕ, get_or}
use Rattle.spec_machine.specs.State.{State}
use Rattle.words_calls.specs.FileFace.{word_said}
use Rattle.value_ring.specs.declared.Shown.{Shown}
use Rattle.value_ring.specs.Shown.{number_of, values_of}
use Rattle.value_ring.specs.ShownRight.{ShownRight}

pub record RingSaid (i j : ℕ) (s : State) (out : List ℕ) (old : ℕ) (new : List ℕ) (word k : ℕ) : Type 0 where
  pub reply : Shown
  pub right : ShownRight i j s out (record { state = s; reply = reply }) new
  pub number : k ≡ number_of reply
  pub count : word ≡ word_said (number_of reply) (get_or (values_of reply) 0 0) old
