-- What the call about doubtful links leaves on words: what T-08 asks holds of some reply, and the number that comes
-- back and the word lent for the verdict are that reply's; the word is as it was on a refusal.
use Rattle.std.specs.Prelude.{◌≡◌, List, ℕ, get_or}
use Rattle.spec_machine.specs.State.{State}
use Rattle.words_calls.specs.FileFace.{word_said}
use Rattle.value_doubtful.specs.declared.Verdict.{Verdict}
use Rattle.value_doubtful.specs.Doubtful.{number_of, values_of}
use Rattle.value_doubtful.specs.DoubtRight.{DoubtRight}

pub record DoubtSaid (i j : ℕ) (marks : List ℕ) (s : State) (old word k : ℕ) : Type 0 where
  pub reply : Verdict
  pub right : DoubtRight i j marks s (record { state = s; reply = reply })
  pub number : k ≡ number_of reply
  pub verdict : word ≡ word_said (number_of reply) (get_or (values_of reply) 0 0) old
