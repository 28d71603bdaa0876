-- Calls on words as C makes them: what each gives back and leaves, in the words of the contracts of `survey_c`, and a
-- list of them.
use Rattle.std.specs.Prelude.{◌≡◌, cond, List, [], ◌∷◌, ℕ, ◌+◌, eqb, get_or}
use Rattle.spec_machine.specs.State.{State}
use Rattle.spec_machine.specs.Run.{ran}
use Rattle.spec_machine.specs.Calls.{number_of, round_refusal}
use Rattle.words_layout.specs.Layout.{state_of}
use Rattle.words_calls.specs.Face.{said}
use Rattle.spec_claim.specs.Play.{Call, round, run, status, unit, link, report, answer_to, slice_after}

-- ---- one call

-- the number that comes back from a call on words
abbrev pub number_to : Call → List ℕ → ℕ
number_to c words = number_of (answer_to c (state_of words)).reply

-- the state that the words are after it
abbrev pub state_after : Call → List ℕ → State
state_after c words = (answer_to c (state_of words)).state

-- what the lent memory holds after it: a reply's values, the rounds made as one word, a report's bytes; as it was,
-- where the call was refused
abbrev pub lent_after : Call → List ℕ → List ℕ → List ℕ
lent_after round words given = given
lent_after (run budget) words given = said (answer_to (run budget) (state_of words)).reply given
lent_after status words given = said (answer_to status (state_of words)).reply given
lent_after (unit v) words given = said (answer_to (unit v) (state_of words)).reply given
lent_after (link j) words given = said (answer_to (link j) (state_of words)).reply given
lent_after (report out) words given = slice_after (report out) (state_of words)

-- that one word of a run
abbrev pub made_after : ℕ → List ℕ → ℕ → ℕ
made_after budget words given = cond (eqb (round_refusal (state_of words)) 0) (ran budget 0 (state_of words)).1 given

-- a call and all that C has of it: the lent memory as it was given (a report's stands in its call), the number that
-- came back, and the lent memory afterwards
pub record Exchange : Type 0 where
  pub call : Call
  pub given : List ℕ
  pub number : ℕ
  pub lent : List ℕ

-- the call was made on the words `before` and left the words `after`: its contract holds
pub record CallMade (x : Exchange) (before after : List ℕ) : Type 0 where
  pub number : x.number ≡ number_to x.call before
  pub words : state_of after ≡ state_after x.call before
  pub lent : x.lent ≡ lent_after x.call before x.given

-- ---- a list of calls

-- each was made on the words that the last one left
abbrev pub CallsMade : List Exchange → List ℕ → List ℕ → Type 0
CallsMade [] before after = after ≡ before
CallsMade (x ∷ xs) before after = (between : List ℕ) × CallMade x before between × CallsMade xs between after

abbrev pub calls_of : List Exchange → List Call
calls_of [] = []
calls_of (x ∷ xs) = x.call ∷ calls_of xs

-- the rounds used, from what C gets back alone: one for a round with number 0, the word of the rounds made for a run
-- with number 0
abbrev pub used_in : Call → ℕ → List ℕ → ℕ
used_in round number lent = cond (eqb number 0) 1 0
used_in (run budget) number lent = cond (eqb number 0) (get_or lent 0 0) 0
used_in status number lent = 0
used_in (unit v) number lent = 0
used_in (link j) number lent = 0
used_in (report out) number lent = 0

unfoldable pub used_of : List Exchange → ℕ
used_of [] = 0
used_of (x ∷ xs) = used_in x.call x.number x.lent + used_of xs
