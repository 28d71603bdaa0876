-- Demand 3 of calls on words: `Demand3OnWords`, the claim of spec_claim/specs/Claim about a list of calls as C makes
-- them, and `InsideOnWords`, the answers inside such a list. WordsClaimProof.antt proves both.
use Rattle.std.specs.Prelude.{◌≡◌, List, [], ◌∷◌, ◌++◌, ℕ, ◌≤◌, ◌<◌, length}
use Rattle.spec_machine.specs.State.{State, FINISHED}
use Rattle.spec_machine.specs.Load.{Input, links_in}
use Rattle.spec_machine.specs.Step.{countdown}
use Rattle.spec_machine.specs.RunLaws.{total}
use Rattle.spec_machine.specs.Report.{unit_color, unit_parent, unit_place, unit_single, link_label, link_lone, flag}
use Rattle.spec_machine.specs.Report.{report_length}
use Rattle.spec_machine.specs.Calls.{Answer, number_of, load_answer, stored_load_answer, planned_load_answer, reported}
use Rattle.words_layout.specs.Layout.{state_of}
use Rattle.spec_claim.specs.Play.{Call, round, run, status, unit, link, report}
use Rattle.spec_claim.specs.Claim.{EndRight, Claim}
use Rattle.spec_claim.specs.Inside.{Inside}
use Rattle.words_claim.specs.Exchange.{number_to, lent_after, Exchange, CallsMade, calls_of, used_of}

-- a call that answers so gave back 0 and left these words
abbrev pub DoneOn : Answer → List ℕ → Type 0
DoneOn answer words = (0 ≡ number_of answer.reply) × (state_of words ≡ answer.state)

-- some load, called on any words whatever, gave back 0 and left these: load, that of a stored table (document 02,
-- T-10), or that with a planner's table of parents (T-05)
pub data LoadedWords (input : Input) (words : List ℕ) : Type 0 where
  fresh : (given : List ℕ) → DoneOn (load_answer input (state_of given)) words → LoadedWords input words
  stored : (given : List ℕ) → DoneOn (stored_load_answer input (state_of given)) words → LoadedWords input words
  planned : (parents given : List ℕ) → DoneOn (planned_load_answer input parents (state_of given)) words →
      LoadedWords input words

-- DEMAND 3, on words. For every table that a load accepts and every list of calls from the words that it left: the
-- words after the list are the state after the rounds used, counted from what C got back, and all else that the claim
-- says.
abbrev pub Demand3OnWords : Type 0
Demand3OnWords =
    (input : Input) (first last : List ℕ) → LoadedWords input first → (xs : List Exchange) → CallsMade xs first last
    → Claim input (state_of first) (calls_of xs) (state_of last) (used_of xs)

-- what C has of a question or report about the finished survey e after u rounds: number 0, and the values and bytes of
-- which `EndRight` speaks
abbrev pub ToldAtEnd : Input → State → ℕ → Call → ℕ → List ℕ → Type 0
ToldAtEnd input e u round number lent = Unit
ToldAtEnd input e u (run budget) number lent = Unit
ToldAtEnd input e u status number lent = (number ≡ 0) × (lent ≡ FINISHED ∷ countdown e ∷ u ∷ e.clock.requests ∷ [])
ToldAtEnd input e u (unit v) number lent =
    v < input.units → (number ≡ 0) × (lent
    ≡ v ∷ unit_color e v ∷ unit_parent e v ∷ unit_place e v ∷ flag (unit_single e v) ∷ [])
ToldAtEnd input e u (link j) number lent = j < links_in input →
    (number ≡ 0) × (lent ≡ j ∷ link_label e j ∷ flag (link_lone e j) ∷ [])
ToldAtEnd input e u (report out) number lent =
    report_length input.units (links_in input) ≤ length out → (number ≡ 0) × (lent ≡ reported e out)

-- the call x, made on the words `between`, which the calls in front left
pub record ToldOnWords (input : Input) (first last between : List ℕ) (front : List Exchange) (x : Exchange)
    (back : List Exchange) : Type 0 where
  pub made : CallsMade front first between
  -- what is said of a call by value, before the end and after it
  pub inside : Inside input (state_of first) (calls_of front) x.call (calls_of back) (state_of between) (used_of front)
  -- and C has it: the number of the answer, and its values or bytes
  pub number : x.number ≡ number_to x.call between
  pub lent : x.lent ≡ lent_after x.call between x.given
  -- written out, where the end was reached: x is answered from the very survey that the last words are
  pub at_end : used_of front ≡ total (state_of first) → EndRight input (state_of last) (used_of front)
      × ToldAtEnd input (state_of last) (used_of front) x.call x.number x.lent

-- INSIDE A LIST. For every table that a load accepts, every list of calls from the words that it left and each call.
abbrev pub InsideOnWords : Type 0
InsideOnWords =
    (input : Input) (first last : List ℕ) → LoadedWords input first
    → (front : List Exchange) (x : Exchange) (back : List Exchange) → CallsMade (front ++ x ∷ back) first last
    → (between : List ℕ) × ToldOnWords input first last between front x back
