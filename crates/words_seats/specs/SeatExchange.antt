-- Calls of seats as C makes them, one after the other (T-12): what each gives back and leaves, in the words of their
-- contracts. What is promised of lists of loads and ticks holds of the words that such calls leave.
use Rattle.std.specs.Prelude.{◌≡◌, List, [], ◌∷◌, ℕ}
use Rattle.std.proofs.Common.{sym, ap, ap₂, subst, ◌∙◌}
use Rattle.spec_channel.specs.Office
use Rattle.spec_channel.specs.Office.{Office, tick_refusal, seat_refusal, Event, loads, ticks, play}
use Rattle.spec_channel.proofs.Channel.{Channel}
use Rattle.words_seats.specs.Lent.{office_of}
use Rattle.words_seats.specs.Cleared.{Blank, cleared-channel}

-- the number that comes back
abbrev pub number_to : Event → Office → ℕ
number_to (loads i load) o = seat_refusal i load
number_to ticks o = tick_refusal o

-- a load or tick on the words `before`, with `last` served before it, gave this number and left the words `after`, with
-- `next` served last: its contract holds
pub record SeatMade (e : Event) (told last next : ℕ) (before after : List (List ℕ)) : Type 0 where
  pub number : told ≡ number_to e (office_of last before)
  pub office : office_of next after ≡ Office.after e (office_of last before)

-- each was made on what the last one left
abbrev pub SeatsMade : List Event → ℕ → ℕ → List (List ℕ) → List (List ℕ) → Type 0
SeatsMade [] last next before after = (next ≡ last) × (after ≡ before)
SeatsMade (e ∷ es) last next before after =
    (told : ℕ) × (turn : ℕ) × (between : List (List ℕ)) × SeatMade e told last turn before between
    × SeatsMade es turn next between after

-- the words and the turn after the list are the seats that it plays
pub seats-played : (es : List Event) (last next : ℕ) (before after : List (List ℕ)) →
    SeatsMade es last next before after
    → office_of next after ≡ play es (office_of last before)
seats-played [] last next before after made = ap₂ office_of made.0 made.1
seats-played (e ∷ es) last next before after made =
    seats-played es made.1 next made.2 after made.4 ∙ ap (λ (o : Office). play es o) made.3.office

-- SEVERAL SITES, from C. From cleared words and a new turn, whatever loads and ticks were made: all that T-12 promises
pub seats-channel : (words : List (List ℕ)) → Blank words → (es : List Event) (next : ℕ) (after : List (List ℕ))
    → SeatsMade es 7 next words after → Channel (office_of next after)
seats-channel words b es next after made =
    subst (λ (o : Office). Channel o) (sym (seats-played es 7 next words after made)) (cleared-channel words b es)
