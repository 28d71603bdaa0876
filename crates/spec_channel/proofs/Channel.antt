-- What T-12 asks. Of one load or tick of any eight seats and any turn: `AnyOffice`. Of any list of loads of seats, by
-- any of the three loads, and of ticks, refused ones included, from eight empty seats and a turn that no tick has
-- moved: `OneChannel`. ChannelProof.antt proves both.
use Rattle.std.specs.Prelude.{◌≡◌, true, false, ◌↔◌, List, ℕ, ◌≤◌, ◌<◌, length, replicate}
use Rattle.table.specs.RefusalLaws.{FirstCause, SomeCause}
use Rattle.spec_machine.specs.Step.{step}
use Rattle.spec_claim.specs.Play.{round}
use Rattle.spec_claim.specs.Claim.{Claim}
use Rattle.spec_channel.specs.Turns.{Next}
use Rattle.spec_channel.specs.Office.{Office, seat, empty, waits, tick_refusal, tick, Loading, input_of, own_refusal}
use Rattle.spec_channel.specs.Office.{survey_of, seat_refusal, load_seat, Event, play, tick_count, rounds_of, NotAgain}
use Rattle.spec_channel.proofs.TickCauses.{tick_reasons}

-- before any tick the search begins at seat 0, the next after 7
pub record Begun (o : Office) : Type 0 where
  pub eight : length o.seats ≡ 8
  pub empty : (i : ℕ) → i < 8 → empty (seat i o) ≡ true
  pub turn : o.last ≡ 7

-- a tick gives one round to the first unfinished seat after `last`, going round, and leaves the others
pub record Gives (o new : Office) : Type 0 where
  pub next : Next o.last (waits o) new.last
  pub round : seat new.last new ≡ step (seat new.last o)
  pub others : (j : ℕ) → (new.last ≡ j → ⊥) → seat j new ≡ seat j o

-- a load puts its survey in its seat, and leaves the others and the turn
pub record Takes (i : ℕ) (load : Loading) (o new : Office) : Type 0 where
  pub survey : seat i new ≡ survey_of load
  pub others : (j : ℕ) → (i ≡ j → ⊥) → seat j new ≡ seat j o
  pub turn : new.last ≡ o.last

-- one load or tick of any eight seats, kept or not, and any turn
pub record EachStep (o : Office) : Type 0 where
  -- each number exactly for its cause, in this order
  pub cause : (k : ℕ) → (k ≡ 0 → ⊥) → (tick_refusal o ≡ k) ↔ FirstCause (tick_reasons o) k
  pub refused : (tick_refusal o ≡ 0 → ⊥) ↔ SomeCause (tick_reasons o)
  pub gives : tick_refusal o ≡ 0 → Gives o (tick o)
  pub unmoved : (tick_refusal o ≡ 0 → ⊥) → tick o ≡ o
  -- 23 for a seat above 7, else the load's own number
  pub missing : (i : ℕ) (load : Loading) → 7 < i → seat_refusal i load ≡ 23
  pub own : (i : ℕ) (load : Loading) → i < 8 → seat_refusal i load ≡ own_refusal load
  pub takes : (i : ℕ) (load : Loading) → seat_refusal i load ≡ 0 → Takes i load o (load_seat i load o)
  pub left : (i : ℕ) (load : Loading) → (seat_refusal i load ≡ 0 → ⊥) → load_seat i load o ≡ o

-- and of an office that loads and ticks lead to
pub record Channel (o : Office) : Type 0 where
  pub step : EachStep o
  -- no list of loads and ticks leads to 10
  pub sound : tick_refusal o ≡ 10 → ⊥
  -- whatever follows, as long as seat i isn't loaded again: an unfinished survey gets a round within eight ticks, a
  -- finished one and an empty seat stay
  pub soon : (i : ℕ) → i < 8 → waits o i ≡ true → (es : List Event) → NotAgain i es → 8 ≤ tick_count es →
      1 ≤ rounds_of i es o
  pub rests : (i : ℕ) → waits o i ≡ false → (es : List Event) → NotAgain i es → seat i (play es o) ≡ seat i o
  -- and after as many rounds of its own a survey is the state that it would be alone: demand 3 holds of it, as of so
  -- many round calls
  pub alone : (i : ℕ) (load : Loading) → seat_refusal i load ≡ 0 → (es : List Event) → NotAgain i es
      → Claim (input_of load) (survey_of load) (replicate (rounds_of i es (load_seat i load o)) round)
      (seat i (play es (load_seat i load o))) (rounds_of i es (load_seat i load o))

abbrev pub AnyOffice : Type 0
AnyOffice = (o : Office) → length o.seats ≡ 8 → EachStep o

abbrev pub OneChannel : Type 0
OneChannel = (start : Office) → Begun start → (events : List Event) → Channel (play events start)
