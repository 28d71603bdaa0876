-- T-12, word for word: what a tick and a load leave in the words of eight seats.
use Rattle.std.specs.Prelude.{◌≡◌, List, [], ℕ, ◌<◌, get_or}
use Rattle.spec_machine.specs.Step.{step}
use Rattle.words_layout.specs.Layout.{state_of}
use Rattle.words_layout.specs.SameWords.{words_of}
use Rattle.spec_channel.specs.Office.{served, tick_refusal, Loading, survey_of, seat_refusal}
use Rattle.words_seats.specs.Lent.{office_of}

-- a tick, with `last` served before it and `after` served last after it
pub record TickedWords (last after : ℕ) (old new : List (List ℕ)) : Type 0 where
  -- one round to one seat, which is then the one last served
  pub turn : tick_refusal (office_of last old) ≡ 0 → after ≡ served (office_of last old)
  pub round : tick_refusal (office_of last old) ≡ 0 → get_or new after []
      ≡ words_of (step (state_of (get_or old after [])))
  -- the other seven are untouched
  pub others : tick_refusal (office_of last old) ≡ 0 → (i : ℕ) → i < 8 → (after ≡ i → ⊥) → get_or new i []
      ≡ get_or old i []
  -- and where it is refused no seat moves, nor does the turn
  pub refused : (tick_refusal (office_of last old) ≡ 0 → ⊥) → (after ≡ last) × (new ≡ old)

-- a load of seat i
pub record LoadedSeat (i : ℕ) (load : Loading) (old new : List (List ℕ)) : Type 0 where
  pub survey : seat_refusal i load ≡ 0 → get_or new i [] ≡ words_of (survey_of load)
  pub others : seat_refusal i load ≡ 0 → (j : ℕ) → j < 8 → (i ≡ j → ⊥) → get_or new j [] ≡ get_or old j []
  pub refused : (seat_refusal i load ≡ 0 → ⊥) → new ≡ old
