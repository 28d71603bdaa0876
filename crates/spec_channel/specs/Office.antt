-- Several sites over one channel (document 02, T-12): eight seats and a turn; what a load of a seat and a tick make of
-- them, and a list of these.
use Rattle.std.specs.Prelude.{◌≡◌, Bool, cond, not, ◌&&◌, ◌||◌, List, [], ◌∷◌, ℕ, suc, ◌+◌, eqb, ltb, get_or, set}
use Rattle.base_lists.specs.Folds.{some}
use Rattle.table.specs.Refusals.{first_of}
use Rattle.spec_machine.specs.State.{State, units, finished}
use Rattle.spec_machine.specs.Load.{Input, load_refusal, stored_load_refusal, loaded, planned_load_refusal}
use Rattle.spec_machine.specs.Load.{planned_loaded}
use Rattle.spec_machine.specs.Load.{unloaded}
use Rattle.spec_machine.specs.WellFormed.{well_formed}
use Rattle.spec_machine.specs.Step.{step}
use Rattle.spec_channel.specs.Turns.{picked}

-- the seats, numbered from 0, and the number of the one last served
pub record Office : Type 0 where
  pub seats : List State
  pub last : ℕ

abbrev pub seat : ℕ → Office → State
seat i o = get_or o.seats i unloaded

-- a seat is empty while nothing was loaded: no unit and no stage, as in cleared memory
unfoldable pub empty : State → Bool
empty s = eqb (units s) 0 && eqb s.clock.stage 0

-- its survey is unfinished; an empty seat counts as finished
unfoldable pub waiting : State → Bool
waiting s = not (empty s) && not (finished s)

abbrev pub waits : Office → ℕ → Bool
waits o i = waiting (seat i o)

-- it is loaded, and its survey isn't kept
unfoldable pub spoilt : State → Bool
spoilt s = not (empty s) && not (well_formed s)

-- ---- a tick: 10, 11

unfoldable pub tick_refusal : Office → ℕ
tick_refusal o =
    first_of
    ((10, ltb 7 o.last || some 8 (λ (i : ℕ). spoilt (seat i o)))
    ∷ (11, not (some 8 (λ (i : ℕ). waiting (seat i o))))
    ∷ [])

-- the seat whose turn it is
abbrev pub served : Office → ℕ
served o = picked o.last (waits o)

-- a round for seat i, which is then the one last served
abbrev pub given : ℕ → Office → Office
given i o = record { seats = set o.seats i (step (seat i o)); last = i }

unfoldable pub tick : Office → Office
tick o = cond (eqb (tick_refusal o) 0) (given (served o) o) o

-- ---- a load of a seat: 23, then the load's own

-- a load: of a fresh table, of a stored one (T-10), or with a tree drawn by the planner (T-05)
pub data Loading : Type 0 where
  fresh : Input → Loading
  stored : Input → Loading
  planned : Input → List ℕ → Loading

abbrev pub input_of : Loading → Input
input_of (fresh input) = input
input_of (stored input) = input
input_of (planned input parents) = input

-- its number, and the survey that it makes
abbrev pub own_refusal : Loading → ℕ
own_refusal (fresh input) = load_refusal input
own_refusal (stored input) = stored_load_refusal input
own_refusal (planned input parents) = planned_load_refusal input parents

abbrev pub survey_of : Loading → State
survey_of (fresh input) = loaded input
survey_of (stored input) = loaded input
survey_of (planned input parents) = planned_loaded input parents

unfoldable pub seat_refusal : ℕ → Loading → ℕ
seat_refusal i load = let own = own_refusal load in cond (ltb 7 i) 23 own

-- no load moves the turn
unfoldable pub load_seat : ℕ → Loading → Office → Office
load_seat i load o = cond (eqb (seat_refusal i load) 0)
    (record { seats = set o.seats i (survey_of load); last = o.last }) o

-- ---- a list of loads and ticks, refused ones too

pub data Event : Type 0 where
  loads : ℕ → Loading → Event
  ticks : Event

abbrev pub after : Event → Office → Office
after (loads i load) o = load_seat i load o
after ticks o = tick o

abbrev pub play : List Event → Office → Office
play [] o = o
play (e ∷ es) o = play es (after e o)

abbrev pub tick_count : List Event → ℕ
tick_count [] = 0
tick_count (loads i load ∷ es) = tick_count es
tick_count (ticks ∷ es) = suc (tick_count es)

-- the rounds of seat i: 1 of a tick that serves it, and those of a list
unfoldable pub round_of : ℕ → Office → ℕ
round_of i o = cond (eqb (tick_refusal o) 0 && eqb (served o) i) 1 0

abbrev pub rounds_of : ℕ → List Event → Office → ℕ
rounds_of i [] o = 0
rounds_of i (loads j load ∷ es) o = rounds_of i es (load_seat j load o)
rounds_of i (ticks ∷ es) o = round_of i o + rounds_of i es (tick o)

-- seat i isn't loaded again: every load of it is refused
abbrev pub NotAgain : ℕ → List Event → Type 0
NotAgain i [] = Unit {0}
NotAgain i (loads j load ∷ es) = (j ≡ i → seat_refusal j load ≡ 0 → ⊥) × NotAgain i es
NotAgain i (ticks ∷ es) = NotAgain i es
