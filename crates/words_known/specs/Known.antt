-- Words as a caller can lend them: those of a state, and those of eight seats.
use Rattle.std.specs.Prelude.{◌≡◌, List, [], ℕ, ◌<◌, length, get_or}
use Rattle.words_layout.specs.Layout.{STATE-WORDS}

pub record StateWords (words : List ℕ) : Type 0 where
  pub long : length words ≡ STATE-WORDS
  pub few : (i : ℕ) → get_or words i 0 < 65536

pub record SeatWords (seats : List (List ℕ)) : Type 0 where
  pub eight : length seats ≡ 8
  pub each : (i : ℕ) → i < 8 → StateWords (get_or seats i [])
