-- Eight states in words that a caller lends, and a number for the turn, seen as an office (T-12).
use Rattle.std.specs.Prelude.{List, map, ℕ}
use Rattle.words_layout.specs.Layout.{state_of}
use Rattle.spec_channel.specs.Office.{Office}

unfoldable pub office_of : ℕ → List (List ℕ) → Office
office_of last words = record { seats = map state_of words; last = last }
