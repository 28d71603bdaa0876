-- Seat by seat.
use mathlib.Core.Path.{◌≡◌}
use mathlib.Core.Bool.{Bool, false, not, ◌&&◌}
use mathlib.Core.List.{List, []}
use Prim.Native.Nat.{ℕ, ◌-◌, ◌≤◌}
use lib.Dec.{eqb}
use lib.ListN.{length, get_or}
use Rattle.base_lists.specs.Folds.{some}
use Rattle.words_layout.specs.Layout.{state_of}
use Rattle.spec_channel.specs.Office.{spoilt}
use Rattle.words_seat_tests.proofs.others_sound.Given as goal

-- what is looked for
abbrev other : List (List ℕ) → ℕ → ℕ → Bool
other seats but i = not (eqb i but) && spoilt (state_of (get_or seats i []))

abbrev pub invariant-loop-i : goal.invariant-loop-i
invariant-loop-i l = (l.i ≤ length l.seats) × (some l.i (other l.seats l.but) ≡ false)
