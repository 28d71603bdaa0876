-- Seat by seat, from the one after the last served.
use mathlib.Core.Path.{◌≡◌}
use mathlib.Core.Bool.{false}
use Prim.Native.Nat.{ℕ, ◌-◌, ◌≤◌, ◌<◌}
use lib.ListN.{get_or}
use Rattle.spec_channel.specs.Turns.{seat_after}
use Rattle.channel_turns.proofs.pick.Given as goal

abbrev pub invariant-loop-d : goal.invariant-loop-d
invariant-loop-d l =
    (l.d ≤ 8) × ((j : ℕ) → j < l.d → get_or l.waits (seat_after l.last j) false ≡ false)
