-- Link by link, from no link at any unit.
use mathlib.Core.Path.{◌≡◌}
use Prim.Native.Nat.{ℕ, ◌<◌}
use lib.ListN.{length, get_or}
use Rattle.live_table.specs.Counts.{counted_at}
use Rattle.live_table.proofs.counts_of.Given as goal

abbrev pub invariant-loop-j : goal.invariant-loop-j
invariant-loop-j l = (length l.counts ≡ 256) × ((v : ℕ) → v < 256 → get_or l.counts v 0 ≡ counted_at l.j l.words v)
