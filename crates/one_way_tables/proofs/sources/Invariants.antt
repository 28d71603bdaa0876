-- Entry by entry.
use mathlib.Core.Path.{◌≡◌}
use Prim.Native.Nat.{ℕ, ◌<◌}
use lib.ListN.{length, get_or}
use Rattle.theory_min_label.specs.MinLabel.{source}
use Rattle.one_way_tables.proofs.sources.Given as goal

abbrev pub invariant-loop-v : goal.invariant-loop-v
invariant-loop-v l = (length l.x ≡ 256) × ((j : ℕ) → j < l.v → get_or l.x j 0 ≡ source l.f j)
