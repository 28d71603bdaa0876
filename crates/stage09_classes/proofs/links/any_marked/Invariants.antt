-- Mark by mark.
use mathlib.Core.Path.{◌≡◌}
use mathlib.Core.Bool.{false}
use Prim.Native.Nat.{ℕ, ◌≤◌, ◌<◌}
use lib.ListN.{get_or}
use Rattle.stage09_classes.proofs.links.any_marked.Given as goal

abbrev pub invariant-loop-j : goal.invariant-loop-j
invariant-loop-j l = l.any ≡ false → (i : ℕ) → l.from ≤ i → i < l.j → get_or l.linked i 0 ≡ 0
