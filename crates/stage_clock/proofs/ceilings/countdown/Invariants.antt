-- What is summed and the ceilings from stage k on are together those from this stage on.
use mathlib.Core.Path.{◌≡◌}
use Prim.Native.Nat.{◌+◌, ◌*◌, ◌-◌, ◌≤◌, min}
use Rattle.stage_clock.specs.CeilingSteps.{left}
use Rattle.stage_clock.proofs.ceilings.countdown.Given as goal

abbrev pub invariant-loop-k : goal.invariant-loop-k
invariant-loop-k l =
    (1 ≤ l.k) × ((l.sum ≤ 257 * (l.k - 1)) × (l.sum + left (min l.units 256) l.k ≡ left (min l.units 256) l.stage))
