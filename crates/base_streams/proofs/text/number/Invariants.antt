-- Place by place.
use mathlib.Core.Path.{◌≡◌}
use Prim.Native.Nat.{◌+◌, ◌-◌, ◌≤◌}
use lib.ListN.{length}
use lib.Seq.{sets}
use Rattle.base_streams.specs.Text.{tens, shown, decimal}
use Rattle.base_streams.proofs.text.number.Given as goal

abbrev pub invariant-loop-i : goal.invariant-loop-i
invariant-loop-i l =
    (l.i ≤ 9) × (l.end ≤ l.at + l.i) × (l.power ≡ tens (9 - l.i)) × (length l.out ≡ length l.initial.out)
    × (sets l.initial.out l.at (decimal l.value) ≡ sets l.out l.end (shown (9 - l.i) l.value))
    × (l.at + length (decimal l.value) ≡ l.end + length (shown (9 - l.i) l.value))
