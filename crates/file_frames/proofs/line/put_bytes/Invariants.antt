-- The characters of the bytes passed are laid down, and the rest is as it was.
use Rattle.std.proofs.Common.{◌≡◌, ℕ, ◌*◌, ◌≤◌, List, [], ◌++◌, length, take, drop, refl}
use Rattle.file_frames.specs.Frame.{hexes_of}
use Rattle.file_frames.proofs.line.put_bytes.Given as goal

start : (out : List ℕ) → out ≡ hexes_of [] ++ out
unfolding hexes_of
start out = refl

abbrev pub invariant-loop-i : goal.invariant-loop-i
invariant-loop-i l =
    (l.i ≤ length l.f) × (length l.out ≡ length l.initial.out)
    × (l.out ≡ hexes_of (take l.i l.f) ++ drop (2 * l.i) l.initial.out)
