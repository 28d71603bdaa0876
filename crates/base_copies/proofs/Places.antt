-- A part of words written over.
use Rattle.std.proofs.Common.{◌≡◌, sym, append_assoc, ℕ, ◌+◌, ◌-◌, ◌≤◌, List, length, take, drop, drop-drop, arith}
use Rattle.std.proofs.Common.{le-leb}
use borrow.Rule.Slice.PartMut.{put_mid}
use Rattle.base_copies.specs.Parts.{laid, laid_in}

pub mid-laid : (ws xs : List ℕ) (at n : ℕ) → n ≡ length xs → at + n ≤ length ws →
    put_mid at (at + n - at) ws xs ≡ laid_in at xs ws
unfolding laid laid_in
mid-laid ws xs at n e h =
    let size : at + n - at ≡ n = omega arith in
    rw (size, ← e, le-leb (at + n) (length ws) h, drop-drop n at ws)
    (sym (append_assoc (take at ws) xs (drop (at + n) ws)))
