-- The characters of the bytes passed are laid down, and the rest is as it was.
use Rattle.std.proofs.Common.{◌≡◌, ℕ, List, [], ◌++◌, refl, arith, rules}
use Rattle.file_frames.specs.Frame.{hexes_of}
use Rattle.file_frames.specs.FrameRests.{hexes_more}
use Rattle.file_frames.proofs.line.put_bytes.Goals as goal

start : (out : List ℕ) → out ≡ hexes_of [] ++ out
unfolding hexes_of
start out = refl

pub loop-i-init : goal.loop-i-init
loop-i-init c = (omega arith, refl, start c.args.out.now)

pub loop-i-preserved : goal.loop-i-preserved
loop-i-preserved c =
    let a = c.args in (
      search rules,
      search rules,
      rw (
        c.put_byte.ensures,
        c.loop-i.invariant.2,
      ) (hexes_more a.f.now a.out.now c.loop-i.i (search rules) (search rules)),
    )
