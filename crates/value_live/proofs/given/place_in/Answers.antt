-- The words of the links are a part of the ends.
use mathlib.Core.Path.{sym}
use Prim.Native.Nat.{◌*◌}
use lib.Seq.{length-take-le}
use Rattle.value_live.proofs.given.place_in.Goals as goal

pub slice_bounds-place_of-end : goal.slice_bounds-place_of-end
slice_bounds-place_of-end c = sym (length-take-le (2 * c.args.links) c.args.ends.now c.requires)
