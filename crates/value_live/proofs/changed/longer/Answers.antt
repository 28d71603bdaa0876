-- The lists with one link more, and the table of them.
use mathlib.Core.Path.{◌≡◌, sym, ◌∙◌}
use Prim.Native.Nat.{◌+◌, ◌*◌}
use native.Mathlib.Omega.{arith}
use lib.ListN.{length, length-take}
use lib.Seq.{length-take-le}
use mir.Syntax.{w16}
use mir.ValLaws.{to_z-of_z}
use Rattle.value_live.specs.ChangedLaws.{lists_of}
use borrow.Author.Rules.{rules}
use Rattle.value_live.proofs.changed.longer.Goals as goal

pub slice_bounds-made-end : goal.slice_bounds-made-end
slice_bounds-made-end c = sym (length-take-le _ _ (search rules))

pub slice_bounds-made-end-2 : goal.slice_bounds-made-end-2
slice_bounds-made-end-2 c = sym (length-take-le _ _ (search rules))

pub made-requires : goal.made-requires
made-requires c =
    let full : length c.longer_ends-words.result ≡ 2048 = search rules in
    let heard : length c.longer_levels-heard.result ≡ 1024 = search rules in
    let m = c.args.live.links in (
      omega (arith, full, length-take (2 * m + 2) c.longer_ends-words.result),
      omega (arith, heard, length-take (m + 1) c.longer_levels-heard.result),
    )

pub returns : goal.returns
returns c =
    let levels = rw (to_z-of_z w16 c.args.level c.ranges.level) at c.longer_levels-heard.ensures in
    c.made.ensures ∙ lists_of c.args.live.units _ _ _ _ c.longer_ends-words.ensures levels
