-- The lists without the link, and the table of them.
use mathlib.Core.Path.{◌≡◌, sym, ◌∙◌}
use Prim.Native.Nat.{◌-◌, ◌*◌}
use native.Mathlib.Omega.{arith}
use lib.ListN.{length, length-take}
use lib.Seq.{length-take-le}
use borrow.Author.Rules.{rules}
use Rattle.value_live.specs.ChangedLaws.{lists_of}
use Rattle.value_live.proofs.changed.shorter.Goals as goal

pub slice_bounds-made-length : goal.slice_bounds-made-length
slice_bounds-made-length c = sym (length-take-le _ _ (search rules))

pub slice_bounds-made-length-2 : goal.slice_bounds-made-length-2
slice_bounds-made-length-2 c = sym (length-take-le _ _ (search rules))

pub made-requires : goal.made-requires
made-requires c =
    let full : length c.closed_ends-words.result ≡ 2048 = search rules in
    let heard : length c.closed_levels-heard.result ≡ 1024 = search rules in
    let m = c.args.live.links in (
      omega (arith, full, length-take (2 * m - 2) c.closed_ends-words.result),
      omega (arith, heard, length-take (m - 1) c.closed_levels-heard.result),
    )

pub returns : goal.returns
returns c = c.made.ensures
    ∙ lists_of c.args.live.units _ _ _ _ c.closed_ends-words.ensures c.closed_levels-heard.ensures
