-- Two stores, past the words that are kept.
use mathlib.Core.Path.{◌≡◌}
use Prim.Native.Nat.{◌*◌}
use native.Mathlib.Omega.{arith}
use lib.ListN.{length}
use Rattle.value_live.specs.ChangedLaws.{more-words}
use borrow.Author.Rules.{rules}
use Rattle.value_live.proofs.changed.longer_ends.Goals as goal

pub returns : goal.returns
returns c =
    let full : length c.args.ends ≡ 2048 = search rules in
    rw (c.put-2.ensures, c.put.ensures)
    (more-words c.args.ends (2 * c.args.m) c.args.a c.args.b (omega (arith, full, c.requires)))
