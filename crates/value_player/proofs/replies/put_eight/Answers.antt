-- One word after the other.
use mathlib.Core.Path.{refl, sym, ◌∙◌}
use Prim.Native.Nat.{◌-◌}
use native.Mathlib.Omega.{arith}
use borrow.Author.Rules.{rules}
use Rattle.value_player.specs.StoreLaws.{store-next, store-end, store-begin}
use Rattle.value_player.proofs.replies.put_eight.Goals as goal

pub loop-k-init : goal.loop-k-init
loop-k-init c =
    let a = c.args in
    (omega arith, refl, store-begin a.replies.now a.words a.at)

pub loop-k-preserved : goal.loop-k-preserved
loop-k-preserved c =
    let a = c.args in (
      search rules,
      search rules,
      c.loop-k.invariant.2
          ∙ rw c.put.ensures
          (store-next c.loop-k.replies a.words a.at c.loop-k.k (search rules)),
    )

pub returns : goal.returns
returns c =
    let a = c.args in
    sym (c.loop-k.invariant.2 ∙ store-end c.loop-k.replies a.words a.at c.loop-k.k (search rules))
