-- One call after the other; what is still to be made makes the whole.
use mathlib.Core.Path.{refl}
use Prim.Native.Nat.{◌-◌}
use native.Mathlib.Omega.{arith}
use Rattle.words_player.specs.PlayLaws.{none_yet, one_more, all_made, all-bytes, claimed}
use borrow.Author.Rules.{rules}
use Rattle.words_player.proofs.play.Goals as goal

pub loop-i-init : goal.loop-i-init
loop-i-init c =
    let a = c.args in
    (c.well_formed.1.0.1, omega arith, refl, none_yet a.calls.now a.state.now a.out.now)

pub loop-i-preserved : goal.loop-i-preserved
loop-i-preserved c =
    let a = c.args in (
      c.loop-i.invariant.0,
      search rules,
      search rules,
      one_more a.calls.now a.state.now a.out.now c.loop-i.i c.loop-i.state c.loop-i.out c.loop-i.invariant.3
          (omega (arith, c.loop-i-test.true)) c.word-kind.result c.word-a.result c.word-kind.ensures
          c.word-a.ensures _ _ c.call.ensures.made c.call.ensures.bytes,
    )

pub returns : goal.returns
returns c =
    let a = c.args in
    let m =
    all_made a.calls.now a.state.now a.out.now c.loop-i.i c.loop-i.state c.loop-i.out c.loop-i.invariant.3
    (search rules) in
    let bytes =
    all-bytes a.calls.now a.state.now a.out.now c.loop-i.i c.loop-i.state c.loop-i.out c.loop-i.invariant.3
    (search rules) in
    record {
      made = m;
      claim = claimed _ _ _ m;
      bytes = bytes;
    }
