-- Unit by unit, from the greatest down.
use mathlib.Core.Path.{◌≡◌, ap}
use mathlib.Core.Bool.{cond}
use Prim.Native.Nat.{◌+◌, ◌≤◌, ◌<◌, ◌-◌}
use native.Mathlib.Omega.{arith}
use lib.Dec.{ltb}
use lib.ListN.{get_or, set}
use Rattle.spec_rules.specs.Basics.{ABSENT, at}
use Rattle.stage03_tour.specs.Siblings.{eldest_none, later-none, past-none, eldest_turn}
use Rattle.stage03_tour.specs.Siblings.{later-turn, past-turn}
use borrow.Author.Rules.{rules}
use Rattle.stage03_tour.proofs.followers.siblings.scan.Goals as goal

pub loop-w-init : goal.loop-w-init
loop-w-init c =
    let a = c.args in (
      search rules,
      search rules,
      search rules,
      search rules,
      eldest_none a.units a.parent.now 256 c.blank-eldest.result
          c.blank-eldest.ensures,
      later-none a.units a.parent.now c.blank-later.result,
      past-none a.units a.parent.now c.blank-past.result c.blank-past.ensures,
    )

pub loop-w-preserved : goal.loop-w-preserved
loop-w-preserved c =
    let a = c.args in
    let j = c.loop-w.w - 1 in
    let down : c.loop-w.w ≡ j + 1 = omega (arith, c.loop-w-test.true) in
    let below : j < a.units = omega (arith, c.loop-w.invariant.0, c.loop-w-test.true) in
    let small : a.units ≤ ABSENT = omega (arith, c.ranges.units) in
    let put_past
    : c.store-in-loop-w.new.t
    ≡ set c.loop-w.past (at a.parent.now j)
    (cond (ltb (at a.parent.now (at a.parent.now j)) j) j (get_or c.loop-w.past (at a.parent.now j) 0))
    = rw (c.choose-first.ensures, c.at.ensures, c.at-own.ensures) at c.store-in-loop-w.ensures in (
      search rules,
      search rules,
      search rules,
      search rules,
      eldest_turn a.units a.parent.now c.loop-w.w j down below small 256 c.loop-w.eldest
          c.store.new.t c.loop-w.invariant.1 c.loop-w.invariant.4 c.store.ensures,
      later-turn a.units a.parent.now c.loop-w.w j down below small c.loop-w.eldest c.loop-w.later _
          c.loop-w.invariant.2 c.loop-w.invariant.4 c.loop-w.invariant.5
          (ap (λ x. set c.loop-w.later j x) c.at-next.ensures),
      past-turn a.units a.parent.now c.loop-w.w j down below small c.loop-w.past c.store-in-loop-w.new.t
          c.loop-w.invariant.3 c.loop-w.invariant.6 put_past,
    )

pub returns : goal.returns
returns c =
    let end : c.loop-w.w ≡ 0 = omega (arith, c.loop-w-test.false) in
    record {
      eldest = rw end at c.loop-w.invariant.4;
      later = rw end at c.loop-w.invariant.5;
      past = rw end at c.loop-w.invariant.6;
    }
