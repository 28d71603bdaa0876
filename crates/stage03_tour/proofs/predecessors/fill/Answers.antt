-- Item by item, from the last down.
use mathlib.Core.Path.{◌≡◌}
use Prim.Native.Nat.{◌+◌, ◌≤◌, ◌<◌, ◌-◌}
use native.Mathlib.Omega.{arith}
use Rattle.spec_rules.specs.Basics.{ABSENT}
use Rattle.spec_rules.specs.Buckets.{BUCKETS}
use Rattle.stage03_tour.specs.Siblings.{eldest_none, eldest_turn}
use Rattle.stage03_tour.specs.Predecessors.{first_by}
use borrow.Author.Rules.{rules}
use Rattle.stage03_tour.proofs.predecessors.fill.Goals as goal

pub loop-k-init : goal.loop-k-init
loop-k-init c =
    let a = c.args in (
      search rules,
      search rules,
      eldest_none a.count a.key.now BUCKETS c.blank_arcs-first.result
          c.blank_arcs-first.ensures,
    )

pub loop-k-preserved : goal.loop-k-preserved
loop-k-preserved c =
    let a = c.args in
    let j = c.loop-k.k - 1 in
    let down : c.loop-k.k ≡ j + 1 = omega (arith, c.loop-k-test.true) in
    let below : j < a.count = omega (arith, c.loop-k.invariant.0, c.loop-k-test.true) in
    let small : a.count ≤ ABSENT = omega (arith, c.ranges.count) in (
      search rules,
      search rules,
      eldest_turn a.count a.key.now c.loop-k.k j down below small BUCKETS
          c.loop-k.first c.store.new.t c.loop-k.invariant.1 c.loop-k.invariant.2 c.store.ensures,
    )

pub returns : goal.returns
returns c =
    let a = c.args in
    let end : c.loop-k.k ≡ 0 = omega (arith, c.loop-k-test.false) in
    first_by a.count a.key.now c.loop-k.first (rw end at c.loop-k.invariant.2)
