-- Unit by unit.
use mathlib.Core.Path.{ap, ◌∙◌}
use mathlib.Core.Bool.{Bool, cond}
use Prim.Native.Nat.{◌+◌}
use native.Mathlib.Omega.{arith}
use borrow.Author.Tests.{ne_eqb}
use Rattle.spec_rules.specs.Basics.{at}
use Rattle.stage09_aux.specs.Pairs.{joins_heard, joins-begin, joins-next, pairs-skip}
use Rattle.stage09_aux.specs.Pairs.{pairs_push, counted-few}
use borrow.Author.Rules.{rules}
use Rattle.stage09_aux.proofs.pairs.of_parents.Goals as goal

pub loop-u-init : goal.loop-u-init
loop-u-init c =
    let a = c.args in
    (omega arith, λ m ends linked h. joins-begin a.had m ends a.parent.now linked a.parents.now a.pairs.now h)

pub loop-u-preserved-then-parents-at-eq0 : goal.loop-u-preserved-then-parents-at-eq0
loop-u-preserved-then-parents-at-eq0 c =
    let a = c.args in (
      omega (arith, c.loop-u.invariant.0),
      λ m ends linked h.
          joins-next c.loop-u.count c.loop-u.u m ends a.parent.now linked a.parents.now c.loop-u.pairs
          (pairs-skip a.parent.now c.loop-u.count (at a.parents.now c.loop-u.u) c.loop-u.u
          (at a.parent.now c.loop-u.u) c.loop-u.pairs c.loop-u.pairs
          (joins_heard c.loop-u.u m ends a.parent.now linked a.parents.now)
          (c.loop-u.invariant.1 m ends linked h) c.if-parents-at-eq0.true),
    )

pub loop-u-preserved : goal.loop-u-preserved
loop-u-preserved c =
    let a = c.args in (
      omega (
        arith,
        c.loop-u.invariant.0,
        counted-few c.no_roots.result c.loop-u.count c.push-count.result c.push-count.ensures.counted,
      ),
      λ m ends linked h.
          joins-next c.push-count.result c.loop-u.u m ends a.parent.now linked a.parents.now _
          (pairs_push a.parent.now c.loop-u.count (at a.parents.now c.loop-u.u) c.loop-u.u
          (at a.parent.now c.loop-u.u) c.loop-u.pairs _
          (joins_heard c.loop-u.u m ends a.parent.now linked a.parents.now)
          (c.loop-u.invariant.1 m ends linked h)
          c.push-count.ensures.stored (search rules) c.push-count.result
          (rw (ne_eqb (at a.parents.now c.loop-u.u) 0 c.if-parents-at-eq0.false) (c.push-count.ensures.counted
          ∙ ap (λ (t : Bool). cond t (c.loop-u.count + 1) c.loop-u.count) c.no_roots.ensures))),
    )
