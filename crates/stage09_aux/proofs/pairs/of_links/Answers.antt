-- Link by link.
use mathlib.Core.Path.{ap, ◌∙◌}
use mathlib.Core.Bool.{Bool, cond}
use Prim.Native.Nat.{◌+◌}
use native.Mathlib.Omega.{arith}
use borrow.Author.Tests.{ne_eqb}
use Rattle.table.specs.Table.{end_a, end_b}
use Rattle.spec_rules.specs.Basics.{at}
use Rattle.stage09_aux.specs.Pairs.{links_heard, links-begin, links-next, pairs-skip, pairs_push}
use Rattle.stage09_aux.specs.Pairs.{counted-few}
use borrow.Author.Rules.{rules}
use Rattle.stage09_aux.proofs.pairs.of_links.Goals as goal

pub loop-j-init : goal.loop-j-init
loop-j-init c =
    let a = c.args in
    (omega arith, links-begin a.ends.now a.parent.now a.linked.now a.pairs.now)

pub loop-j-preserved-then-linked-at-eq0 : goal.loop-j-preserved-then-linked-at-eq0
loop-j-preserved-then-linked-at-eq0 c =
    let a = c.args in (
      omega (arith, c.loop-j.invariant.0),
      links-next c.loop-j.count c.loop-j.j a.ends.now a.parent.now a.linked.now c.loop-j.pairs
          (pairs-skip a.parent.now c.loop-j.count (at a.linked.now c.loop-j.j)
          (end_a a.ends.now c.loop-j.j) (end_b a.ends.now c.loop-j.j) c.loop-j.pairs c.loop-j.pairs
          (links_heard c.loop-j.j a.ends.now a.parent.now a.linked.now) c.loop-j.invariant.1
          c.if-linked-at-eq0.true),
    )

pub loop-j-preserved : goal.loop-j-preserved
loop-j-preserved c =
    let a = c.args in (
      omega (
        arith,
        c.loop-j.invariant.0,
        counted-few c.no_roots.result c.loop-j.count c.push-count.result c.push-count.ensures.counted,
      ),
      links-next c.push-count.result c.loop-j.j a.ends.now a.parent.now a.linked.now _
          (pairs_push a.parent.now c.loop-j.count (at a.linked.now c.loop-j.j)
          (end_a a.ends.now c.loop-j.j) (end_b a.ends.now c.loop-j.j) c.loop-j.pairs _
          (links_heard c.loop-j.j a.ends.now a.parent.now a.linked.now) c.loop-j.invariant.1
          c.push-count.ensures.stored (search rules) c.push-count.result
          (rw (ne_eqb (at a.linked.now c.loop-j.j) 0 c.if-linked-at-eq0.false) (c.push-count.ensures.counted
          ∙ ap (λ (t : Bool). cond t (c.loop-j.count + 1) c.loop-j.count) c.no_roots.ensures))),
    )
