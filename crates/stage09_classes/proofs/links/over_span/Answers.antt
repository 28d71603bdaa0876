-- Link by link, from the values as they were.
use borrow.Author.Tests.{ne_eqb}
use Rattle.spec_rules.specs.Basics.{at}
use Rattle.stage09_classes.specs.LinkLaws.{links-more}
use Rattle.stage09_classes.proofs.links.over_span.Goals as goal

pub loop-j-preserved-then-linked-at-eq0 : goal.loop-j-preserved-then-linked-at-eq0
loop-j-preserved-then-linked-at-eq0 c =
    let a = c.args in
    λ e. links-more a.units a.ends.now a.linked.now a.said.now c.loop-j.j _ _
    (c.loop-j.invariant e) (rw c.if-linked-at-eq0.true)

pub loop-j-preserved : goal.loop-j-preserved
loop-j-preserved c =
    let a = c.args in
    λ e. links-more a.units a.ends.now a.linked.now a.said.now c.loop-j.j _ _
    (c.loop-j.invariant e) (rw (ne_eqb (at a.linked.now c.loop-j.j) 0 c.if-linked-at-eq0.false) c.hear.ensures)
