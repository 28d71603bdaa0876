-- Past the links, not out of the tree, or out of it.
use mathlib.Core.Path.{sym, ◌∙◌}
use Rattle.theory_ears.specs.Present.{sure}
use Rattle.theory_ears.specs.Reaching.{reached-past, reached-none, reached-more}
use Rattle.ring_order.proofs.tree.reach.Goals as goal

pub returns-then-links-j : goal.returns-then-links-j
returns-then-links-j c =
    let a = c.args in
    reached-past (sure a.marks.now) a.links a.ends.now a.j a.parent.now a.seq.now a.count
    c.if-links-j.true

pub returns-then-not-leads_out : goal.returns-then-not-leads_out
returns-then-not-leads_out c =
    let a = c.args in
    reached-none (sure a.marks.now) a.links a.ends.now a.j a.parent.now a.seq.now a.count
    (sym c.leads_out.ensures ∙ c.if-not-leads_out.true)

pub returns : goal.returns
returns c =
    let a = c.args in
    reached-more (sure a.marks.now) a.links a.ends.now a.j a.parent.now a.seq.now a.count
    c.store.new.t c.store-2.new.t c.bounded_sum.result c.end_a-a.result
    c.end_b-b.result c.has-up.result c.choose-new.result c.choose-old.result
    c.if-links-j.false (sym c.leads_out.ensures
    ∙ c.if-not-leads_out.false) c.end_a-a.ensures c.end_b-b.ensures c.has-up.ensures
    c.choose-new.ensures c.choose-old.ensures c.store.ensures
    c.store-2.ensures c.bounded_sum.ensures
