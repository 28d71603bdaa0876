-- The first link does not count, no link may be the second, or the ring.
use Rattle.std.proofs.Common.{refl, sym, ◌∙◌, inl, inr, arith}
use Rattle.theory_ears.specs.Found.{told-missing, told_none, told-ring}
use Rattle.theory_ears.specs.Present.{sure}
use borrow.Author.Rules.{rules}
use Rattle.ring_search.proofs.found.Goals as goal

pub returns-then-not-counts : goal.returns-then-not-counts
returns-then-not-counts c =
    let a = c.args in
    told-missing (sure a.marks.now) a.units a.links a.ends.now a.i a.j a.out.now
    (sym c.counts.ensures ∙ c.if-not-counts.true)

pub returns-in_default : goal.returns-in_default
returns-in_default c =
    let a = c.args in
    told_none (sure a.marks.now) a.units a.links a.ends.now a.i a.j a.out.now
    c.zeros-pos.result c.ordered.new.pos (sym c.counts.ensures ∙ c.if-not-counts.false)
    (search (c.zeros-pos.type_inv, rules)) c.zeros-pos.ensures c.ordered.ensures a.links
    (inl (refl, c.in_default.ensures)) refl

pub returns : goal.returns
returns c =
    let a = c.args in
    told-ring (sure a.marks.now) a.units a.links a.ends.now a.i a.j a.out.now
    c.zeros-pos.result c.ordered.new.pos (sym c.counts.ensures
    ∙ c.if-not-counts.false) (search (c.zeros-pos.type_inv, rules)) c.zeros-pos.ensures
    c.ordered.ensures c.in-Some.k (inr c.in-Some.ensures) (omega (arith, c.in-Some.ensures.0))
    c.zeros-low.result c.zeros-high.result c.lean.new.low
    c.lean.new.high (search (c.zeros-low.type_inv, rules))
    (search (c.zeros-high.type_inv, rules)) c.lean.ensures c.end_a-c.result
    c.end_b-d.result c.at.result c.at-2.result c.choose-from.result
    c.choose-to.result c.end_a.result c.end_b.result _
    c.end_a-c.ensures c.end_b-d.ensures c.at.ensures c.at-2.ensures refl
    c.choose-from.ensures c.choose-to.ensures c.end_a.ensures
    c.end_b.ensures c.close.new.out
    c.close.result c.close.ensures
