-- Past the links, no tie, or an ear.
use mathlib.Core.Path.{sym, ◌∙◌}
use Rattle.theory_ears.specs.Present.{sure}
use Rattle.theory_ears.specs.Weaving.{visited-past, visited-none, visited-more}
use Rattle.ring_ears.proofs.visit.Goals as goal

pub returns-then-links-j : goal.returns-then-links-j
returns-then-links-j c =
    let a = c.args in
    visited-past (sure a.marks.now) a.units a.links a.ends.now a.count a.parent.now a.seq.now
    a.j a.pos.now a.held.now c.if-links-j.true

pub returns-then-not-ties : goal.returns-then-not-ties
returns-then-not-ties c =
    let a = c.args in
    visited-none (sure a.marks.now) a.units a.links a.ends.now a.count a.parent.now a.seq.now
    a.j a.pos.now a.held.now (sym c.ties.ensures ∙ c.if-not-ties.true)

pub returns : goal.returns
returns c =
    let a = c.args in
    visited-more (sure a.marks.now) a.units a.links a.ends.now a.count a.parent.now a.seq.now
    a.j a.pos.now a.held.now c.ear.new.pos
    c.hold.new.held c.if-links-j.false (sym c.ties.ensures
    ∙ c.if-not-ties.false) c.ear.ensures c.hold.ensures
