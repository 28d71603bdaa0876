-- Place by place.
use Rattle.theory_ears.specs.Present.{sure}
use Rattle.theory_ears.specs.Weaving.{followed_more}
use Rattle.ring_ears.proofs.follow.Goals as goal

pub loop-i-init : goal.loop-i-init
loop-i-init c = λ x y site T W G. G

pub loop-i-preserved : goal.loop-i-preserved
loop-i-preserved c =
    let a = c.args in
    followed_more (sure a.marks.now) a.units a.links a.ends.now a.count a.parent.now
    a.seq.now c.at-j.result a.pos.now a.held.now c.loop-i.pos c.loop-i.held
    c.visit.new.pos c.visit.new.held c.loop-i.invariant c.visit.ensures
