-- From the lower anchor to the higher.
use mathlib.Core.Path.{refl}
use Rattle.theory_ears.specs.Weaving.{ear-of}
use Rattle.ring_ears.proofs.ear.Goals as goal

pub returns : goal.returns
returns c =
    let a = c.args in
    ear-of a.units a.ends.now a.parent.now a.held.now a.j a.pos.now
    c.weave.new.pos c.end_a-a.result c.end_b-b.result
    c.at.result c.at-3.result c.at-2.result c.at-4.result c.choose-u.result
    c.choose-v.result _ c.end_a-a.ensures c.end_b-b.ensures c.at.ensures
    c.at-2.ensures c.at-3.ensures c.at-4.ensures refl
    c.choose-u.ensures c.choose-v.ensures c.weave.ensures
