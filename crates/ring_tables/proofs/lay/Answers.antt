-- Unit by unit.
use Rattle.std.proofs.Common.{refl, sym, ◌∙◌, arith}
use Rattle.theory_ears.specs.Steps.{onward}
use Rattle.theory_ears.specs.Weaving.{laid-turn, laid_end}
use Rattle.ring_tables.proofs.lay.Goals as goal

pub loop-left-preserved : goal.loop-left-preserved
loop-left-preserved c =
    let a = c.args in
    c.loop-left.invariant
    ∙ laid-turn a.placing (onward a.up) a.next.now c.loop-left.left c.loop-left.u c.loop-left.x c.choose-p.result
    c.choose-q.result c.at-u.result c.choose-x.result c.loop-left.out c.store.new.t
    (omega arith) c.choose-p.ensures c.choose-q.ensures c.store.ensures
    c.at-u.ensures (rw (
      c.choose-x.ensures,
      c.bounded_sum.ensures,
      c.saturating_sub.ensures,
    ) refl)

pub returns : goal.returns
returns c =
    let a = c.args in
    sym (c.loop-left.invariant
    ∙ laid_end a.placing (onward a.up) a.next.now c.loop-left.left c.loop-left.u c.loop-left.x c.loop-left.out
    (omega arith))
