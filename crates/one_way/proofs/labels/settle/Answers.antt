-- As long as a label falls, the sum of the labels falls with a sweep.
use Rattle.std.proofs.Common.{sym, ◌∙◌}
use Rattle.theory_min_label.specs.MinLabelLaws.{Hears}
use Rattle.theory_min_label.specs.Hands.{Live}
use Rattle.theory_min_label.specs.HandLaws.{spread_refl, spread_trans, sweep_spread, sweep_less, still-settled}
use Rattle.one_way.proofs.labels.settle.Goals as goal

pub loop-x-init : goal.loop-x-init
loop-x-init c = (
  c.search.ensures.size ∙ c.requires.labels,
  spread_refl (Hears c.args.forward (Live c.args.links.now c.args.key.now)) _,
)

pub falls-requires : goal.falls-requires
falls-requires c = record { ends = c.requires.ends; keys = c.requires.keys; labels = c.loop-x.invariant.0 }

pub sweep-requires : goal.sweep-requires
sweep-requires c = record { ends = c.requires.ends; keys = c.requires.keys; labels = c.loop-x.invariant.0 }

pub loop-x-smaller : goal.loop-x-smaller
loop-x-smaller c =
    sweep_less c.args.forward c.args.links.now c.args.key.now c.loop-x.x _ c.requires.ends
    c.loop-x.invariant.0 c.sweep.ensures (sym c.falls.ensures ∙ c.loop-x-test.true)

pub loop-x-preserved : goal.loop-x-preserved
loop-x-preserved c =
    let p = sweep_spread c.args.forward c.args.links.now c.args.key.now c.loop-x.x _ c.requires.ends
    c.loop-x.invariant.0 c.sweep.ensures in (
      p.size ∙ c.loop-x.invariant.0,
      spread_trans
          (Hears c.args.forward (Live c.args.links.now c.args.key.now)) _ c.loop-x.x _
          c.loop-x.invariant.1 p,
    )

pub returns : goal.returns
returns c = (
  spread_trans (Hears c.args.forward (Live c.args.links.now c.args.key.now)) c.args.x.now _
      c.loop-x.x c.search.ensures c.loop-x.invariant.1,
  still-settled c.args.forward c.args.links.now c.args.key.now c.loop-x.x (sym c.falls.ensures
      ∙ c.loop-x-test.false),
)
