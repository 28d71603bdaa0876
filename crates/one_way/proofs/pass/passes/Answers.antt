-- The passes made and those to come are all of them.
use Rattle.std.proofs.Common.{◌≡◌, sym, refl, ◌∙◌, arith, rules}
use lib.ListN.{get_or-replicate}
use Rattle.theory_min_label.specs.Going.{going-begun, going_on, going-stop, going_end}
use Rattle.one_way.proofs.pass.passes.Goals as goal

pub loop-made-init : goal.loop-made-init
loop-made-init c = (
  refl,
  going-begun c.args.units c.args.links.now c.args.out.now _ 65536
      (λ i h. omega (arith, c.requires.few, c.requires.ends i h)) (λ v h. get_or-replicate 256 v 65536 0 h),
)

pub returns-then-not-unfinished : goal.returns-then-not-unfinished
returns-then-not-unfinished c =
    going-stop c.args.units c.args.links.now c.args.out.now c.loop-made.made c.loop-made.key c.loop-made.out
    c.loop-made.invariant.1 (sym c.unfinished.ensures ∙ c.if-not-unfinished.true)

pub loop-made-preserved : goal.loop-made-preserved
loop-made-preserved c = (
  search rules,
  going_on c.args.units c.args.links.now c.args.out.now c.loop-made.made c.loop-made.key _
      c.loop-made.out _ c.loop-made-test.true (sym c.unfinished.ensures
      ∙ c.if-not-unfinished.false) c.pass.ensures c.loop-made.invariant.1,
)

pub returns : goal.returns
returns c =
    let all : c.args.units ≡ c.loop-made.made = omega arith in
    let p = going_end c.args.units c.args.links.now c.args.out.now c.loop-made.made c.loop-made.key c.loop-made.out
    c.loop-made.invariant.1 (omega arith) in
    (p.0, all ∙ p.1)
