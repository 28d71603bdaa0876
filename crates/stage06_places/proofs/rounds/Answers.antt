-- Round after round: each is one of the definition's, as long as the stage goes on.
use mathlib.Core.Path.{◌≡◌, sym, ◌∙◌}
use mathlib.Core.Bool.{true}
use Prim.Native.Nat.{◌*◌, min}
use native.Mathlib.Omega.{arith}
use Rattle.spec_rules.specs.Ranking.{ranking_ends}
use Rattle.spec_machine.specs.InStage.{Goes, goes}
use Rattle.spec_machine.specs.StageRun.{turns_on, turns_over}
use Rattle.stage06_places.specs.Rounds.{one}
use Rattle.stage06_places.proofs.rounds.Goals as goal

pub number_if-requires : goal.number_if-requires
number_if-requires c =
    let go : Goes c.args.units 6 c.loop-before.made
    c.args.budget true c.loop-before.c = goes _ _ _ _ _ _ (sym c.goes_on.ensures ∙ c.loop-before-test.true) in
    (go).few

pub loop-before-preserved : goal.loop-before-preserved
unfolding one ranking_ends
loop-before-preserved c =
    let go : Goes c.args.units 6 c.loop-before.made
    c.args.budget true c.loop-before.c = goes _ _ _ _ _ _ (sym c.goes_on.ensures ∙ c.loop-before-test.true) in
    let g = go in
    let few : min c.args.units 256 ≡ c.args.units = omega (arith, g.few) in
    let all : min (2 * c.args.units) 512 ≡ 2 * c.args.units = omega (arith, g.few) in
    let last = rw (few, c.requests-asked.ensures, all) at c.is_last-last.ensures in
    turns_on _ _ _ _ _ _ _ c.loop-before.invariant g.test
    (rw (
      c.double.ensures.jumps,
      c.double.ensures.sums,
      c.number_if.ensures,
      last,
      c.ticked-after.ensures,
      g.inside,
      c.requests-asked.ensures,
      all,
    ))

pub returns : goal.returns
returns c = turns_over _ _ _ _ _ _ c.loop-before.invariant (sym c.goes_on.ensures ∙ c.loop-before-test.false)
