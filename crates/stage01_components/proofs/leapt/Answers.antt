-- By the law of leaps, where the stage makes a round.
use mathlib.Core.Path.{◌≡◌, sym, ap, ◌∙◌}
use mathlib.Core.Bool.{true}
use Prim.Native.Nat.{ℕ, ◌-◌, max}
use native.Mathlib.Omega.{arith}
use borrow.Author.Rules.{rules}
use Rattle.std.proofs.lemmas.Option.{IfSome_then}
use Rattle.spec_rules.specs.Fits.{links_fit}
use Rattle.spec_machine.specs.InStage.{Goes, goes}
use Rattle.spec_machine.specs.StageRun.{stage_run}
use Rattle.leap_least.specs.Leapt.{leapt-run}
use Rattle.stage01_components.specs.Leap.{ran, numbers, Any, spreads}
use Rattle.stage01_components.specs.Rounds.{on, one}
use Rattle.stage01_components.proofs.leapt.Goals as goal

pub returns : goal.returns
returns c =
    let a = c.args in
    let goes_on : c.goes_on-goes_on.result ≡ true = search rules in
    let go : Goes a.units 1 0 a.budget (links_fit a.units a.links a.ends.now) a.clock =
    goes _ _ _ _ _ _ (rw c.requires at (sym c.goes_on-goes_on.ensures ∙ goes_on)) in
    let most : c.max.result ≡ max 2 a.units = omega (arith, c.max.ensures) in
    let all : a.budget - 0 ≡ a.budget = omega arith in
    IfSome_then c.leap.result c.leap.ensures.leapt
    (λ rest leapt.
    leapt-run ran (on a.units a.links a.ends.now) (one a.units a.links a.ends.now) a.units
    a.links 1 a.ends.now (numbers a.units) Any
    (spreads a.units a.links a.ends.now go.fit) a.budget a.color a.clock 0 _ _ _
    (rw (most, c.said-said.ensures) at leapt) (λ x. x) go.inside
    ∙ ap (λ (b : ℕ). stage_run (on a.units a.links a.ends.now) (one a.units a.links a.ends.now) b
    (ran a.color a.clock 0)) all)
