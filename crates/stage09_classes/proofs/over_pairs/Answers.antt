-- By the law of leaps over the pairs.
use mathlib.Core.Path.{◌≡◌, sym, ap, ◌∙◌}
use mathlib.Core.Bool.{cond}
use Prim.Native.Nat.{ℕ, ◌-◌, min, max}
use native.Mathlib.Omega.{arith}
use lib.Dec.{eqb}
use borrow.Author.Rules.{rules}
use Rattle.std.proofs.lemmas.Option.{IfSome_then}
use borrow.Author.Tests.{eq-eqb}
use Rattle.base_lists.specs.Folds.{every}
use Rattle.base_lists.specs.Tables.{over, length_over}
use Rattle.base_lists.specs.Tests.{and_left, cond_true}
use Rattle.spec_rules.specs.Bounds.{name_ok}
use Rattle.spec_rules.specs.Fits.{links_fit, fit-few}
use Rattle.spec_machine.specs.StageRun.{stage_run}
use Rattle.leap_least.specs.Leapt.{leapt-run}
use Rattle.stage09_classes.specs.Rounds.{on, one}
use Rattle.stage09_classes.specs.Leap.{ran, unrooted, numbers, RootsAbsent, roots_absent, spreads}
use Rattle.stage09_classes.proofs.over_pairs.Goals as goal

pub returns : goal.returns
returns c =
    let a = c.args in
    let units : min a.units 256 ≡ a.units = omega (arith, c.requires.0) in
    let links : min a.links 1024 ≡ a.links =
    omega (
      arith,
      fit-few a.units a.links a.ends.now
          (and_left (links_fit a.units a.links a.ends.now) (every (name_ok a.units) a.parent.now)
          c.requires.1),
    ) in
    let none = eq-eqb a.clock.made 0 c.requires.3 in
    let says : c.without_roots-said.result ≡ cond (eqb a.clock.made 0) (numbers a.units a.parent.now a.color)
    a.color =
    rw units at c.without_roots-said.ensures ∙ ap (unrooted a.units a.parent.now) c.said-value.ensures
    ∙ sym (cond_true (eqb a.clock.made 0) (numbers a.units a.parent.now a.color) a.color none) in
    let fine : RootsAbsent a.units a.parent.now
    (cond (eqb a.clock.made 0) (numbers a.units a.parent.now a.color) a.color) =
    rw none (roots_absent a.units a.parent.now (over a.units (λ (v : ℕ). v) a.color)
    (omega (arith, c.requires.0, c.well_formed, length_over a.units (λ (v : ℕ). v) a.color))) in
    let all : a.budget - 0 ≡ a.budget = omega arith in
    let most : c.max-most.result ≡ max 2 (a.units - 1) = search rules in
    IfSome_then c.leap.result c.leap.ensures.leapt
    (λ rest leapt.
    leapt-run ran (on a.units a.links a.ends.now a.parent.now)
    (one a.units a.links a.ends.now a.parent.now a.linked.now a.parents.now) a.units
    c.joins-count.result 9 _ (numbers a.units a.parent.now) (RootsAbsent a.units a.parent.now)
    (spreads a.units a.links a.ends.now a.parent.now a.linked.now a.parents.now
    c.joins-count.result _ (rw (units, links) at c.joins-count.ensures.heard) c.requires.1) a.budget a.color
    a.clock 0 _ _ _
    (rw (most, says) at leapt) fine c.requires.2
    ∙ ap (λ (b : ℕ). stage_run (on a.units a.links a.ends.now a.parent.now)
    (one a.units a.links a.ends.now a.parent.now a.linked.now a.parents.now) b
    (ran a.color a.clock 0)) all)
