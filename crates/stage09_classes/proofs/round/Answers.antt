-- By the law of such a round.
use mathlib.Core.Path.{◌≡◌, refl, ◌∙◌}
use Prim.Native.Nat.{ℕ, ◌≤◌, min}
use native.Mathlib.Omega.{arith}
use lib.ListN.{length}
use mir.Syntax.{w16}
use mir.Val.{Fits}
use Rattle.spec_rules.specs.Basics.{at}
use Rattle.stage09_classes.specs.RoundLaws.{heads-round}
use borrow.Author.Rules.{rules}
use Rattle.stage09_classes.proofs.round.Goals as goal

pub returns : goal.returns
returns c =
    let a = c.args in
    let l = c.propagate.ensures refl in
    let long : length c.said-value.result ≡ 256 = search (c.said-value.type_inv, rules) in
    let words : (i : ℕ) → at c.said-value.result i ≤ 65535 = λ i. let f : Fits w16 (at c.said-value.result i) =
    search (c.said-value.type_inv, rules) in omega (arith, f.fits) in
    let units : min a.units 256 ≡ a.units = omega (arith, c.requires.0) in
    λ marks by.
    rw units at c.least.ensures
    ∙ heads-round a.units a.links a.made a.ends.now a.parent.now a.linked.now marks a.color
    c.said-value.result a.heads.now
    c.without_roots-said.result c.propagate-told.result _ c.said-value.ensures (omega (arith, long, c.requires.0))
    c.requires.2 by words
    (rw units at c.without_roots-said.ensures)
    (rw l at c.propagate-told.ensures.0) c.propagate-told.ensures.1
