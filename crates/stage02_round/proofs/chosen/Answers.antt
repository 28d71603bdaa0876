-- Link by link, from tables without neighbours.
use Rattle.std.proofs.Common.{ℕ, pos, get_or, w16, rules}
use Rattle.std.proofs.lemmas.List.{get_or-replicate}
use mir.ValLaws.{to_z-of_z}
use Rattle.spec_rules.specs.Tree.{visited_before}
use Rattle.spec_rules.specs.TreeLaws.{best_none, best-more, chosen-all}
use Rattle.stage02_round.specs.Wrapped.{wrapped, first-wrapped, second-wrapped}
use Rattle.stage02_round.proofs.chosen.Goals as goal

pub loop-j-init : goal.loop-j-init
loop-j-init c =
    let a = c.args in
    best_none (λ (v : ℕ). visited_before a.made a.dist.now) (wrapped a.ends.now) a.levels.now _ _ (search rules)
    (search rules) (λ i h. get_or-replicate 256 i (pos 0) (pos 0) h) (λ i h. get_or-replicate 256 i 65535 0 h)

pub loop-j-preserved : goal.loop-j-preserved
loop-j-preserved c =
    let a = c.args in
    let e = a.ends.now in
    let level = to_z-of_z w16 (get_or a.levels.now c.loop-j.j (pos 0)) (search rules) in
    best-more (λ (v : ℕ). visited_before a.made a.dist.now) (wrapped e) a.levels.now
    c.loop-j.j _ _ _ _ _ level
    (rw (first-wrapped e c.loop-j.j, second-wrapped e c.loop-j.j) c.offer_both.ensures) c.loop-j.invariant

pub returns : goal.returns
returns c =
    let a = c.args in
    λ v h. chosen-all a.links c.loop-j.j a.made (wrapped a.ends.now) a.levels.now a.dist.now
    c.loop-j.held c.loop-j.best c.loop-j.invariant c.loop-j.auto.j-end c.loop-j-test.false v h
