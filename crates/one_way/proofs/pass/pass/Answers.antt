-- By its steps.
use Rattle.std.proofs.Common.{ℕ, arith, rules}
use Rattle.theory_min_label.specs.MinLabel.{source}
use Rattle.theory_min_label.specs.HandLaws.{ends-within}
use Rattle.theory_min_label.specs.Keys.{passed}
use Rattle.one_way.proofs.pass.pass.Goals as goal

pub rekey-requires : goal.rekey-requires
rekey-requires c = omega (arith, c.requires.0.few, c.requires.1)

pub returns : goal.returns
returns c =
    let site = c.requires.0 in
    passed c.args.units c.args.links.now c.args.key.now c.least.new.x
    c.least-2.new.x site.few (omega (arith, site.few, c.requires.1))
    (ends-within c.args.units c.args.links.now site.ends) site.loopless
    (c.least.ensures (λ (v : ℕ). v) c.own-f.ensures)
    (c.least-2.ensures (source c.least.new.x) c.sources-b.ensures) c.args.out.now _ _ (search rules)
    c.mark.ensures c.rekey.ensures
