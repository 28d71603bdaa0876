-- A refusal leaves the slice; a table that passes is surveyed.
use Rattle.std.proofs.Common.{sym, ap, ◌∙◌}
use Rattle.one_way.specs.NumberingLaws.{accepted-site, strong-refused, strong-accepted, strong-tells}
use Rattle.one_way.specs.declared.Numbering.TheVariants.{Passes, Refused}
use Rattle.one_way.proofs.strong.Goals as goal

pub returns-then-refused-ne0 : goal.returns-then-refused-ne0
returns-then-refused-ne0 c =
    let k = c.refusal-refused.ensures in
    let p = strong-refused c.args.units c.args.links.now c.args.numbers.now c.refusal-refused.result k
    c.if-refused-ne0.true in (let others = strong-tells c.args.units c.args.links.now c.args.numbers.now
    (Refused c.refusal-refused.result) p.0 in record {
      reply = p.0;
      lent = p.1;
      number = others.0;
      values = others.1;
    })

pub all-made-requires : goal.all-made-requires
all-made-requires c =
    (accepted-site c.args.units c.args.links.now _ (sym c.refusal-refused.ensures ∙ c.if-refused-ne0.false)).0

pub returns : goal.returns
returns c =
    let p = strong-accepted c.args.units c.args.links.now c.args.numbers.now (sym c.refusal-refused.ensures
    ∙ c.if-refused-ne0.false) in
    let r = ap Passes c.all-made.ensures.1
    ∙ p.0 in (let others = strong-tells c.args.units c.args.links.now c.args.numbers.now
    (Passes c.all-made.result) r in record {
      reply = r;
      lent = c.all-made.ensures.0 ∙ p.1;
      number = others.0;
      values = others.1;
    })
