-- By the first cause, then by how many units are left.
use mathlib.Core.Path.{sym, ◌∙◌}
use Prim.Native.Nat.{◌*◌}
use native.Mathlib.Omega.{arith}
use lib.ListN.{length, length-take}
use Rattle.lifting_order.proofs.WrittenLaws.{passed-given, site-long, fits-given, told-given, told_none}
use Rattle.lifting_order.proofs.WrittenLaws.{told-order}
use borrow.Author.Rules.{rules}
use Rattle.lifting_order.proofs.write.Goals as goal

pub returns-then-refused-ne0 : goal.returns-then-refused-ne0
returns-then-refused-ne0 c =
    let a = c.args in let all =
    told-given a.units a.links a.ends.now a.pairs.now c.given_refusal-refused.result a.out.now
    c.given_refusal-refused.ensures
    c.if-refused-ne0.true in
    record { number = all.0; lent = all.1 }

pub slice_bounds-grown-end : goal.slice_bounds-grown-end
slice_bounds-grown-end c =
    let a = c.args in
    let e = sym c.given_refusal-refused.ensures ∙ c.if-refused-ne0.false in
    let p = passed-given a.units a.links a.ends.now a.pairs.now (length a.out.now) e in
    rw (length-take (2 * a.links) a.ends.now)
    (omega (arith, site-long a.units a.links a.ends.now p.0))

pub grown-left-requires : goal.grown-left-requires
grown-left-requires c =
    let a = c.args in
    let e = sym c.given_refusal-refused.ensures ∙ c.if-refused-ne0.false in
    let p = passed-given a.units a.links a.ends.now a.pairs.now (length a.out.now) e in
    (fits-given a.units a.links a.ends.now a.pairs.now p.0 p.2, search rules)

pub returns-then-left-ne0 : goal.returns-then-left-ne0
returns-then-left-ne0 c =
    let a = c.args in
    let e = sym c.given_refusal-refused.ensures ∙ c.if-refused-ne0.false in
    let all = told_none a.units a.links a.ends.now a.pairs.now a.out.now _ c.grown-left.result e
    c.grown-left.ensures c.if-left-ne0.true in
    record { number = all.0; lent = all.1 }

pub returns : goal.returns
returns c =
    let a = c.args in
    let e = sym c.given_refusal-refused.ensures ∙ c.if-refused-ne0.false in
    let all = told-order a.units a.links a.ends.now a.pairs.now a.out.now _ _ c.grown-left.result e
    c.grown-left.ensures c.if-left-ne0.false c.lay_first.ensures in
    record { number = all.0; lent = all.1 }
