-- What the links passed say, or the test of the rest, is the test of the whole table.
use Rattle.std.proofs.Common.{◌≡◌, sym, ap, ◌∙◌, ◌||◌, ◌*◌, ◌+◌, rules, arith}
use mathlib.Core.Bool.{or-false}
use Rattle.table.specs.TableLaws.{equal_ends-next, equal_ends-end}
use Rattle.table.proofs.equal_ends.Goals as goal

pub loop-j-preserved : goal.loop-j-preserved
loop-j-preserved c =
    let t = c.args.table.now in
    let e : 2 * (c.loop-j.j + 1) ≡ 2 * c.loop-j.j + 2 = omega arith in
    rw e (c.loop-j.invariant ∙ equal_ends-next t (2 * c.loop-j.j) c.loop-j.equal (search rules))

pub returns : goal.returns
returns c =
    let t = c.args.table.now in
    sym
    (c.loop-j.invariant
    ∙ ap (λ (x : _). c.loop-j.equal || x) (equal_ends-end t (2 * c.loop-j.j) (search rules))
    ∙ or-false c.loop-j.equal)
