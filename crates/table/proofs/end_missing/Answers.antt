-- What the ends passed say, or the test of the rest, is the test of the whole table.
use Rattle.std.proofs.Common.{sym, ap, ◌∙◌, ◌||◌, rules}
use mathlib.Core.Bool.{or-false}
use Rattle.table.specs.TableLaws.{end_missing-next, end_missing-end}
use Rattle.table.proofs.end_missing.Goals as goal

pub loop-end-preserved : goal.loop-end-preserved
loop-end-preserved c =
    let a = c.args in
    c.loop-end.invariant
    ∙ end_missing-next a.units a.table.now c.loop-end.end-index c.loop-end.missing (search rules)

pub returns : goal.returns
returns c =
    let a = c.args in
    sym
    (c.loop-end.invariant
    ∙ ap (λ (x : _). c.loop-end.missing || x)
    (end_missing-end a.units a.table.now c.loop-end.end-index (search rules))
    ∙ or-false c.loop-end.missing)
