-- By the test of the tree.
use mathlib.Core.Path.{◌≡◌, refl}
use mathlib.Core.Bool.{true, false}
use Rattle.spec_rules.specs.Basics.{off_tree}
use Rattle.stage07_range.proofs.local.hear_off.Goals as goal

pub returns-then-not-off : goal.returns-then-not-off
returns-then-not-off c =
    let a = c.args in
    let on : off_tree a.parent.now a.a a.b ≡ false =
    c.if-not-off.true in
    rw on (record {
      low = refl;
      high = refl;
    })

pub returns : goal.returns
returns c =
    let a = c.args in
    let off : off_tree a.parent.now a.a a.b ≡ true =
    c.if-not-off.false in
    rw off (record {
      low = c.hear.ensures;
      high = c.hear-2.ensures;
    })
