-- By the test.
use mathlib.Core.Path.{sym}
use Prim.Native.Nat.{◌%◌}
use lib.IntN.{pos}
use lib.Seq.{set-get_or}
use mir.Syntax.{w16}
use mir.ValLaws.{to_z-of_z}
use Rattle.stage02_round.proofs.choice.offer_if.Goals as goal

pub returns-then-test : goal.returns-then-test
returns-then-test c =
    let a = c.args in
    let level = to_z-of_z w16 a.level c.ranges.level in
    let put = rw level at c.offer.ensures in
    rw c.if-test.true put

pub returns-else-test : goal.returns-else-test
returns-else-test c =
    let a = c.args in
    rw c.if-test.false (record {
      levels = sym (set-get_or a.held.now (a.v % 256) (pos 0));
      units = sym (set-get_or a.best.now (a.v % 256) 0);
    })
