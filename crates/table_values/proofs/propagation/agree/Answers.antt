-- Entry by entry, as far as both have entries.
use Rattle.std.proofs.Common.{◌≡◌, min, length, refl, ◌∙◌, arith, rules}
use Rattle.table_values.specs.Agreed.{agree-more, agree-least}
use Rattle.table_values.proofs.propagation.agree.Goals as goal

pub loop-i-preserved : goal.loop-i-preserved
loop-i-preserved c =
    let a = c.args in (
      search rules,
      agree-more c.loop-i.i a.before.now a.after.now _ _ (search rules) (search rules) c.loop-i.invariant.1
          refl,
    )

pub returns : goal.returns
returns c =
    let a = c.args in
    let ended : c.loop-i.i ≡ min a.units (min (length a.before.now) (length a.after.now)) = omega (
      arith,
      c.min.ensures,
      c.min-count.ensures,
      c.loop-i.invariant.0,
      c.loop-i-test.false,
    ) in
    (rw ended at c.loop-i.invariant.1) ∙ agree-least a.units a.before.now a.after.now
