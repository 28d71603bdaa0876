-- One link more at a time.
use Rattle.std.proofs.Common.{sym, ◌∙◌, rules}
use Rattle.report_flags.specs.LabelBits.{label_bits-none, label_bits-more}
use Rattle.report_flags.proofs.units.label_bits.Goals as goal

pub loop-j-init : goal.loop-j-init
loop-j-init c =
    let a = c.args in
    (search rules, c.start-none.ensures ∙ sym (label_bits-none a.any a.ends.now a.label.now a.u))

pub loop-j-preserved : goal.loop-j-preserved
loop-j-preserved c =
    let a = c.args in (
      search rules,
      rw (
        c.op-z.ensures,
        c.choose-x.ensures,
        c.label_of.ensures,
        c.touches.ensures,
        c.start-none.ensures,
        c.loop-j.invariant.1,
      )
          (label_bits-more a.any c.loop-j.j a.ends.now a.label.now a.u),
    )
