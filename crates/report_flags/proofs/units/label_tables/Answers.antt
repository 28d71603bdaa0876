-- One link more at a time.
use Rattle.std.proofs.Common.{true, false, rules}
use Rattle.report_flags.specs.LabelBits.{bits-more}
use Rattle.report_flags.proofs.units.label_tables.Goals as goal

pub loop-j-preserved : goal.loop-j-preserved
loop-j-preserved c =
    let a = c.args in (
      search rules,
      rw c.take_link.ensures
          (bits-more false c.loop-j.j a.ends.now a.label.now c.loop-j.low c.loop-j.invariant.1),
      rw c.take_link-in-loop-j.ensures
          (bits-more true c.loop-j.j a.ends.now a.label.now c.loop-j.high c.loop-j.invariant.2),
    )
