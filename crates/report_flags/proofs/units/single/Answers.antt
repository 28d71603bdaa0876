-- The bits of all labels differ from those of any.
use Rattle.std.proofs.Common.{arith}
use Rattle.report_flags.specs.LabelBits.{single-bits}
use Rattle.report_flags.proofs.units.single.Goals as goal

pub returns : goal.returns
returns c =
    let a = c.args in
    rw (c.label_bits-2.ensures, c.label_bits.ensures)
    (single-bits a.links a.ends.now a.label.now a.u (λ i. omega (arith, c.type_inv.label i)))
