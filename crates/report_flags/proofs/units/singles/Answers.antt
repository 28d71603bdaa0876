-- One flag more at a time.
use Rattle.std.proofs.Common.{true, false, arith, rules}
use Rattle.spec_rules.specs.Labels.{single}
use Rattle.report_flags.specs.Flags.{flags_none, flags_more}
use Rattle.report_flags.specs.LabelBits.{bits_none, single-bits}
use Rattle.report_flags.proofs.Ones.{one}
use Rattle.report_flags.proofs.units.singles.Goals as goal

pub label_tables-requires : goal.label_tables-requires
label_tables-requires c =
    let a = c.args in
    (bits_none false a.ends.now a.label.now, bits_none true a.ends.now a.label.now)

pub loop-u-init : goal.loop-u-init
loop-u-init c =
    let a = c.args in
    (search rules, search rules, flags_none 256 (single a.links a.ends.now a.label.now))

pub loop-u-preserved : goal.loop-u-preserved
loop-u-preserved c =
    let a = c.args in
    let u = c.loop-u.u in (
      omega (arith, c.loop-u-test.true),
      search rules,
      rw (
        c.put_byte.ensures,
        c.from-meets.ensures,
        one _,
        c.word-in-loop-u.ensures,
        c.word.ensures,
        c.loop-u.invariant.2,
      )
          (flags_more 256 u (single a.links a.ends.now a.label.now) _
          (λ h. rw (
            c.label_tables.ensures.low.known u h,
            c.label_tables.ensures.high.known u h,
            single-bits a.links a.ends.now a.label.now u
                (λ i. omega (arith, c.type_inv.label i)),
          ))),
    )
