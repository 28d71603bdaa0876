-- One flag more at a time.
use Rattle.std.proofs.Common.{cond, refl, rules}
use Rattle.spec_rules.specs.Labels.{lone}
use Rattle.report_flags.specs.Flags.{flags_none, flags_more}
use Rattle.report_flags.specs.Sharing.{shared_none, lookup-lone}
use Rattle.report_flags.proofs.Ones.{one}
use Rattle.report_flags.proofs.links.lones.Goals as goal

pub count_labels-absent-requires : goal.count_labels-absent-requires
count_labels-absent-requires c = shared_none c.args.label.now

pub loop-j-init : goal.loop-j-init
loop-j-init c =
    let a = c.args in
    (search rules, search rules, flags_none 1024 (lone a.links a.label.now))

pub loop-j-preserved : goal.loop-j-preserved
loop-j-preserved c =
    let a = c.args in
    let p = lone a.links a.label.now in
    let j = c.loop-j.j in
    let counts = c.count_labels-absent in (
      search rules,
      search rules,
      rw (
        c.put_byte.ensures,
        c.from-alone.ensures,
        one _,
        c.look_up.ensures,
        c.word-x.ensures,
        lookup-lone a.links a.label.now counts.new.bucket counts.ensures.buckets counts.result
            counts.ensures.absent j,
        c.loop-j.invariant.2,
      ) (flags_more 1024 j p (cond (p j) 1 0) (λ _. refl)),
    )
