-- One link more at a time: in a bucket, or as absent, or neither.
use Rattle.std.proofs.Common.{◌==◌, sym, ◌∙◌, arith, rules}
use Rattle.report_flags.specs.Sharing.{sharing-none, sharing-more, sharing-other, shared_more}
use Rattle.report_flags.specs.Sharing.{shared_other}
use Rattle.report_flags.proofs.Ones.{one, one-few}
use Rattle.report_flags.proofs.links.count_labels.Goals as goal
use Rattle.report_flags.proofs.links.count_labels.Goals.{then-q-lt1024, else-q-lt1024}

pub loop-k-init : goal.loop-k-init
loop-k-init c = (search rules, search rules, sym (sharing-none _ _), search rules)

pub loop-k-preserved : goal.loop-k-preserved
loop-k-preserved c =
    let a = c.args in
    let k = c.loop-k.k in
    let is = c.word-q.ensures in
    elim c.if-q-lt1024.branch [
      | then-q-lt1024 w ↦ (
        search rules,
        omega (arith, w.absent-is, c.loop-k.invariant.1),
        w.absent-is ∙ c.loop-k.invariant.2 ∙ sharing-other k a.label.now 65535
            (λ e. omega (arith, e, is, w.if-q-lt1024.true)),
        rw (w.bucket-is, w.count_in.ensures, is)
            (shared_more k a.label.now c.loop-k.bucket c.loop-k.invariant.3 (omega arith)),
      )
      | else-q-lt1024 w ↦ (
        search rules,
        omega (arith, w.absent-is, w.from-absent.ensures, one-few (c.word-q.result == 65535), c.loop-k.invariant.1),
        w.absent-is ∙ rw (w.from-absent.ensures, one (c.word-q.result == 65535), is, c.loop-k.invariant.2)
            (sharing-more k a.label.now 65535),
        rw w.bucket-is (shared_other k a.label.now c.loop-k.bucket c.loop-k.invariant.3
            (omega (arith, is, w.if-q-lt1024.false))),
      )
    ]
