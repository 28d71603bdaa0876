-- One link more at a time.
use Rattle.std.proofs.Common.{◌==◌, sym, arith, rules}
use Rattle.report_flags.specs.Sharing.{sharing-none, sharing-more}
use Rattle.report_flags.proofs.Ones.{one, one-few}
use Rattle.report_flags.proofs.links.sharing.Goals as goal

pub loop-k-init : goal.loop-k-init
loop-k-init c = (search rules, search rules, sym (sharing-none _ _))

pub loop-k-preserved : goal.loop-k-preserved
loop-k-preserved c =
    let a = c.args in
    let few = one-few (c.word.result == a.x) in (
      search rules,
      omega (arith, few, c.from-n.ensures, c.loop-k.invariant.1),
      rw (c.from-n.ensures, one (c.word.result == a.x), c.word.ensures, c.loop-k.invariant.2)
          (sharing-more c.loop-k.k a.label.now a.x),
    )
