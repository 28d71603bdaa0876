-- Link by link, from no link at any unit.
use Rattle.std.proofs.Common.{◌≡◌, ◌∙◌, arith, refl, rules}
use lib.ListN.{get_or-replicate, replicate}
use Rattle.live_table.specs.CountLaws.{counted_in, counted_none, counted_next, counted-all, counts_ext}
use Rattle.live_table.proofs.counts_of.Goals as goal

pub loop-j-init : goal.loop-j-init
loop-j-init c = (refl, counted_none c.args.words.now (replicate 256 0) (λ v h. get_or-replicate 256 v 0 0 h))

pub loop-j-preserved : goal.loop-j-preserved
loop-j-preserved c =
    let a = c.args in
    let put : c.count_in.new.counts
    ≡ counted_in c.loop-j.counts c.word.result c.word-in-loop-j.result =
    cc in (
      search rules,
      counted_next c.loop-j.j a.words.now c.loop-j.counts c.count_in.new.counts
          c.word.result c.word-in-loop-j.result
          (omega arith) c.loop-j.invariant.0 c.loop-j.invariant.1 c.word.ensures
          c.word-in-loop-j.ensures put,
    )

pub returns : goal.returns
returns c =
    let a = c.args in
    counts_ext a.links a.words.now c.loop-j.counts c.loop-j.invariant.0
    (λ v h. c.loop-j.invariant.1 v h ∙ counted-all c.loop-j.j a.links a.words.now v (search rules)
    c.loop-j-test.false)
