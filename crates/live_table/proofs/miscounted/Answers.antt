-- Unit by unit.
use Rattle.std.proofs.Common.{◌≡◌, refl, ◌∙◌, rules}
use Rattle.base_lists.specs.Some.{some_more}
use Rattle.live_table.specs.Counts.{counted_at}
use Rattle.live_table.specs.CountLaws.{wrong_at, counts-at, miscounted-all}
use Rattle.live_table.proofs.miscounted.Goals as goal

pub loop-v-preserved : goal.loop-v-preserved
loop-v-preserved c =
    let a = c.args in
    let right : c.word-in-loop-v.result ≡ counted_at a.links a.words.now c.loop-v.v =
    c.word-in-loop-v.ensures ∙ rw c.counts_of-right.ensures (counts-at a.links a.words.now c.loop-v.v (search rules)) in
    some_more c.loop-v.v (wrong_at a.links a.words.now a.counts.now) c.loop-v.wrong _ _ c.loop-v.invariant
    (rw (c.word.ensures, right) refl) refl

pub returns : goal.returns
returns c =
    let a = c.args in
    miscounted-all a.links a.words.now a.counts.now c.loop-v.v c.loop-v.wrong c.loop-v.invariant
    (search rules) (search rules)
