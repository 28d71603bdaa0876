-- The greatest of the entries passed and of those from the index on is the greatest of all.
use Rattle.std.proofs.Common.{ℕ, ◌+◌, ◌%◌, ◌≡◌, max, ◌<◌, get_or, sym, ◌∙◌, arith, rules}
use Rattle.table_values.specs.TopLaws.{top-next, top-end, top-every}
use Rattle.table_values.proofs.bounds.top.Goals as goal

pub loop-x-preserved : goal.loop-x-preserved
loop-x-preserved c =
    let a = c.args in
    let put : c.max-greatest.result ≡ max c.loop-x.greatest ((get_or a.t.now c.loop-x.x-index 0 + a.more) % 65536) =
    cc in
    c.loop-x.invariant ∙ rw put (top-next a.more a.t.now c.loop-x.x-index c.loop-x.greatest (search rules))

pub returns : goal.returns
returns c =
    let a = c.args in
    let words : (i : ℕ) → get_or a.t.now i 0 < 65536 = λ i. omega (arith, c.type_inv.t i) in
    let is = sym (c.loop-x.invariant ∙ top-end a.more a.t.now c.loop-x.x-index c.loop-x.greatest (search rules)) in
    λ most p tells. rw is (top-every a.more most p tells a.t.now words)
