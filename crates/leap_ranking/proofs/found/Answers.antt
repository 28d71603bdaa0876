-- All tests hold.
use Rattle.std.proofs.Common.{arith, refl, rules}
use Rattle.leap_ranking.specs.Keys.{sum_in, rank_in, found-by}
use Rattle.leap_ranking.proofs.found.Goals as goal

pub returns-clause-sums : goal.returns-clause-sums
returns-clause-sums c =
    let a = c.args in
    found-by a.arcs a.jump a.sum _ _ _ _ _ _ _ _ _ _ c.requires (omega arith) (omega arith)
    (c.of_keys-total.ensures sum_in (λ k x e. search rules)) (c.of_keys-rank.ensures rank_in (λ k x e. search rules))
    c.numbers_ok.ensures c.numbers_ok-2.ensures c.keys_right.ensures
    c.asked-asked.ensures.requests c.asked-asked.ensures.rounds refl refl c.if-not-right.false
