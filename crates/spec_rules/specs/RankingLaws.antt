-- Stages 4 and 6, what a round of a ranking leaves at each object.
use Rattle.std.specs.Prelude.{◌≡◌, true, false, List, ℕ, ◌+◌, ◌≤◌, ◌<◌, length}
use Rattle.std.proofs.Common.{sym, ◌∙◌, arith, eq-eqb, ne_eqb}
use Rattle.base_lists.specs.Tables.{length_over, get_d_over}
use Rattle.base_lists.specs.Rounds.{over-same}
use Rattle.spec_rules.specs.Basics.{ABSENT, at, bounded}
use Rattle.spec_rules.specs.Ranking.{asks, sum_round, jump_round}

pub length-jumps : (k : ℕ) (jump : List ℕ) → length (jump_round k jump) ≡ length jump
unfolding jump_round
length-jumps k jump = length_over k _ jump

pub length-sums : (k : ℕ) (jump sum : List ℕ) → length (sum_round k jump sum) ≡ length sum
unfolding sum_round
length-sums k jump sum = length_over k _ sum

-- an object without a predecessor asks nothing, and is left as it is
pub silent : (jump : List ℕ) (a : ℕ) → at jump a ≡ ABSENT → asks jump a ≡ false
silent jump a e = rw (eq-eqb (at jump a) ABSENT e)

pub asking : (jump : List ℕ) (a : ℕ) → at jump a < ABSENT → asks jump a ≡ true
asking jump a l = rw (ne_eqb (at jump a) ABSENT (omega arith))

pub jump_kept : (k : ℕ) (jump : List ℕ) (a : ℕ) → a < k → k ≤ length jump → at jump a ≡ ABSENT →
    at (jump_round k jump) a ≡ at jump a
unfolding jump_round
jump_kept k jump a l h e = get_d_over k _ jump a 0 l (omega arith) ∙ rw (silent jump a e)

pub jump-taken : (k : ℕ) (jump : List ℕ) (a : ℕ) → a < k → k ≤ length jump → at jump a < ABSENT →
    at (jump_round k jump) a ≡ at jump (at jump a)
unfolding jump_round
jump-taken k jump a l h e = get_d_over k _ jump a 0 l (omega arith) ∙ rw (asking jump a e)

pub sum_kept : (k : ℕ) (jump sum : List ℕ) (a : ℕ) → a < k → k ≤ length sum → at jump a ≡ ABSENT →
    at (sum_round k jump sum) a ≡ at sum a
unfolding sum_round
sum_kept k jump sum a l h e = get_d_over k _ sum a 0 l (omega arith) ∙ rw (silent jump a e)

pub sum-taken : (k : ℕ) (jump sum : List ℕ) (a : ℕ) → a < k → k ≤ length sum → at jump a < ABSENT
    → at (sum_round k jump sum) a ≡ bounded (at sum a + at sum (at jump a))
unfolding sum_round
sum-taken k jump sum a l h e = get_d_over k _ sum a 0 l (omega arith) ∙ rw (asking jump a e)

-- where no object has a predecessor a round changes no sum
pub sums-still : (k : ℕ) (jump sum : List ℕ) → ((a : ℕ) → a < k → at jump a ≡ ABSENT) → sum_round k jump sum ≡ sum
unfolding sum_round
sums-still k jump sum none = sym (over-same 0 k _ sum (λ (a : ℕ) (l : a < k). rw (silent jump a (none a l))))
