-- Stage 7's later rounds by the length of the segments: `span` is 2 ^ i and `period` twice that.
use Rattle.std.specs.Prelude.{◌≡◌, Bool, not, cond, ◌&&◌, List, ℕ, suc, ◌+◌, ◌-◌, ◌%◌, ◌^◌, eqb, ltb, leb}
use Rattle.base_lists.specs.Tables.{over}
use Rattle.spec_rules.specs.Basics.{at, bounded}
use Rattle.spec_rules.specs.Range.{segment, with_little, with_big, range_later, little_later, big_later, global_later}

abbrev pub odd_by : ℕ → ℕ → Bool
odd_by period x = not (eqb (x % period) 0)

abbrev moves_little_by : ℕ → List ℕ → List ℕ → ℕ → Bool
moves_little_by period little big v = ltb (at little v) (at big v) && odd_by period (at little v)

abbrev moves_big_by : ℕ → List ℕ → List ℕ → ℕ → Bool
moves_big_by period little big v = ltb (at little v) (at big v) && odd_by period (at big v)

abbrev pub little_by : ℕ → ℕ → List ℕ → List ℕ → ℕ → ℕ
little_by span period little big v = cond (moves_little_by period little big v) (bounded (at little v + span))
    (at little v)

abbrev pub big_by : ℕ → ℕ → List ℕ → List ℕ → ℕ → ℕ
big_by span period little big v = cond (moves_big_by period little big v) (at big v - span) (at big v)

abbrev pub segment_before_by : ℕ → ℕ → List ℕ → ℕ → ℕ
segment_before_by span n global q = cond (leb span q) (segment n global (q - span)) 0

abbrev with_little_by : (ℕ → ℕ → ℕ) → ℕ → ℕ → List ℕ → List ℕ → List ℕ → ℕ → ℕ → ℕ
with_little_by op period n global little big v x =
    cond (moves_little_by period little big v) (op x (segment n global (at little v))) x

abbrev with_big_by : (ℕ → ℕ → ℕ) → ℕ → ℕ → ℕ → List ℕ → List ℕ → List ℕ → ℕ → ℕ → ℕ
with_big_by op span period n global little big v x =
    cond (moves_big_by period little big v) (op x (segment_before_by span n global (at big v))) x

abbrev pub range_by : (ℕ → ℕ → ℕ) → ℕ → ℕ → ℕ → List ℕ → List ℕ → List ℕ → List ℕ → ℕ → ℕ
range_by op span period n global little big range v =
    with_big_by op span period n global little big v (with_little_by op period n global little big v (at range v))

abbrev pub global_by : (ℕ → ℕ → ℕ) → ℕ → ℕ → ℕ → List ℕ → ℕ → ℕ
global_by op span period n global q =
    cond (not (odd_by period q) && ltb (q + span) n) (op (at global q) (at global (q + span))) (at global q)

module _ (i span period : ℕ) (length : span ≡ 2 ^ i) (twice : period ≡ 2 ^ suc i) where
  pub little-later : (n : ℕ) (big little : List ℕ) →
      over n (little_by span period little big) little ≡ little_later i n big little
  unfolding little_later
  little-later n big little = rw (length, twice)

  pub big-later : (n : ℕ) (little big : List ℕ) → over n (big_by span period little big) big ≡ big_later i n little big
  unfolding big_later
  big-later n little big = rw (length, twice)

  pub range-later : (op : ℕ → ℕ → ℕ) (n : ℕ) (global little big range : List ℕ)
      → over n (range_by op span period n global little big range) range ≡ range_later op i n global little big range
  unfolding range_later with_little with_big
  range-later op n global little big range = rw (length, twice)

  pub global-later : (op : ℕ → ℕ → ℕ) (n : ℕ) (global : List ℕ) →
      over n (global_by op span period n global) global ≡ global_later op i n global
  unfolding global_later
  global-later op n global = rw (length, twice)
