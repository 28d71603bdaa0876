-- Stages 5 and 6 as code makes them: a component's size and the units in components of smaller color come from buckets
-- of colors.
use Rattle.std.specs.Prelude.{◌≡◌, cond, List, ℕ, ◌+◌, ◌*◌, ◌-◌, ◌/◌, ◌<◌, get_or}
use Rattle.std.proofs.Math.Bool.{true, false}
use Rattle.base_lists.specs.Tables.{over, over_cong}
use Rattle.spec_rules.specs.Basics.{ABSENT, at, bounded, is_root}
use Rattle.spec_rules.specs.Buckets.{BUCKETS, lookup, lookup-right}
use Rattle.spec_rules.specs.CountLaws.{count_of}
use Rattle.spec_rules.specs.Order.{descendants, nd_round, place_of, pre_round}

-- a bucket for each color, and the count for absent ones
module _ (n : ℕ) (color bucket : List ℕ) (absent : ℕ) where
  abbrev pub descendants_by : List ℕ → List ℕ → ℕ → ℕ
  descendants_by parent rank v =
      cond (is_root parent v) (lookup (count_of false n color) bucket absent (at color v))
      ((at rank (2 * v + 1) + 1 - at rank (2 * v)) / 2)

  abbrev pub place_by : List ℕ → List ℕ → ℕ → ℕ
  place_by parent sum v =
      bounded (cond (is_root parent v) 0 (at sum (2 * v)) + lookup (count_of true n color) bucket absent (at color v))

  pub nd-round : ((q : ℕ) → q < BUCKETS → get_or bucket q 0 ≡ count_of false n color q) →
      absent ≡ count_of false n color ABSENT
      → (parent rank nd : List ℕ) → over n (descendants_by parent rank) nd ≡ nd_round n color parent rank nd
  unfolding nd_round descendants count_of
  nd-round known lost parent rank nd =
      over_cong n (descendants_by parent rank) (descendants n color parent rank) nd
      (λ (v : ℕ) (l : v < n). rw (lookup-right (count_of false n color) bucket absent known lost (at color v)))

  pub pre-round : ((q : ℕ) → q < BUCKETS → get_or bucket q 0 ≡ count_of true n color q) →
      absent ≡ count_of true n color ABSENT
      → (parent sum pre : List ℕ) → over n (place_by parent sum) pre ≡ pre_round n color parent sum pre
  unfolding pre_round place_of count_of
  pre-round known lost parent sum pre =
      over_cong n (place_by parent sum) (place_of n color parent sum) pre
      (λ (v : ℕ) (l : v < n). rw (lookup-right (count_of true n color) bucket absent known lost (at color v)))
