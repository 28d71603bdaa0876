-- What stages 8 to 10 assume of stages 5 to 7: places number the units so that the descendants of each are an interval,
-- and low and high are the least and the greatest local value over them.
use Rattle.std.specs.Prelude.{◌≡◌, ◌↔◌, List, ℕ, ◌+◌, ◌≤◌, ◌<◌, min, max}
use Rattle.spec_rules.specs.Basics.{at}
use Rattle.spec_rules.specs.Range.{local_of}
use Rattle.theory_graph.specs.Forest.{Anc}

pub record Ordered (n : ℕ) (parent nd pre : List ℕ) (d : ℕ → ℕ) : Type 0 where
  pub place_below : (v : ℕ) → v < n → at pre v < n
  pub place_once : (v w : ℕ) → v < n → w < n → at pre v ≡ at pre w → v ≡ w
  pub place_taken : (q : ℕ) → q < n → (v : ℕ) × (v < n) × (at pre v ≡ q)
  pub nd_some : (v : ℕ) → v < n → 1 ≤ at nd v
  pub within : (v : ℕ) → v < n → at pre v + at nd v ≤ n
  -- w is a descendant of v exactly when its place is in v's interval
  pub interval : (v w : ℕ) → v < n → w < n →
      Anc (at parent) d v w ↔ ((at pre v ≤ at pre w) × (at pre w < at pre v + at nd v))

pub record Ranged (n m : ℕ) (ends parent pre : List ℕ) (d : ℕ → ℕ) (low high : List ℕ) : Type 0 where
  pub low_least : (v w : ℕ) → v < n → w < n → Anc (at parent) d v w → at low v ≤ local_of min m ends parent pre w
  pub low_taken : (v : ℕ) → v < n → (w : ℕ) × (w < n) × Anc (at parent) d v w
      × (at low v ≡ local_of min m ends parent pre w)
  pub high_greatest : (v w : ℕ) → v < n → w < n → Anc (at parent) d v w → local_of max m ends parent pre w ≤ at high v
  pub high_taken : (v : ℕ) → v < n → (w : ℕ) × (w < n) × Anc (at parent) d v w
      × (at high v ≡ local_of max m ends parent pre w)
