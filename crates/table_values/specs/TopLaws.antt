-- The greatest entry is within a limit exactly when every entry is. Raised by 1, an absent entry is 0, which is within
-- every limit.
use Rattle.std.specs.Prelude.{◌≡◌, ℕ, zero, suc, ◌+◌, ◌-◌, ◌<◌, ◌≤◌, max, Bool, ◌&&◌, ltb, List, [], ◌∷◌, length, drop}
use Rattle.std.specs.Prelude.{◌==◌, ◌≢◌, nat_le, nat_lt, slice_index, refl}
use Rattle.std.proofs.Math.Decide.{dec_le, dec_lt}
use Rattle.std.proofs.Common.{arith, drop_of_length-le, le-leb, lt-ltb, le-ltb, eq-eqb, ne_eqb}
use Rattle.std.proofs.lemmas.Bool.{lt-leb}
use Rattle.base_lists.specs.Folds.{every}
use Rattle.base_lists.specs.Rests.{rest-one}
use Rattle.spec_rules.specs.Basics.{ABSENT, MAX-NUMBER}
use Rattle.table_levels.specs.Level.{in_range, word_level}
use Rattle.table_levels.specs.LevelLaws.{signed-few, signed-many}
use Rattle.spec_rules.specs.Bounds.{name_ok, number_ok, dist_ok}
use Rattle.table_values.specs.Tops.{raised, Tells, top_of}

-- ---- along the table

-- the entry at `i` is taken in
pub top-next : (more : ℕ) (t : List ℕ) (i x : ℕ) → i < length t
    → max x (top_of more (drop i t)) ≡ max (max x (raised more (slice_index t i))) (top_of more (drop (i + 1) t))
unfolding top_of
top-next more t i x h = rw (rest-one t i 0 h) (omega arith)

pub top-end : (more : ℕ) (t : List ℕ) (i x : ℕ) → length t ≤ i → max x (top_of more (drop i t)) ≡ x
unfolding top_of
top-end more t i x h = rw (drop_of_length-le t h) (omega arith)

-- ---- the limit

both-within : (a b limit : ℕ) → nat_le (max a b) limit ≡ (nat_le a limit && nat_le b limit)
both-within a b limit = go (dec_le a limit) (dec_le b limit)
  where
    go : Dec (a ≤ limit) → Dec (b ≤ limit) → nat_le (max a b) limit ≡ (nat_le a limit && nat_le b limit)
    go (yes h) (yes l) = rw (le-leb a limit h, le-leb b limit l) (le-leb (max a b) limit (omega arith))
    go (yes h) (no l) = rw (le-leb a limit h, lt-leb b limit (omega arith)) (lt-leb (max a b) limit (omega arith))
    go (no h) l = rw (lt-leb a limit (omega arith)) (lt-leb (max a b) limit (omega arith))

-- as a test tells that an entry passes whose raised word is within the limit
pub top-every : (more limit : ℕ) (p : ℕ → Bool) → Tells more limit p → (t : List ℕ)
    → ((i : ℕ) → slice_index t i < 65536) →
    nat_le (top_of more t) limit ≡ every p t
unfolding top_of
top-every more limit p exact [] words = le-leb 0 limit (omega arith)
top-every more limit p exact (x ∷ t) words =
    rw (
      both-within (raised more x) (top_of more t) limit,
      exact x (words zero),
      top-every more limit p exact t (λ i. words (suc i)),
    )

-- ---- the tests

pub name-within : (count : ℕ) → Tells 1 count (name_ok count)
name-within count x w = go (dec_lt x ABSENT) (dec_lt x count)
  where
    go : Dec (x < ABSENT) → Dec (x < count) → nat_le (raised 1 x) count ≡ name_ok count x
    go (yes l) (yes h) = rw (lt-ltb x count h) (le-leb (raised 1 x) count (omega arith))
    go (yes l) (no h) = rw (
      le-ltb x count (omega arith),
      ne_eqb x ABSENT (λ e. omega arith),
    ) (lt-leb (raised 1 x) count (omega arith))
    go (no l) (yes h) = rw (lt-ltb x count h) (le-leb (raised 1 x) count (omega arith))
    go (no l) (no h) = rw (
      le-ltb x count (omega arith),
      eq-eqb x ABSENT (omega arith),
    ) (le-leb (raised 1 x) count (omega arith))

pub number-within : Tells 0 MAX-NUMBER number_ok
number-within x w = let e : raised 0 x ≡ x = omega arith in rw e

pub dist_within : Tells 1 2049 dist_ok
dist_within x w = go (dec_le x MAX-NUMBER) (dec_lt x ABSENT)
  where
    go : Dec (x ≤ MAX-NUMBER) → Dec (x < ABSENT) → nat_le (raised 1 x) 2049 ≡ dist_ok x
    go (yes h) l = rw (le-leb x MAX-NUMBER h) (le-leb (raised 1 x) 2049 (omega arith))
    go (no h) (yes l) =
        rw (
          lt-leb x MAX-NUMBER (omega arith),
          ne_eqb x ABSENT (λ e. omega arith),
        ) (lt-leb (raised 1 x) 2049 (omega arith))
    go (no h) (no l) =
        rw (lt-leb x MAX-NUMBER (omega arith), eq-eqb x ABSENT (omega arith)) (le-leb (raised 1 x) 2049 (omega arith))

pub level-within : Tells 127 127 (λ (w : ℕ). in_range (word_level w))
unfolding in_range
level-within x w = go (dec_lt x 32768) (dec_le x 0) (dec_lt x 65409)
  where
    go : Dec (x < 32768) → Dec (x ≤ 0) → Dec (x < 65409) → nat_le (raised 127 x) 127 ≡ in_range (word_level x)
    go (yes l) (yes z) m = rw (signed-few 65536 x l, le-leb x 0 z) (le-leb (raised 127 x) 127 (omega arith))
    go (yes l) (no z) m = rw (signed-few 65536 x l, lt-leb x 0 (omega arith)) (lt-leb (raised 127 x) 127 (omega arith))
    go (no l) z (yes m) =
        rw (
          signed-many 65536 x (omega arith),
          lt-leb (65535 - x) 126 (omega arith),
        ) (lt-leb (raised 127 x) 127 (omega arith))
    go (no l) z (no m) =
        rw (
          signed-many 65536 x (omega arith),
          le-leb (65535 - x) 126 (omega arith),
        ) (le-leb (raised 127 x) 127 (omega arith))

pub below-within : (count : ℕ) → (count ≢ 0) → Tells 0 (count - 1) (λ (x : ℕ). ltb x count)
below-within count some x w = go (dec_lt x count)
  where
    go : Dec (x < count) → nat_le (raised 0 x) (count - 1) ≡ nat_lt x count
    go (yes h) = rw (lt-ltb x count h) (le-leb (raised 0 x) (count - 1) (omega arith))
    go (no h) = rw (le-ltb x count (omega arith)) (lt-leb (raised 0 x) (count - 1) (omega arith))

-- of none there is no entry
pub below_none : (t : List ℕ) → (length t == 0) ≡ every (λ (x : ℕ). ltb x 0) t
below_none [] = refl
below_none (x ∷ t) = rw (le-ltb x 0 (omega arith), ne_eqb (suc (length t)) 0 (λ e. omega arith)) refl
