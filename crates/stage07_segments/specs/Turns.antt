-- A unit's turn in a later round, from what the code reads: little and big, and whether each is odd, by a mask.
use Rattle.std.specs.Prelude.{◌≡◌, refl, Bool, true, not, cond, List, ℕ, suc, ◌+◌, ◌*◌, ◌-◌, ◌^◌, ◌≤◌, ◌<◌, min, eqb}
use Rattle.std.specs.Prelude.{ltb}
use Rattle.std.proofs.Math.Decide.{dec_lt}
use Rattle.std.proofs.Common.{arith, lt-ltb, le-ltb, le-leb}
use Rattle.std.specs.Int.Bits.{bit_and}
use Rattle.std.proofs.lemmas.Nat.{and_mask}
use Rattle.std.proofs.lemmas.Bool.{lt-leb}
use Rattle.spec_rules.specs.Basics.{ABSENT, at}
use Rattle.spec_rules.specs.Range.{segment}
use Rattle.spec_rules.specs.MoveLaws.{odd_by, little_by, big_by, range_by, segment_before_by}

-- the test of a multiple by a mask
pub odd-by : (i span mask : ℕ) → span ≡ 2 ^ i → mask ≡ 2 * span - 1 → (x : ℕ) →
    not (eqb (bit_and x mask) 0) ≡ odd_by (2 * span) x
odd-by i span mask length ones x =
    let twice : 2 * span ≡ 2 ^ suc i = omega arith in
    let full : mask ≡ 2 ^ suc i - 1 = omega arith in
    rw (full, twice, and_mask x (suc i))

-- what x becomes with the segment at `from` and the one before `to`, where these move
abbrev pub taken : (ℕ → ℕ → ℕ) → Bool → Bool → ℕ → ℕ → List ℕ → ℕ → ℕ → ℕ → ℕ
taken op left right span n global from to x =
    cond right (op (cond left (op x (segment n global from)) x) (segment_before_by span n global to))
    (cond left (op x (segment n global from)) x)

-- the segment before `to` by its place
pub before-taken : (op : ℕ → ℕ → ℕ) (left right : Bool) (span n : ℕ) (global : List ℕ) (from to x y back z : ℕ) →
    n ≤ 256 → y ≡ cond left (op x (segment n global from)) x
    → back ≡ cond (ltb to span) ABSENT (to - span) → z ≡ cond right (op y (segment n global back)) y →
    z ≡ taken op left right span n global from to x
before-taken op left right span n global from to x y back z few is_y is-back is-z =
    rw (is-z, same (dec_lt to span), is_y) refl
  where
    same : Dec (to < span) → segment n global back ≡ segment_before_by span n global to
    same (yes l) = rw (is-back, lt-ltb to span l, lt-leb span to l, le-ltb ABSENT n (omega (arith, few))) refl
    same (no l) = rw (is-back, le-ltb to span (omega (arith, l)), le-leb span to (omega (arith, l))) refl

module _ (span period n : ℕ) (little big : List ℕ) (v : ℕ) where
  -- little is not before big: nothing changes
  module _ (met : at big v ≤ at little v) where
    pub range-stays : (op : ℕ → ℕ → ℕ) (global range : List ℕ) →
        range_by op span period n global little big range v ≡ at range v
    range-stays op global range = rw (le-ltb (at little v) (at big v) met)

    pub little-stays : little_by span period little big v ≡ at little v
    little-stays = rw (le-ltb (at little v) (at big v) met)

    pub big-stays : big_by span period little big v ≡ at big v
    big-stays = rw (le-ltb (at little v) (at big v) met)

  -- else each moves where it is odd
  module _ (from to : ℕ) (is-from : from ≡ at little v) (is-to : to ≡ at big v) (apart : from < to) where
    before : ltb (at little v) (at big v) ≡ true
    before = lt-ltb (at little v) (at big v) (rw (is-from, is-to) at apart)

    pub range-moves : (op : ℕ → ℕ → ℕ) (global range : List ℕ) (left right : Bool) (x z : ℕ)
        → left ≡ odd_by period from → right ≡ odd_by period to → x ≡ at range v →
        z ≡ taken op left right span n global from to x
        → z ≡ range_by op span period n global little big range v
    range-moves op global range left right x z odd-little odd-big is_x is-z =
        rw (is-z, odd-little, odd-big, is_x, is-from, is-to, before)

    pub little-moves : (left : Bool) (z : ℕ) → left ≡ odd_by period from → z ≡ cond left (min (from + span) 2048) from
        → z ≡ little_by span period little big v
    little-moves left z odd-little is-z = rw (is-z, odd-little, is-from, before)

    pub big-moves : (right : Bool) (z : ℕ) → right ≡ odd_by period to → z ≡ cond right (to - span) to →
        z ≡ big_by span period little big v
    big-moves right z odd-big is-z = rw (is-z, odd-big, is-to, before)
