-- Stage 7, least and greatest (low and high) over all descendants, by segments whose length doubles. One text serves
-- both: `op` is min or max.
use Rattle.std.specs.Prelude.{Bool, not, ◌&&◌, cond, List, ℕ, suc, ◌+◌, ◌-◌, ◌%◌, ◌^◌, eqb, ltb, leb}
use Rattle.base_lists.specs.Tables.{over}
use Rattle.base_lists.specs.Folds.{fold, least}
use Rattle.table.specs.Table.{end_a, end_b}
use Rattle.base_log2.specs.Lg.{lg}
use Rattle.spec_rules.specs.Basics.{ABSENT, at, bounded, off_tree, heard}

-- ---- local values

-- what link j gives unit v: the other end's place if the link is off the tree, else its own place
abbrev pub place_heard : List ℕ → List ℕ → List ℕ → ℕ → ℕ → ℕ
place_heard ends parent pre v j =
    cond (off_tree parent (end_a ends j) (end_b ends j)) (heard pre (end_a ends j) (end_b ends j) v) (at pre v)

-- the least (greatest) of v's own place and of the places joined to it by links off the tree
unfoldable pub local_of : (ℕ → ℕ → ℕ) → ℕ → List ℕ → List ℕ → List ℕ → ℕ → ℕ
local_of op m ends parent pre v = fold op m (place_heard ends parent pre v) (at pre v)

-- the unit at place q, absent where there is none
unfoldable pub unit_at : ℕ → List ℕ → ℕ → ℕ
unit_at n pre q = least n (λ (v : ℕ). cond (eqb (at pre v) q) v ABSENT) ABSENT

-- the local value of place q; a place without a unit has 0
unfoldable pub local_at : (ℕ → ℕ → ℕ) → ℕ → ℕ → List ℕ → List ℕ → List ℕ → ℕ → ℕ
local_at op n m ends parent pre q =
    cond (eqb (unit_at n pre q) ABSENT) 0 (local_of op m ends parent pre (unit_at n pre q))

-- ---- the first round

-- one past the place of v's last descendant
abbrev pub end_place : List ℕ → List ℕ → ℕ → ℕ
end_place nd pre v = at pre v + at nd v

-- the local values of each place begin the segments
unfoldable pub global_first : (ℕ → ℕ → ℕ) → ℕ → ℕ → List ℕ → List ℕ → List ℕ → List ℕ → List ℕ
global_first op n m ends parent pre global = over n (local_at op n m ends parent pre) global

-- the values that a unit begins with: the local ones at its last descendant's place, 0 where that is no place
abbrev pub range_begin : (ℕ → ℕ → ℕ) → ℕ → ℕ → List ℕ → List ℕ → List ℕ → List ℕ → ℕ → ℕ
range_begin op n m ends parent nd pre v =
    cond (leb 1 (end_place nd pre v) && leb (end_place nd pre v) n)
    (local_at op n m ends parent pre (end_place nd pre v - 1)) 0

unfoldable pub range_first : (ℕ → ℕ → ℕ) → ℕ → ℕ → List ℕ → List ℕ → List ℕ → List ℕ → List ℕ → List ℕ
range_first op n m ends parent nd pre range = over n (range_begin op n m ends parent nd pre) range

-- with little at its own place
unfoldable pub little_first : ℕ → List ℕ → List ℕ → List ℕ
little_first n pre little = over n (at pre) little

-- and big at that last one
abbrev pub big_begin : List ℕ → List ℕ → ℕ → ℕ
big_begin nd pre v = bounded (end_place nd pre v - 1)

unfoldable pub big_first : ℕ → List ℕ → List ℕ → List ℕ → List ℕ
big_first n nd pre big = over n (big_begin nd pre) big

-- ---- round i, from 0: segments of 2 ^ i places

-- x is no multiple of 2 ^ (i + 1)
abbrev pub odd : ℕ → ℕ → Bool
odd i x = not (eqb (x % 2 ^ suc i) 0)

-- v moves little, or big; both go by what the round before left
abbrev pub moves_little : ℕ → List ℕ → List ℕ → ℕ → Bool
moves_little i little big v = ltb (at little v) (at big v) && odd i (at little v)

abbrev pub moves_big : ℕ → List ℕ → List ℕ → ℕ → Bool
moves_big i little big v = ltb (at little v) (at big v) && odd i (at big v)

-- the segment that begins at place q, 0 where that is no place
abbrev pub segment : ℕ → List ℕ → ℕ → ℕ
segment n global q = cond (ltb q n) (at global q) 0

-- the segment that ends before place q
abbrev pub segment_before : ℕ → ℕ → List ℕ → ℕ → ℕ
segment_before i n global q = cond (leb (2 ^ i) q) (segment n global (q - 2 ^ i)) 0

-- what v takes in at little, and then at big
unfoldable pub with_little : (ℕ → ℕ → ℕ) → ℕ → ℕ → List ℕ → List ℕ → List ℕ → ℕ → ℕ → ℕ
with_little op i n global little big v x = cond (moves_little i little big v) (op x (segment n global (at little v))) x

unfoldable pub with_big : (ℕ → ℕ → ℕ) → ℕ → ℕ → List ℕ → List ℕ → List ℕ → ℕ → ℕ → ℕ
with_big op i n global little big v x = cond (moves_big i little big v) (op x (segment_before i n global (at big v))) x

unfoldable pub range_later : (ℕ → ℕ → ℕ) → ℕ → ℕ → List ℕ → List ℕ → List ℕ → List ℕ → List ℕ
range_later op i n global little big range =
    over n (λ (v : ℕ). with_big op i n global little big v (with_little op i n global little big v (at range v))) range

unfoldable pub little_later : ℕ → ℕ → List ℕ → List ℕ → List ℕ
little_later i n big little =
    over n (λ (v : ℕ). cond (moves_little i little big v) (bounded (at little v + 2 ^ i)) (at little v)) little

unfoldable pub big_later : ℕ → ℕ → List ℕ → List ℕ → List ℕ
big_later i n little big = over n (λ (v : ℕ). cond (moves_big i little big v) (at big v - 2 ^ i) (at big v)) big

-- the segment at each multiple of 2 ^ (i + 1) takes in the one 2 ^ i places on, if that place exists
unfoldable pub global_later : (ℕ → ℕ → ℕ) → ℕ → ℕ → List ℕ → List ℕ
global_later op i n global =
    over n (λ (q : ℕ). cond (not (odd i q) && ltb (q + 2 ^ i) n) (op (at global q) (at global (q + 2 ^ i)))
    (at global q)) global

-- all lg(n) rounds are made after the first
unfoldable pub range_ends : ℕ → ℕ → Bool
range_ends n made = eqb made (lg n)
