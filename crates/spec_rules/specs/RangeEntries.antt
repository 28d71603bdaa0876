-- Stage 7, what each round leaves: the entries of its tables, read within their places.
use Rattle.std.specs.Prelude.{◌≡◌, refl, true, false, cond, ◌⊎◌, List, ℕ, suc, ◌+◌, ◌-◌, ◌%◌, ◌^◌, ◌≤◌, ◌<◌, eqb}
use Rattle.std.specs.Prelude.{length}
use Rattle.std.proofs.Common.{◌∙◌, inl, inr, arith, eqb-true, eq-eqb, ne_eqb, lt-ltb, le-ltb, le-leb}
use Rattle.std.proofs.lemmas.Bool.{eqb-false, not-true, not-false}
use Rattle.base_lists.specs.Folds.{least}
use Rattle.base_lists.specs.LeastLaws.{least_le, least-greatest}
use Rattle.base_lists.specs.Tables.{length_over, get_d_over}
use Rattle.base_lists.specs.Tests.{either, cond_true, cond_false}
use Rattle.spec_rules.specs.Basics.{ABSENT, MAX-NUMBER, at, bounded}
use Rattle.spec_rules.specs.Range.{local_of, unit_at, local_at, end_place, global_first, range_first, little_first}
use Rattle.spec_rules.specs.Range.{big_first, odd, moves_little, moves_big, with_little, with_big, range_later}
use Rattle.spec_rules.specs.Range.{little_later, big_later, global_later}

-- ---- the unit at a place

-- where places differ, the unit at v's place is v
pub unit-at : (n : ℕ) (pre : List ℕ) → n ≤ ABSENT → ((u v : ℕ) → u < n → v < n → at pre u ≡ at pre v → u ≡ v)
    → (v : ℕ) → v < n → unit_at n pre (at pre v) ≡ v
unfolding unit_at
unit-at n pre few differ v l = omega (arith, above, below)
  where
    said : ℕ → ℕ
    said u = cond (eqb (at pre u) (at pre v)) u ABSENT

    above : least n said ABSENT ≤ v
    above =
        let own : said v ≡ v = cond_true (eqb (at pre v) (at pre v)) v ABSENT (eq-eqb (at pre v) (at pre v) refl) in
        omega (arith, least_le n said ABSENT v l)

    other : (u : ℕ) → u < n → (eqb (at pre u) (at pre v) ≡ true) ⊎ (eqb (at pre u) (at pre v) ≡ false) → v ≤ said u
    other u k (inl e) =
        let same : u ≡ v = differ u v k l (eqb-true (at pre u) (at pre v) e) in
        let own : said u ≡ u = cond_true (eqb (at pre u) (at pre v)) u ABSENT e in omega arith
    other u k (inr e) = let far : said u ≡ ABSENT = cond_false (eqb (at pre u) (at pre v)) u ABSENT e in omega arith

    below : v ≤ least n said ABSENT
    below = least-greatest n said ABSENT v (omega arith)
        (λ (u : ℕ) (k : u < n). other u k (either (eqb (at pre u) (at pre v))))

-- so a unit's local value is that of its place
pub local-at : (op : ℕ → ℕ → ℕ) (n m : ℕ) (ends parent pre : List ℕ) (v : ℕ) → v < ABSENT → unit_at n pre (at pre v) ≡ v
    → local_at op n m ends parent pre (at pre v) ≡ local_of op m ends parent pre v
unfolding local_at
local-at op n m ends parent pre v l e = rw (e, ne_eqb v ABSENT (omega arith))

-- ---- the first round

pub global-first : (op : ℕ → ℕ → ℕ) (n m : ℕ) (ends parent pre global : List ℕ) (q : ℕ) → q < n → n ≤ length global
    → at (global_first op n m ends parent pre global) q ≡ local_at op n m ends parent pre q
unfolding global_first
global-first op n m ends parent pre global q l h =
    get_d_over n (local_at op n m ends parent pre) global q 0 l (omega arith)

pub range-first : (op : ℕ → ℕ → ℕ) (n m : ℕ) (ends parent nd pre range : List ℕ) (v : ℕ) → v < n → n ≤ length range
    → 1 ≤ at nd v → at pre v + at nd v ≤ n
    → at (range_first op n m ends parent nd pre range) v ≡ local_at op n m ends parent pre (at pre v + at nd v - 1)
unfolding range_first
range-first op n m ends parent nd pre range v l h a b =
    get_d_over n _ range v 0 l (omega arith)
    ∙ rw (le-leb 1 (end_place nd pre v) (omega arith), le-leb (end_place nd pre v) n b)

pub little-first : (n : ℕ) (pre little : List ℕ) (v : ℕ) → v < n → n ≤ length little →
    at (little_first n pre little) v ≡ at pre v
unfolding little_first
little-first n pre little v l h = get_d_over n (at pre) little v 0 l (omega arith)

pub big-first : (n : ℕ) (nd pre big : List ℕ) (v : ℕ) → v < n → n ≤ length big → n ≤ MAX-NUMBER → at pre v + at nd v ≤ n
    → at (big_first n nd pre big) v ≡ at pre v + at nd v - 1
unfolding big_first
big-first n nd pre big v l h few b = get_d_over n _ big v 0 l (omega arith) ∙ first
  where
    first : bounded (end_place nd pre v - 1) ≡ at pre v + at nd v - 1
    first = omega arith

-- ---- round i: what moves

pub even_multiple : (i x : ℕ) → odd i x ≡ false → x % 2 ^ suc i ≡ 0
even_multiple i x e = eqb-true (x % 2 ^ suc i) 0 (not-false (eqb (x % 2 ^ suc i) 0) e)

pub odd_remainder : (i x : ℕ) → odd i x ≡ true → x % 2 ^ suc i ≡ 0 → ⊥
odd_remainder i x e = eqb-false (x % 2 ^ suc i) 0 (not-true (eqb (x % 2 ^ suc i) 0) e)

remainder_even : (i x : ℕ) → x % 2 ^ suc i ≡ 0 → odd i x ≡ false
remainder_even i x e = rw (eq-eqb (x % 2 ^ suc i) 0 e)

-- where little has met big neither moves
pub little-rests : (i : ℕ) (little big : List ℕ) (v : ℕ) → at little v ≡ at big v → moves_little i little big v ≡ false
little-rests i little big v e = rw (le-ltb (at little v) (at big v) (omega arith))

pub big-rests : (i : ℕ) (little big : List ℕ) (v : ℕ) → at little v ≡ at big v → moves_big i little big v ≡ false
big-rests i little big v e = rw (le-ltb (at little v) (at big v) (omega arith))

-- before that each moves where it is odd
pub little-moves : (i : ℕ) (little big : List ℕ) (v : ℕ) → at little v < at big v →
    moves_little i little big v ≡ odd i (at little v)
little-moves i little big v l = rw (lt-ltb (at little v) (at big v) l)

pub big-moves : (i : ℕ) (little big : List ℕ) (v : ℕ) → at little v < at big v →
    moves_big i little big v ≡ odd i (at big v)
big-moves i little big v l = rw (lt-ltb (at little v) (at big v) l)

-- ---- round i: the tables

pub little-entry : (i n : ℕ) (big little : List ℕ) (v : ℕ) → v < n → n ≤ length little
    → at (little_later i n big little) v ≡ cond (moves_little i little big v) (bounded (at little v + 2 ^ i))
    (at little v)
unfolding little_later
little-entry i n big little v l h = get_d_over n _ little v 0 l (omega arith)

pub big-entry : (i n : ℕ) (little big : List ℕ) (v : ℕ) → v < n → n ≤ length big
    → at (big_later i n little big) v ≡ cond (moves_big i little big v) (at big v - 2 ^ i) (at big v)
unfolding big_later
big-entry i n little big v l h = get_d_over n _ big v 0 l (omega arith)

pub range-entry : (op : ℕ → ℕ → ℕ) (i n : ℕ) (global little big range : List ℕ) (v : ℕ) → v < n → n ≤ length range
    → at (range_later op i n global little big range) v
    ≡ with_big op i n global little big v (with_little op i n global little big v (at range v))
unfolding range_later
range-entry op i n global little big range v l h = get_d_over n _ range v 0 l (omega arith)

-- a segment is taken in at little, if that place exists
pub little-takes : (op : ℕ → ℕ → ℕ) (i n : ℕ) (global little big : List ℕ) (v x : ℕ) →
    moves_little i little big v ≡ true → at little v < n
    → with_little op i n global little big v x ≡ op x (at global (at little v))
unfolding with_little
little-takes op i n global little big v x e l = rw (e, lt-ltb (at little v) n l)

pub little-passes : (op : ℕ → ℕ → ℕ) (i n : ℕ) (global little big : List ℕ) (v x : ℕ) →
    moves_little i little big v ≡ false
    → with_little op i n global little big v x ≡ x
unfolding with_little
little-passes op i n global little big v x e = rw e

-- and the one that ends before big
pub big-takes : (op : ℕ → ℕ → ℕ) (i n : ℕ) (global little big : List ℕ) (v x : ℕ) → moves_big i little big v ≡ true
    → 2 ^ i ≤ at big v → at big v - 2 ^ i < n →
    with_big op i n global little big v x ≡ op x (at global (at big v - 2 ^ i))
unfolding with_big
big-takes op i n global little big v x e h l = rw (e, le-leb (2 ^ i) (at big v) h, lt-ltb (at big v - 2 ^ i) n l)

pub big-passes : (op : ℕ → ℕ → ℕ) (i n : ℕ) (global little big : List ℕ) (v x : ℕ) → moves_big i little big v ≡ false
    → with_big op i n global little big v x ≡ x
unfolding with_big
big-passes op i n global little big v x e = rw e

-- at a multiple of 2 ^ (i + 1): two segments become one, if the second exists
pub global_doubles : (op : ℕ → ℕ → ℕ) (i n : ℕ) (global : List ℕ) (q : ℕ) → q < n → n ≤ length global →
    q % 2 ^ suc i ≡ 0 → q + 2 ^ i < n
    → at (global_later op i n global) q ≡ op (at global q) (at global (q + 2 ^ i))
unfolding global_later
global_doubles op i n global q l h e k =
    get_d_over n _ global q 0 l (omega arith) ∙ rw (remainder_even i q e, lt-ltb (q + 2 ^ i) n k)

pub global-stays : (op : ℕ → ℕ → ℕ) (i n : ℕ) (global : List ℕ) (q : ℕ) → q < n → n ≤ length global →
    q % 2 ^ suc i ≡ 0 → n ≤ q + 2 ^ i
    → at (global_later op i n global) q ≡ at global q
unfolding global_later
global-stays op i n global q l h e k =
    get_d_over n _ global q 0 l (omega arith) ∙ rw (remainder_even i q e, le-ltb (q + 2 ^ i) n k)

-- ---- lengths

pub length-global_first : (op : ℕ → ℕ → ℕ) (n m : ℕ) (ends parent pre global : List ℕ)
    → length (global_first op n m ends parent pre global) ≡ length global
unfolding global_first
length-global_first op n m ends parent pre global = length_over n _ global

pub length-range_first : (op : ℕ → ℕ → ℕ) (n m : ℕ) (ends parent nd pre range : List ℕ)
    → length (range_first op n m ends parent nd pre range) ≡ length range
unfolding range_first
length-range_first op n m ends parent nd pre range = length_over n _ range

pub length-little_first : (n : ℕ) (pre little : List ℕ) → length (little_first n pre little) ≡ length little
unfolding little_first
length-little_first n pre little = length_over n _ little

pub length-big_first : (n : ℕ) (nd pre big : List ℕ) → length (big_first n nd pre big) ≡ length big
unfolding big_first
length-big_first n nd pre big = length_over n _ big

pub length-global_later : (op : ℕ → ℕ → ℕ) (i n : ℕ) (global : List ℕ) →
    length (global_later op i n global) ≡ length global
unfolding global_later
length-global_later op i n global = length_over n _ global

pub length-range_later : (op : ℕ → ℕ → ℕ) (i n : ℕ) (global little big range : List ℕ)
    → length (range_later op i n global little big range) ≡ length range
unfolding range_later
length-range_later op i n global little big range = length_over n _ range

pub length-little_later : (i n : ℕ) (big little : List ℕ) → length (little_later i n big little) ≡ length little
unfolding little_later
length-little_later i n big little = length_over n _ little

pub length-big_later : (i n : ℕ) (little big : List ℕ) → length (big_later i n little big) ≡ length big
unfolding big_later
length-big_later i n little big = length_over n _ big
