-- The listing has every site once, and the site at each place by arithmetic.
use Rattle.std.specs.Prelude.{◌≡◌, refl, true, ◌↔◌, List, ◌++◌, ℕ, zero, suc, ◌+◌, ◌-◌, ◌≤◌, ◌<◌}
use Rattle.std.specs.Prelude.{length, get_or}
use Rattle.std.proofs.Common.{sym, ap, ap₂, subst, ◌∙◌, inl, inr, arith, length-append, get_or-append-add}
use Rattle.std.proofs.Math.Decide.{dec_lt, ℕ_discrete}
use Rattle.std.proofs.Math.ListN.{get_or-append, get_or-eq_default}
use Rattle.small_tables.specs.Small.{pairs_of, chosen}
use Rattle.small_tables.specs.EachOnce.{Listed, tables}
use Rattle.small_tables.specs.EachOnceProof.{each-once}
use Rattle.small_tables.specs.Listing.{Site, numbered, sites_from, listing, SITES, site_at, links_of, Before}
use Rattle.small_tables.specs.Listing.{AllListed}

-- ---- the sites of one unit count

length-numbered : (n first k : ℕ) → length (numbered n first k) ≡ k
unfolding numbered
length-numbered n first zero = refl
length-numbered n first (suc k) = ap suc (length-numbered n (suc first) k)

numbered-at : (n first k i : ℕ) (d : Site) → i < k → get_or (numbered n first k) i d ≡ (n, first + i)
unfolding numbered
numbered-at n first zero i d l = absurd (omega arith)
numbered-at n first (suc k) zero d l = ap (λ (x : ℕ). (n, x)) (omega arith)
numbered-at n first (suc k) (suc i) d l =
    numbered-at n (suc first) k i d (omega arith) ∙ ap (λ (x : ℕ). (n, x)) (omega arith)

-- at the front, and past it
front : (n k i : ℕ) (rest : List Site) (d : Site) → i < k → get_or (numbered n 0 k ++ rest) i d ≡ (n, i)
front n k i rest d l =
    get_or-append (numbered n 0 k) rest d i (omega (arith, length-numbered n 0 k))
    ∙ (numbered-at n 0 k i d l ∙ ap (λ (x : ℕ). (n, x)) (omega arith))

past : (n k i : ℕ) (rest : List Site) (d : Site) → k ≤ i → get_or (numbered n 0 k ++ rest) i d ≡ get_or rest (i - k) d
past n k i rest d l =
    let e : i ≡ length (numbered n 0 k) + (i - k) = omega (arith, length-numbered n 0 k) in
    ap (λ (x : ℕ). get_or (numbered n 0 k ++ rest) x d) e ∙ get_or-append-add (numbered n 0 k) rest (i - k) d

-- ---- the sites of k unit counts

length_sites : (n k : ℕ) → length (sites_from n (suc k)) ≡ tables n + length (sites_from (suc n) k)
unfolding sites_from
length_sites n k =
    length-append (numbered n 0 (tables n)) (sites_from (suc n) k)
    ∙ ap (λ (x : ℕ). x + length (sites_from (suc n) k)) (length-numbered n 0 (tables n))

site-first : (n k i : ℕ) (d : Site) → i < tables n → get_or (sites_from n (suc k)) i d ≡ (n, i)
unfolding sites_from
site-first n k i d l = front n (tables n) i (sites_from (suc n) k) d l

site-later : (n k i : ℕ) (d : Site) → tables n ≤ i →
    get_or (sites_from n (suc k)) i d ≡ get_or (sites_from (suc n) k) (i - tables n) d
unfolding sites_from
site-later n k i d l = past n (tables n) i (sites_from (suc n) k) d l

no_site : (n i : ℕ) → i < length (sites_from n zero) → ⊥
unfolding sites_from
no_site n i l = omega arith

sites_only : (n k i : ℕ) (d : Site) → i < length (sites_from n k)
    → (n ≤ (get_or (sites_from n k) i d).0) × ((get_or (sites_from n k) i d).0 < n + k)
    × ((get_or (sites_from n k) i d).1 < tables (get_or (sites_from n k) i d).0)
sites_only n zero i d l = absurd (no_site n i l)
sites_only n (suc k) i d l = go (dec_lt i (tables n)) (sites_only (suc n) k (i - tables n) d)
  where
    Fits : Site → Type 0
    Fits s = (n ≤ s.0) × (s.0 < n + suc k) × (s.1 < tables s.0)

    go : Dec (i < tables n)
        → (i - tables n < length (sites_from (suc n) k)
        → (suc n ≤ (get_or (sites_from (suc n) k) (i - tables n) d).0)
        × ((get_or (sites_from (suc n) k) (i - tables n) d).0 < suc n + k)
        × ((get_or (sites_from (suc n) k) (i - tables n) d).1
        < tables (get_or (sites_from (suc n) k) (i - tables n) d).0))
        → Fits (get_or (sites_from n (suc k)) i d)
    go (yes m) ih = subst Fits (sym (site-first n k i d m)) (omega arith, omega arith, m)
    go (no m) ih =
        let r = ih (omega (arith, length_sites n k)) in
        subst Fits (sym (site-later n k i d (omega arith))) (omega (arith, r.0), omega (arith, r.1), r.2)

sites_ascend : (n k i j : ℕ) (d : Site) → i < j → j < length (sites_from n k) →
    Before (get_or (sites_from n k) i d) (get_or (sites_from n k) j d)
sites_ascend n zero i j d h l = absurd (no_site n j l)
sites_ascend n (suc k) i j d h l =
    go (dec_lt i (tables n)) (dec_lt j (tables n)) (sites_ascend (suc n) k (i - tables n) (j - tables n) d)
    (sites_only (suc n) k (j - tables n) d)
  where
    go : Dec (i < tables n) → Dec (j < tables n)
        → (i - tables n < j - tables n → j - tables n < length (sites_from (suc n) k)
        → Before (get_or (sites_from (suc n) k) (i - tables n) d) (get_or (sites_from (suc n) k) (j - tables n) d))
        → (j - tables n < length (sites_from (suc n) k)
        → (suc n ≤ (get_or (sites_from (suc n) k) (j - tables n) d).0)
        × ((get_or (sites_from (suc n) k) (j - tables n) d).0 < suc n + k)
        × ((get_or (sites_from (suc n) k) (j - tables n) d).1
        < tables (get_or (sites_from (suc n) k) (j - tables n) d).0))
        → Before (get_or (sites_from n (suc k)) i d) (get_or (sites_from n (suc k)) j d)
    go (yes a) (yes b) ih more = rw (site-first n k i d a, site-first n k j d b) (inr (refl, h))
    go (yes a) (no b) ih more =
        let r = more (omega (arith, length_sites n k)) in
        rw (site-first n k i d a, site-later n k j d (omega arith)) (inl (omega (arith, r.0)))
    go (no a) (yes b) ih more = absurd (omega arith)
    go (no a) (no b) ih more =
        rw (site-later n k i d (omega arith), site-later n k j d (omega arith))
        (ih (omega arith) (omega (arith, length_sites n k)))

sites_every : (n k m l : ℕ) (d : Site) → n ≤ m → m < n + k → l < tables m
    → (i : ℕ) × (i < length (sites_from n k)) × (get_or (sites_from n k) i d ≡ (m, l))
sites_every n zero m l d a b h = absurd (omega arith)
sites_every n (suc k) m l d a b h = go (ℕ_discrete m n) (λ q. sites_every (suc n) k m l d q (omega arith) h)
  where
    go : Dec (m ≡ n)
        → (suc n ≤ m → (i : ℕ) × (i < length (sites_from (suc n) k)) × (get_or (sites_from (suc n) k) i d ≡ (m, l)))
        → (i : ℕ) × (i < length (sites_from n (suc k))) × (get_or (sites_from n (suc k)) i d ≡ (m, l))
    go (yes e) ih =
        let below : l < tables n = subst (λ (x : ℕ). l < tables x) e h in (
          l,
          omega (arith, length_sites n k, below),
          site-first n k l d below ∙ ap (λ (x : ℕ). (x, l)) (sym e),
        )
    go (no e) ih =
        let r = ih (omega arith) in
        let i = tables n + r.0 in
        let back : i - tables n ≡ r.0 = omega arith in (
          i,
          omega (arith, length_sites n k, r.1),
          site-later n k i d (omega arith) ∙ (ap (λ (x : ℕ). get_or (sites_from (suc n) k) x d) back ∙ r.2),
        )

-- ---- all of them

listing-count : length listing ≡ SITES
unfolding listing sites_from
listing-count =
    length_sites 1 4 ∙ omega (arith, length_sites 2 3, length_sites 3 2, length_sites 4 1, length_sites 5 0)

listing-ascend : (i j : ℕ) → i < j → j < SITES → Before (site_at i) (site_at j)
unfolding listing
listing-ascend i j h l = sites_ascend 1 5 i j (0, 0) h (omega (arith, listing-count, l))

listing-only : (i : ℕ) → i < SITES → (1 ≤ (site_at i).0) × ((site_at i).0 ≤ 5) × ((site_at i).1 < tables (site_at i).0)
unfolding listing
listing-only i l =
    let r = sites_only 1 5 i (0, 0) (omega (arith, listing-count, l)) in (r.0, omega (arith, r.1), r.2)

listing-every : (n k : ℕ) → 1 ≤ n → n ≤ 5 → k < tables n → (i : ℕ) × (i < SITES) × (site_at i ≡ (n, k))
unfolding listing
listing-every n k lo hi l =
    let r = sites_every 1 5 n k (0, 0) lo (omega arith) l in (r.0, omega (arith, listing-count, r.1), r.2)

-- sites of as many units with the same links are one
same-site : (s t : Site) → s.0 ≡ t.0 → s.1 < tables s.0 → t.1 < tables t.0
    → ((a b : ℕ) → a < b → b < s.0 → Listed a b (links_of s) ↔ Listed a b (links_of t)) → s ≡ t
same-site (n, k) (m, l) e hk hl same =
    let below : l < tables n = subst (λ (x : ℕ). l < tables x) (sym e) hl in
    let q : k ≡ l =
    (each-once n).once k l hk below
    (subst (λ (x : ℕ). (a b : ℕ) → a < b → b < n →
    Listed a b (chosen (pairs_of n) k) ↔ Listed a b (chosen (pairs_of x) l)) (sym e) same) in
    ap₂ (λ (x y : ℕ). (x, y)) e q

-- two places of which neither comes before the other are one
apart : (i j : ℕ) → i < SITES → j < SITES → site_at i ≡ site_at j → i ≡ j
apart i j a b e = go (dec_lt i j) (dec_lt j i)
  where
    never : (s t : Site) → s ≡ t → Before s t → ⊥
    never s t q (inl h) = let u : s.0 ≡ t.0 = ap (λ (x : Site). x.0) q in omega (arith, h, u)
    never s t q (inr h) = let u : s.1 ≡ t.1 = ap (λ (x : Site). x.1) q in omega (arith, h.1, u)

    ordered : (x y : ℕ) → x < y → y < SITES → Before (site_at x) (site_at y)
    ordered x y h l = listing-ascend x y h l

    go : Dec (i < j) → Dec (j < i) → i ≡ j
    go (yes h) d = absurd (never (site_at i) (site_at j) e (ordered i j h b))
    go (no h) (yes k) = absurd (never (site_at j) (site_at i) (sym e) (ordered j i k a))
    go (no h) (no k) = omega arith

pub all_listed : AllListed
all_listed =
    record {
      count = listing-count;
      ascend = listing-ascend;
      only = listing-only;
      every = listing-every;
      each =
          λ n lo hi set.
          let r = (each-once n).each set in
          let p = listing-every n r.0 lo hi r.1 in (
            p.0,
            p.1,
            ap (λ (s : Site). s.0) p.2,
            λ a b l h. subst (λ (s : Site). Listed a b (links_of s) ↔ (set a b ≡ true)) (sym p.2) (r.2 a b l h),
          );
      once =
          λ i j a b e same.
          apart i j a b (same-site (site_at i) (site_at j) e (listing-only i a).2 (listing-only j b).2 same);
    }

-- ---- the site at a place: the unit counts start at the places 0, 1, 3, 11 and 75

-- past the sites of n units
skip : (n k i j : ℕ) → tables n + j ≡ i → get_or (sites_from n (suc k)) i (0, 0)
    ≡ get_or (sites_from (suc n) k) j (0, 0)
skip n k i j e =
    let q : i - tables n ≡ j = omega arith in
    site-later n k i (0, 0) (omega arith) ∙ ap (λ (x : ℕ). get_or (sites_from (suc n) k) x (0, 0)) q

from_2 : (j : ℕ) → site_at (j + 1) ≡ get_or (sites_from 2 4) j (0, 0)
unfolding listing
from_2 j = skip 1 4 (j + 1) j (omega arith)

from_3 : (j : ℕ) → site_at (j + 3) ≡ get_or (sites_from 3 3) j (0, 0)
from_3 j =
    let e : j + 3 ≡ j + 2 + 1 = omega arith in
    ap site_at e ∙ (from_2 (j + 2) ∙ skip 2 3 (j + 2) j (omega arith))

from_4 : (j : ℕ) → site_at (j + 11) ≡ get_or (sites_from 4 2) j (0, 0)
from_4 j =
    let e : j + 11 ≡ j + 8 + 3 = omega arith in
    ap site_at e ∙ (from_3 (j + 8) ∙ skip 3 2 (j + 8) j (omega arith))

from_5 : (j : ℕ) → site_at (j + 75) ≡ get_or (sites_from 5 1) j (0, 0)
from_5 j =
    let e : j + 75 ≡ j + 64 + 11 = omega arith in
    ap site_at e ∙ (from_4 (j + 64) ∙ skip 4 1 (j + 64) j (omega arith))

pub place_1 : (i : ℕ) → i < 1 → (1, i) ≡ site_at i
unfolding listing
place_1 i l = sym (site-first 1 4 i (0, 0) (omega arith))

-- one law for the others: first is the first place of n units
placed : (n k first i : ℕ) → first ≤ i → i - first < tables n
    → ((j : ℕ) → site_at (j + first) ≡ get_or (sites_from n (suc k)) j (0, 0)) → (n, i - first) ≡ site_at i
placed n k first i a l from =
    let e : i - first + first ≡ i = omega arith in
    sym (site-first n k (i - first) (0, 0) l) ∙ (sym (from (i - first)) ∙ ap site_at e)

pub place_2 : (i : ℕ) → 1 ≤ i → i < 3 → (2, i - 1) ≡ site_at i
place_2 i a l = placed 2 3 1 i a (omega arith) from_2

pub place_3 : (i : ℕ) → 3 ≤ i → i < 11 → (3, i - 3) ≡ site_at i
place_3 i a l = placed 3 2 3 i a (omega arith) from_3

pub place_4 : (i : ℕ) → 11 ≤ i → i < 75 → (4, i - 11) ≡ site_at i
place_4 i a l = placed 4 1 11 i a (omega arith) from_4

pub place_5 : (i : ℕ) → 75 ≤ i → i < SITES → (5, i - 75) ≡ site_at i
place_5 i a l = placed 5 0 75 i a (omega arith) from_5

-- none past the last
pub no_place : (i : ℕ) → SITES ≤ i → (0, 0) ≡ site_at i
no_place i l = sym (get_or-eq_default listing (0, 0) {n = i} (omega (arith, listing-count)))
