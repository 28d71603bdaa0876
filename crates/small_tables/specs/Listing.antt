-- T-13: the listing. Unit counts ascend from 1 to 5, and the sites of each follow their number from 0; `AllListed`, at
-- the end, says that these are all sites, each once. ListingLaws.antt proves it.
use Rattle.std.specs.Prelude.{◌≡◌, Bool, true, ◌⊎◌, ◌↔◌, List, [], ◌∷◌, ◌++◌, ℕ, zero, suc, ◌≤◌, ◌<◌, length, get_or}
use Rattle.small_tables.specs.Small.{pairs_of, chosen}
use Rattle.small_tables.specs.EachOnce.{Listed, tables}

-- a site: its unit count and its number
abbrev pub Site : Type 0
Site = ℕ × ℕ

-- k sites of n units, from a number on
unfoldable pub numbered : ℕ → ℕ → ℕ → List Site
numbered n first zero = []
numbered n first (suc k) = (n, first) ∷ numbered n (suc first) k

-- all sites of k unit counts, from n on
unfoldable pub sites_from : ℕ → ℕ → List Site
sites_from n zero = []
sites_from n (suc k) = numbered n 0 (tables n) ++ sites_from (suc n) k

-- those of 1 to 5 units
unfoldable pub listing : List Site
listing = sites_from 1 5

abbrev pub SITES : ℕ
SITES = 1099

-- the site at place i, counted from 0, and its links
abbrev pub site_at : ℕ → Site
site_at i = get_or listing i (0, 0)

abbrev pub links_of : Site → List (ℕ × ℕ)
links_of s = chosen (pairs_of s.0) s.1

-- s comes before t: it has fewer units, or as many and the lower number
abbrev pub Before : Site → Site → Type 0
Before s t = (s.0 < t.0) ⊎ ((s.0 ≡ t.0) × (s.1 < t.1))

pub record AllListed : Type 0 where
  pub count : length listing ≡ SITES
  pub ascend : (i j : ℕ) → i < j → j < SITES → Before (site_at i) (site_at j)
  -- only sites of 1 to 5 units stand there, with numbers of theirs,
  pub only : (i : ℕ) → i < SITES → (1 ≤ (site_at i).0) × ((site_at i).0 ≤ 5) × ((site_at i).1 < tables (site_at i).0)
  -- and every number from 0 does
  pub every : (n k : ℕ) → 1 ≤ n → n ≤ 5 → k < tables n → (i : ℕ) × (i < SITES) × (site_at i ≡ (n, k))
  -- each set of links among 1 to 5 units has a place,
  pub each : (n : ℕ) → 1 ≤ n → n ≤ 5 → (set : ℕ → ℕ → Bool)
      → (i : ℕ) × (i < SITES) × ((site_at i).0 ≡ n)
      × ((a b : ℕ) → a < b → b < n → Listed a b (links_of (site_at i)) ↔ (set a b ≡ true))
  -- and only one
  pub once : (i j : ℕ) → i < SITES → j < SITES → (site_at i).0 ≡ (site_at j).0
      → ((a b : ℕ) → a < b → b < (site_at i).0 → Listed a b (links_of (site_at i)) ↔ Listed a b (links_of (site_at j)))
      → i ≡ j
