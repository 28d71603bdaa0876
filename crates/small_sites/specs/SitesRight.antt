-- T-13 in one statement: what the program prints is a line for each site of the listing, and the bits of each line are
-- the single points of its links.
use Rattle.std.specs.Prelude.{◌≡◌, ◌↔◌, ℕ, ◌*◌, ◌/◌, ◌%◌, ◌^◌, ◌<◌, length, take, drop}
use Rattle.table.specs.Table.{link_count}
use Rattle.file_frames.specs.Frame.{line_of}
use Rattle.theory_graph.specs.Rings.{Articulation}
use Rattle.theory_reach.specs.Site.{Link}
use Rattle.spec_machine.specs.Load.{links_in, stored_load_refusal}
use Rattle.small_tables.specs.Small.{small_body}
use Rattle.small_tables.specs.Listing.{SITES, site_at, AllListed}
use Rattle.small_sites.specs.Sites.{input_of, printed, PRINTED}

-- the line at place i
pub record LineRight (i : ℕ) : Type 0 where
  pub mask : ℕ
  -- it stands at its place
  pub line : take 15 (drop (15 * i) printed) ≡ line_of (small_body (site_at i).0 (site_at i).1 mask)
  -- the table is opened as a stored one
  pub accepted : stored_load_refusal (input_of (site_at i)) ≡ 0
  -- bit v is set exactly where unit v of the site is a single point
  pub bits : (v : ℕ) → v < 5
      → (mask / 2 ^ v % 2 ≡ 1)
      ↔ ((v < (site_at i).0) × Articulation (Link (links_in (input_of (site_at i))) (input_of (site_at i)).words) v)

pub record SitesRight : Type 0 where
  pub listed : AllListed
  pub long : length printed ≡ PRINTED
  pub lines : (i : ℕ) → i < SITES → LineRight i
