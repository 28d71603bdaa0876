-- T-13: the line of each small site, over the end of its survey, and all that the program prints.
use Rattle.std.specs.Prelude.{Bool, false, ◌&&◌, List, ℕ, ltb, pos, replicate}
use Rattle.base_lists.specs.Tables.{tab}
use Rattle.base_lists.specs.Gathered.{gathered}
use Rattle.table.specs.Table.{link_count}
use Rattle.file_frames.specs.Frame.{line_of}
use Rattle.spec_state.specs.declared.reply.Reply.{Reply}
use Rattle.spec_state.specs.declared.reply.Reply.TheVariants.{Refused, Done, Made, Status, Unit, Link, Read, Written}
use Rattle.spec_machine.specs.State.{State}
use Rattle.spec_machine.specs.Load.{Input}
use Rattle.spec_machine.specs.Report.{unit_single}
use Rattle.report_program.specs.Printed.{surveyed}
use Rattle.small_tables.specs.Small.{table_of, mask_of, small_body}
use Rattle.small_tables.specs.Listing.{Site, SITES, site_at}

-- words as a table that is opened: every level is 0, since no single point depends on one
abbrev pub opened : ℕ → List ℕ → Input
opened n words = record { units = n; words = words; levels = replicate (link_count words) (pos 0) }

-- the table of a site
abbrev pub input_of : Site → Input
input_of s = opened s.0 (table_of s.0 s.1)

-- which of five units are single points at the end of the survey of n units
unfoldable pub singles_in : ℕ → State → List Bool
singles_in n e = tab 5 (λ (v : ℕ). ltb v n && unit_single e v)

-- the body of a site's line: its unit count, its number, and the bits of its single points
unfoldable pub body_of : Site → List ℕ
body_of s = small_body s.0 s.1 (mask_of (singles_in s.0 (surveyed (input_of s))))

-- the lines of the first k sites of the listing
unfoldable pub lines_to : ℕ → List ℕ
lines_to k = gathered k (λ (i : ℕ). line_of (body_of (site_at i)))

-- what the program prints: a line for each
abbrev pub printed : List ℕ
printed = lines_to SITES

-- its characters
abbrev pub PRINTED : ℕ
PRINTED = 16485

-- whether an answer about a unit calls it a single point
abbrev pub told_single : Reply → Bool
told_single (Refused k) = false
told_single Done = false
told_single (Made k) = false
told_single (Status stage countdown rounds requests) = false
told_single (Unit unit color parent place single) = single
told_single (Link position label lone) = false
told_single (Read units links) = false
told_single (Written k) = false
