-- What a finished survey says of each unit and link, and its report: 11 all rounds, requests; 12 per unit; 13 per link;
-- 1F the numbers of single points and lone links.
use Rattle.std.specs.Prelude.{Bool, cond, ◌&&◌, List, ◌++◌, ℕ, zero, suc, ◌+◌, ◌*◌, leb, length, drop}
use Rattle.base_lists.specs.Folds.{count}
use Rattle.base_lists.specs.Gathered.{gathered}
use Rattle.file_frames.specs.Frame.{line_of}
use Rattle.file_frames.specs.Bodies.{head_body, unit_body, label_body, tail_body}
use Rattle.table.specs.Table.{max_units, max_links}
use Rattle.spec_rules.specs.Basics.{at}
use Rattle.spec_rules.specs.Labels.{lone, single}
use Rattle.spec_machine.specs.State.{State}
use Rattle.spec_machine.specs.State.{units, links}

-- the fields of a unit's line, beside its number
abbrev pub unit_color : State → ℕ → ℕ
unit_color s v = at s.components.color v

abbrev pub unit_parent : State → ℕ → ℕ
unit_parent s v = at s.tree.parent v

abbrev pub unit_place : State → ℕ → ℕ
unit_place s v = at s.order.pre v

abbrev pub unit_single : State → ℕ → Bool
unit_single s v = single (links s) s.table.ends s.labels.label v

-- the fields of a link's line, beside its position
abbrev pub link_label : State → ℕ → ℕ
link_label s j = at s.labels.label j

abbrev pub link_lone : State → ℕ → Bool
link_lone s j = lone (links s) s.labels.label j

-- one byte 01 for yes, else 00
abbrev pub flag : Bool → ℕ
flag b = cond b 1 0

unfoldable pub head_line : State → List ℕ
head_line s = line_of (head_body s.clock.rounds s.clock.requests)

unfoldable pub unit_line : State → ℕ → List ℕ
unit_line s v = line_of (unit_body v (unit_color s v) (unit_parent s v) (unit_place s v) (flag (unit_single s v)))

unfoldable pub link_line : State → ℕ → List ℕ
link_line s j = line_of (label_body j (link_label s j) (flag (link_lone s j)))

unfoldable pub tail_line : State → List ℕ
tail_line s = line_of (tail_body (count (units s) (unit_single s)) (count (links s) (link_lone s)))

-- unit lines after the first line, link lines after those
unfoldable pub report : State → List ℕ
report s = head_line s ++ gathered (units s) (unit_line s) ++ gathered (links s) (link_line s) ++ tail_line s

-- its number of characters for n units and m links
abbrev pub report_length : ℕ → ℕ → ℕ
report_length n m = 26 + 23 * n + 15 * m

-- a slice after the report was written at its front; as it was where the report does not fit, or a count is past its
-- table, as in no well-formed state
unfoldable pub report_over : State → List ℕ → List ℕ
report_over s out =
    cond (leb (units s) max_units && leb (links s) max_links && leb (report_length (units s) (links s)) (length out))
    (report s ++ drop (length (report s)) out)
    out
