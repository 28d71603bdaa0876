-- The report laid down over a slice: the first line, then each part to the lent rest past those before it.
use Rattle.std.specs.Prelude.{◌≡◌, cond, ◌&&◌, List, ◌++◌, ℕ, ◌+◌, ◌*◌, ◌≤◌, ◌<◌, leb, length, drop}
use Rattle.std.proofs.Common.{sym, ap, ◌∙◌, length-append, length-drop}
use native.Mathlib.Omega.{arith}
use borrow.Author.Tests.{le-leb, lt-leb}
use Rattle.base_lists.specs.Lent.{lent, back, back-next}
use Rattle.base_lists.specs.Gathered.{gathered_cong, gathered}
use Rattle.base_lists.specs.Folds.{count}
use Rattle.table.specs.Table.{max_units, max_links}
use Rattle.file_frames.specs.Frame.{line_of, line_over}
use Rattle.file_frames.specs.Bodies.{head_body, tail_body}
use Rattle.file_frames.specs.FrameRests.{line_over-fits, line-next}
use Rattle.spec_rules.specs.Labels.{single, lone}
use Rattle.report_flags.specs.Flags.{flag_table, flag_at}
use Rattle.report_lines.specs.Lines.{unit_row, label_row, lines_of, lines_over, lines_over-fits}
use Rattle.spec_machine.specs.State.{State}
use Rattle.spec_machine.specs.State.{units, links}
use Rattle.spec_machine.specs.Report.{unit_single, link_lone, head_line, unit_line, link_line, tail_line, report}
use Rattle.spec_machine.specs.Report.{report_length, report_over}
use Rattle.spec_machine.specs.ReportLaws.{length-head, length-report, units-long, links-long}

-- ---- by the tests

pub report-fits : (s : State) (out : List ℕ) → units s ≤ max_units → links s ≤ max_links →
    report_length (units s) (links s) ≤ length out
    → report_over s out ≡ report s ++ drop (report_length (units s) (links s)) out
unfolding report_over
report-fits s out n m h =
    rw (
      le-leb (units s) max_units n,
      le-leb (links s) max_links m,
      le-leb (report_length (units s) (links s)) (length out) h,
      length-report s,
    )

-- ---- the lines of units and of links, from the tables and the flags

-- a slice after the lines of all units, and after those of all links
abbrev pub unit_lines : ℕ → ℕ → List ℕ → List ℕ → List ℕ → List ℕ → List ℕ → List ℕ → List ℕ
unit_lines n m ends label color parent place out =
    lines_over 23 n (unit_row color parent place (flag_table max_units n (single m ends label))) out

abbrev pub link_lines : ℕ → List ℕ → List ℕ → List ℕ
link_lines m label out = lines_over 15 m (label_row label (flag_table max_links m (lone m label))) out

abbrev pub single_flags : State → List ℕ
single_flags s = flag_table max_units (units s) (unit_single s)

abbrev pub lone_flags : State → List ℕ
lone_flags s = flag_table max_links (links s) (link_lone s)

module _ (s : State) (out : List ℕ) (n : units s ≤ max_units) (fits : 23 * units s ≤ length out) where
  abbrev unit_says : ℕ → List ℕ
  unit_says = unit_row s.components.color s.tree.parent s.order.pre (single_flags s)

  units-same : lines_of (units s) unit_says ≡ gathered (units s) (unit_line s)
  unfolding unit_line
  units-same =
      gathered_cong (units s) (λ (v : ℕ). line_of (unit_says v)) (unit_line s)
      (λ (v : ℕ) (l : v < units s). rw (flag_at max_units (units s) (unit_single s) v l (omega arith)))

  units-laid : lines_over 23 (units s) (unit_row s.components.color s.tree.parent s.order.pre (single_flags s))
      out
      ≡ gathered (units s) (unit_line s) ++ drop (23 * units s) out
  units-laid = lines_over-fits 23 (units s) unit_says out fits
      ∙ ap (λ (l : List ℕ). l ++ drop (23 * units s) out) units-same

module _ (s : State) (out : List ℕ) (m : links s ≤ max_links) (fits : 15 * links s ≤ length out) where
  abbrev link_says : ℕ → List ℕ
  link_says = label_row s.labels.label (lone_flags s)

  links-same : lines_of (links s) link_says ≡ gathered (links s) (link_line s)
  unfolding link_line
  links-same =
      gathered_cong (links s) (λ (j : ℕ). line_of (link_says j)) (link_line s)
      (λ (j : ℕ) (l : j < links s). rw (flag_at max_links (links s) (link_lone s) j l (omega arith)))

  links-laid : lines_over 15 (links s) (label_row s.labels.label (lone_flags s)) out
      ≡ gathered (links s) (link_line s) ++ drop (15 * links s) out
  links-laid = lines_over-fits 15 (links s) link_says out fits
      ∙ ap (λ (l : List ℕ). l ++ drop (15 * links s) out) links-same

-- ---- the parts one after the other

abbrev pub head_says : State → List ℕ
head_says s = head_body s.clock.rounds s.clock.requests

abbrev pub tail_says : State → List ℕ
tail_says s = tail_body (count (units s) (unit_single s)) (count (links s) (link_lone s))

abbrev pub unit_end : State → ℕ
unit_end s = 13 + 23 * units s

abbrev pub link_end : State → ℕ
link_end s = unit_end s + 15 * links s

-- a slice whose rest from a place on went through a part
abbrev pub over-rest : ℕ → (List ℕ → List ℕ) → List ℕ → List ℕ
over-rest at f xs = back at xs (f (lent at xs))

-- the four parts, of n units and m links, after r rounds and q requests, each laid down over the rest past those before
-- it
unfoldable pub parts_down : ℕ → ℕ → ℕ → ℕ → List ℕ → List ℕ → List ℕ → List ℕ → List ℕ → List ℕ → List ℕ
parts_down n m r q ends label color parent place out =
    over-rest (13 + 23 * n + 15 * m) (line_over (tail_body (count n (single m ends label)) (count m (lone m label))))
    (over-rest (13 + 23 * n) (link_lines m label)
    (over-rest 13 (unit_lines n m ends label color parent place) (line_over (head_body r q) out)))

-- the same where it fits and no count is past its table; else the slice as it was
unfoldable pub parts_over : ℕ → ℕ → ℕ → ℕ → List ℕ → List ℕ → List ℕ → List ℕ → List ℕ → List ℕ → List ℕ
parts_over n m r q ends label color parent place out =
    cond (leb n max_units && leb m max_links && leb (report_length n m) (length out))
    (parts_down n m r q ends label color parent place out)
    out

module _ (n m r q : ℕ) (ends label color parent place out : List ℕ) where
  pub parts-units : max_units < n → out ≡ parts_over n m r q ends label color parent place out
  unfolding parts_over
  parts-units h = rw (lt-leb n max_units h)

  pub parts-links : n ≤ max_units → max_links < m → out ≡ parts_over n m r q ends label color parent place out
  unfolding parts_over
  parts-links a h = rw (le-leb n max_units a, lt-leb m max_links h)

  pub parts-short : n ≤ max_units → m ≤ max_links → length out < report_length n m →
      out ≡ parts_over n m r q ends label color parent place out
  unfolding parts_over
  parts-short a b h = rw (le-leb n max_units a, le-leb m max_links b, lt-leb (report_length n m) (length out) h)

  pub parts-fit : n ≤ max_units → m ≤ max_links → report_length n m ≤ length out
      → parts_down n m r q ends label color parent place out ≡ parts_over n m r q ends label color parent place out
  unfolding parts_over
  parts-fit a b h = rw (le-leb n max_units a, le-leb m max_links b, le-leb (report_length n m) (length out) h)

-- as the calls leave them: z after the first line, u, l and t what the other parts make of the rest that they are lent
pub parts-down : (n m r q : ℕ) (ends label color parent place out z u l t : List ℕ) (singles lones : ℕ)
    → z ≡ line_over (head_body r q) out
    → u ≡ unit_lines n m ends label color parent place (lent 13 z)
    → l ≡ link_lines m label (lent (13 + 23 * n) (back 13 z u))
    → t ≡ line_over (tail_body singles lones) (lent (13 + 23 * n + 15 * m) (back (13 + 23 * n) (back 13 z u) l))
    → singles ≡ count n (single m ends label) → lones ≡ count m (lone m label)
    → back (13 + 23 * n + 15 * m) (back (13 + 23 * n) (back 13 z u) l) t
    ≡ parts_down n m r q ends label color parent place out
unfolding parts_down
parts-down n m r q ends label color parent place out z u l t singles lones ez eu el et es eo =
    rw (et, es, eo, el, eu, ez)

module _ (s : State) (out : List ℕ) (n : units s ≤ max_units) (m : links s ≤ max_links)
    (fits : report_length (units s) (links s) ≤ length out) where
  abbrev unit_part : List ℕ
  unit_part = gathered (units s) (unit_line s)

  abbrev link_part : List ℕ
  link_part = gathered (links s) (link_line s)

  after-head : line_over (head_says s) out ≡ head_line s ++ drop 13 out
  unfolding head_line
  after-head = line_over-fits (head_says s) out (omega arith)

  after-units : over-rest 13 (unit_lines (units s) (links s) s.table.ends s.labels.label s.components.color
      s.tree.parent s.order.pre) (head_line s ++ drop 13 out)
      ≡ (head_line s ++ unit_part) ++ drop (unit_end s) out
  after-units =
      back-next (unit_lines (units s) (links s) s.table.ends s.labels.label s.components.color
      s.tree.parent s.order.pre) unit_part
      (head_line s) out 13 (23 * units s) (length-head s)
      (units-laid s (drop 13 out) n (omega (arith, length-drop 13 out)))

  units-end : length (head_line s ++ unit_part) ≡ unit_end s
  units-end = length-append (head_line s) unit_part ∙ omega (arith, length-head s, units-long s)

  after-links : over-rest (unit_end s) (link_lines (links s) s.labels.label)
      ((head_line s ++ unit_part) ++ drop (unit_end s) out)
      ≡ ((head_line s ++ unit_part) ++ link_part) ++ drop (link_end s) out
  after-links =
      back-next (link_lines (links s) s.labels.label) link_part (head_line s ++ unit_part) out (unit_end s)
      (15 * links s) units-end
      (links-laid s (drop (unit_end s) out) m (omega (arith, length-drop (unit_end s) out)))

  links_end : length ((head_line s ++ unit_part) ++ link_part) ≡ link_end s
  links_end = length-append (head_line s ++ unit_part) link_part ∙ omega (arith, units-end, links-long s)

  after_tail : back (link_end s) (((head_line s ++ unit_part) ++ link_part) ++ drop (link_end s) out)
      (line_over (tail_says s) (lent (link_end s) (((head_line s ++ unit_part) ++ link_part) ++ drop (link_end s) out)))
      ≡ report s ++ drop (report_length (units s) (links s)) out
  unfolding report tail_line
  after_tail =
      let e : link_end s + 13 ≡ report_length (units s) (links s) = omega arith in
      rw (← e) (line-next (tail_says s) ((head_line s ++ unit_part) ++ link_part) out (link_end s) links_end
      (omega arith))

  pub report-laid : parts_down (units s) (links s) s.clock.rounds s.clock.requests s.table.ends
      s.labels.label s.components.color s.tree.parent s.order.pre out
      ≡ report s ++ drop (report_length (units s) (links s)) out
  unfolding parts_down
  report-laid = rw (after-head, after-units, after-links) after_tail

-- the parts from a state's numbers and tables are its report
pub parts-report : (s : State) (out : List ℕ) → units s ≤ max_units → links s ≤ max_links →
    report_length (units s) (links s) ≤ length out
    → parts_over (units s) (links s) s.clock.rounds s.clock.requests s.table.ends s.labels.label
    s.components.color s.tree.parent s.order.pre out
    ≡ report_over s out
parts-report s out n m h =
    sym (parts-fit (units s) (links s) s.clock.rounds s.clock.requests s.table.ends s.labels.label
    s.components.color s.tree.parent s.order.pre out n m h)
    ∙ (report-laid s out n m h ∙ sym (report-fits s out n m h))
