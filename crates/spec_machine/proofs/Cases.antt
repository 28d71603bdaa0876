-- The proved cases A to K of document 01 and those of document 02's T-05 and T-10: rows of one table, held by one
-- theorem. Every figure stands here once, and is compared with what the definitions compute.
use Rattle.std.specs.Prelude.{◌≡◌, refl, Bool, true, false, cond, ◌&&◌, List, [], ◌∷◌, ◌++◌, ℕ, zero, suc, ◌+◌, eqb}
use Rattle.std.specs.Prelude.{take, drop, replicate}
use Rattle.std.proofs.Common.{ap₂, eqb-true}
use Rattle.std.proofs.lemmas.Bool.{false≢true}
use Rattle.base_lists.specs.Tests.{and_left, and_right}
use Rattle.base_lists.specs.Text.{characters}
use Rattle.table_levels.specs.Level.{in_range}
use Rattle.table.specs.Table.{stored_refusal, fresh_refusal, end_missing, equal_ends, joined_in, repeated_link, is_end}
use Rattle.table.specs.Table.{unlinked_below}
use Rattle.base_log2.specs.Lg.{lg, lg_from}
use Rattle.file_frames.specs.Frame.{line_of, hexes_of, sum_of, check_byte}
use Rattle.file_spec.specs.Example.{case_b}
use Rattle.spec_rules.specs.Basics.{ABSENT}
use Rattle.spec_rules.specs.Ceilings
use Rattle.spec_rules.specs.Components.{least_heard, color_round, color_ends}
use Rattle.spec_rules.specs.Tree.{better, prefer, best_neighbor, chosen_parent, visits, parent_round, dist_round}
use Rattle.spec_rules.specs.Tree.{tree_ends}
use Rattle.spec_rules.specs.Planned.{planned_parents, planned_dists, plan_unfit}
use Rattle.spec_rules.specs.Tour.{least_neighbor, greater_neighbor, neighbor_after, follower, is_start, predecessor}
use Rattle.spec_rules.specs.Tour.{next_round, pred_round, first_sums, first_jumps}
use Rattle.spec_rules.specs.Ranking.{sum_round, jump_round, requests_of, ranking_ends}
use Rattle.spec_rules.specs.Order.{forward_round, descendants, nd_round, second_sums, second_jumps, place_of, pre_round}
use Rattle.spec_rules.specs.Range
use Rattle.spec_rules.specs.Range.{local_of, unit_at, local_at, global_first, range_first, little_first, big_first}
use Rattle.spec_rules.specs.Range.{with_little}
use Rattle.spec_rules.specs.Range.{with_big, range_later, little_later, big_later, global_later, range_ends}
use Rattle.spec_rules.specs.Aux.{link_joins_round, joins_parent, parent_joins_round, least_joined, aux_round, aux_ends}
use Rattle.spec_rules.specs.Labels.{naming_unit, class_round, label_of, label_round, lone, single}
use Rattle.spec_machine.specs.Parts.{parts, groups}
use Rattle.spec_machine.specs.State.{State}
use Rattle.spec_machine.specs.State.{units, links, finished}
use Rattle.spec_machine.specs.Load.{Input, bare, stored_load_refusal, load_refusal, loaded, begun, absents, zeros}
use Rattle.spec_machine.specs.Load.{silences, planned_load_refusal, planned_loaded}
use Rattle.spec_machine.specs.Step
use Rattle.spec_machine.specs.Run.{ran}
use Rattle.spec_machine.specs.Report.{unit_single, link_lone, report, head_line, unit_line, link_line, tail_line}

-- ---- what a row says

-- a figure of a site that was surveyed to the end
pub data Figure : Type 0 where
  -- the rounds to the end, and the countdown first shown
  Rounds Countdown : ℕ → Figure
  -- the label of each link, the place of each unit
  Labels Places : List ℕ → Figure
  -- the lone links, and the single points: these and no others
  Lone Singles : List ℕ → Figure
  -- the sum over all labels of the units touched, less one, and the groups (document 02, T-14)
  Parts : ℕ → ℕ → Figure
  -- the whole report
  Report : List ℕ → Figure

pub data Case : Type 0 where
  -- a site of n units with a table of links without levels, opened as a stored table, and its figures
  site : ℕ → List ℕ → List Figure → Case
  -- a table, and the numbers that the load of a stored table and load give (0: it passes)
  checks : ℕ → List ℕ → ℕ → ℕ → Case
  -- a table that the load of a stored table accepts, and the countdown first shown
  opens : ℕ → List ℕ → ℕ → Case
  -- a site with a table of parents drawn by the planner (document 02, T-05), and its figures; and the number that its
  -- load gives
  plans : ℕ → List ℕ → List ℕ → List Figure → Case
  draws : ℕ → List ℕ → List ℕ → ℕ → Case
  -- a list of objects to rank, and its rounds and requests
  ranks : ℕ → ℕ → ℕ → Case

-- ---- what the definitions compute

abbrev equal : List ℕ → List ℕ → Bool
equal [] [] = true
equal [] (y ∷ t) = false
equal (x ∷ s) [] = false
equal (x ∷ s) (y ∷ t) = eqb x y && equal s t

-- the numbers below n that pass the test, ascending
abbrev passing : ℕ → (ℕ → Bool) → List ℕ
passing zero p = []
passing (suc n) p = passing n p ++ cond (p n) (n ∷ []) []

-- the loaded state s, and the state e at the end with the rounds counted
abbrev shows : State → State → ℕ → Figure → Bool
shows s e rounds (Rounds k) = eqb rounds k && eqb e.clock.rounds k
shows s e rounds (Countdown k) = eqb (Step.countdown s) k
shows s e rounds (Labels l) = equal (take (links e) e.labels.label) l
shows s e rounds (Places l) = equal (take (units e) e.order.pre) l
shows s e rounds (Lone l) = equal (passing (links e) (link_lone e)) l
shows s e rounds (Singles l) = equal (passing (units e) (unit_single e)) l
shows s e rounds (Parts k g) = eqb (parts (units e) (links e) e.table.ends e.labels.label) k
    && eqb (groups (units e) e.components.color) g
shows s e rounds (Report l) = equal (report e) l

abbrev shows_all : State → State → ℕ → List Figure → Bool
shows_all s e rounds [] = true
shows_all s e rounds (f ∷ fs) = shows s e rounds f && shows_all s e rounds fs

-- the survey run to the end; its rounds are the steps made
abbrev surveyed : State → State × ℕ
surveyed s = ran (Step.countdown s) 0 s

-- the ranking of a list by stage 4's rule: k objects, the working predecessors and sums so far; the rounds and requests
abbrev ranked : ℕ → ℕ → List ℕ → List ℕ → ℕ × ℕ
ranked zero k jump sum = (0, 0)
ranked (suc fuel) k jump sum =
    let later = ranked fuel k (jump_round k jump) (sum_round k jump sum) in
    let more : ℕ × ℕ = (later.0 + 1, later.1 + requests_of k jump) in
    cond (ranking_ends k jump) (1, 0) more

-- object i follows object i − 1
abbrev chain : ℕ → List ℕ
chain zero = []
chain (suc zero) = ABSENT ∷ []
chain (suc (suc k)) = chain (suc k) ++ k ∷ []

abbrev holds : Case → Bool
holds (site n t figures) =
    let s = loaded (bare n t) in
    let r = surveyed s in
    eqb (stored_load_refusal (bare n t)) 0 && finished r.0 && shows_all s r.0 r.1 figures
holds (checks n t stored fresh) = eqb (stored_load_refusal (bare n t)) stored && eqb (load_refusal (bare n t)) fresh
holds (opens n t countdown) = eqb (stored_load_refusal (bare n t)) 0
    && eqb (Step.countdown (loaded (bare n t))) countdown
holds (plans n t ps figures) =
    let s = planned_loaded (bare n t) ps in
    let r = surveyed s in
    eqb (planned_load_refusal (bare n t) ps) 0 && finished r.0 && shows_all s r.0 r.1 figures
holds (draws n t ps k) = eqb (planned_load_refusal (bare n t) ps) k
holds (ranks k rounds requests) =
    let r = ranked k k (chain k) (replicate k 1) in
    eqb r.0 rounds && eqb r.1 requests

abbrev hold_all : List Case → Bool
hold_all [] = true
hold_all (c ∷ cs) = holds c && hold_all cs

-- ---- the table

-- B, whole: its file is file_spec/specs/Example
abbrev pub report_b : List ℕ
report_b =
    characters "11001B0016BE\n"
    ++ characters "1200000000FFFF000000F0\n"
    ++ characters "12000100000000000100EC\n"
    ++ characters "12000200000000000201E9\n"
    ++ characters "12000300000002000300E6\n"
    ++ characters "130000000000ED\n"
    ++ characters "130001000000EC\n"
    ++ characters "130002000000EB\n"
    ++ characters "130003000301E6\n"
    ++ characters "1F00010001DF\n"

abbrev pub site_b : Input
site_b = bare 4 case_b

abbrev pub row_b : Case
row_b = site 4 case_b (Rounds 27 ∷ Countdown 30 ∷ Report report_b ∷ [])

abbrev pub cases : List Case
cases =
    -- A
    site 1 [] (Rounds 16 ∷ Countdown 16 ∷ [])
    -- B
    ∷ row_b
    -- C
    ∷ site 2 (0 ∷ 1 ∷ []) (Rounds 20 ∷ Lone (0 ∷ []) ∷ Singles [] ∷ [])
    -- D
    ∷ site 4 (0 ∷ 1 ∷ 1 ∷ 2 ∷ 2 ∷ 3 ∷ 3 ∷ 0 ∷ []) (Labels (0 ∷ 0 ∷ 0 ∷ 0 ∷ []) ∷ Singles [] ∷ [])
    -- E
    ∷ site 5 (0 ∷ 1 ∷ 1 ∷ 2 ∷ 0 ∷ 2 ∷ 2 ∷ 3 ∷ 3 ∷ 4 ∷ 2 ∷ 4 ∷ [])
    (Labels (0 ∷ 0 ∷ 0 ∷ 3 ∷ 3 ∷ 3 ∷ []) ∷ Singles (2 ∷ []) ∷ Parts 4 1 ∷ [])
    -- F
    ∷ site 6 (0 ∷ 1 ∷ 1 ∷ 2 ∷ 0 ∷ 2 ∷ 3 ∷ 4 ∷ 4 ∷ 5 ∷ 3 ∷ 5 ∷ [])
    (Labels (0 ∷ 0 ∷ 0 ∷ 3 ∷ 3 ∷ 3 ∷ []) ∷ Singles [] ∷ Parts 4 2 ∷ [])
    -- G
    ∷ site 5 (0 ∷ 3 ∷ 3 ∷ 1 ∷ 1 ∷ 2 ∷ 1 ∷ 4 ∷ []) (Places (0 ∷ 2 ∷ 4 ∷ 1 ∷ 3 ∷ []) ∷ [])
    -- H
    ∷ ranks 5 4 8
    -- I: opened by the load of a stored table
    ∷ checks 257 [] 4 4
    ∷ checks 256 [] 0 22
    ∷ opens 256 [] 804
    -- J
    ∷ checks 2 (0 ∷ 1 ∷ 1 ∷ 0 ∷ []) 9 9
    -- K
    ∷ checks 3 (3 ∷ 3 ∷ []) 7 7
    -- T-10: a single unit passes; of two or more one without a link does not, unless it was stored; 22 comes last
    ∷ checks 1 [] 0 0
    ∷ checks 2 (0 ∷ 1 ∷ []) 0 0
    ∷ checks 2 [] 0 22
    ∷ checks 3 (2 ∷ 0 ∷ []) 0 22
    ∷ checks 3 (0 ∷ 1 ∷ 1 ∷ 0 ∷ []) 9 9
    -- T-05: a plan with a link off it between ancestor and descendant; A, B with each of its trees and C with a plan
    ∷ plans 4 (3 ∷ 2 ∷ 3 ∷ 1 ∷ 0 ∷ 3 ∷ 1 ∷ 2 ∷ []) (ABSENT ∷ 2 ∷ 3 ∷ 0 ∷ [])
    (Labels (0 ∷ 0 ∷ 2 ∷ 0 ∷ []) ∷ Lone (2 ∷ []) ∷ Singles (3 ∷ []) ∷ [])
    ∷ plans 1 [] (ABSENT ∷ []) (Rounds 15 ∷ Countdown 16 ∷ [])
    ∷ plans 4 case_b (ABSENT ∷ 0 ∷ 1 ∷ 2 ∷ [])
    (Rounds 24 ∷ Countdown 30 ∷ Labels (0 ∷ 0 ∷ 0 ∷ 3 ∷ []) ∷ Lone (3 ∷ []) ∷ Singles (2 ∷ []) ∷ [])
    ∷ plans 4 case_b (ABSENT ∷ 0 ∷ 0 ∷ 2 ∷ [])
    (Rounds 24 ∷ Countdown 30 ∷ Labels (0 ∷ 0 ∷ 0 ∷ 3 ∷ []) ∷ Lone (3 ∷ []) ∷ Singles (2 ∷ []) ∷ [])
    ∷ plans 4 case_b (ABSENT ∷ 2 ∷ 0 ∷ 2 ∷ [])
    (Rounds 24 ∷ Countdown 30 ∷ Labels (0 ∷ 0 ∷ 0 ∷ 3 ∷ []) ∷ Lone (3 ∷ []) ∷ Singles (2 ∷ []) ∷ [])
    ∷ plans 2 (0 ∷ 1 ∷ []) (ABSENT ∷ 0 ∷ []) (Rounds 18 ∷ Lone (0 ∷ []) ∷ Singles [] ∷ [])
    -- 17: a parent too few or too many, whatever they are; 9 comes before it
    ∷ draws 2 (0 ∷ 1 ∷ []) (1 ∷ []) 17
    ∷ draws 2 (0 ∷ 1 ∷ []) (ABSENT ∷ 0 ∷ 0 ∷ []) 17
    ∷ draws 2 (0 ∷ 1 ∷ 1 ∷ 0 ∷ []) [] 9
    -- 18: a colour unit with a parent, also in a circle; another without one; a parent that is no neighbour, or no
    -- unit; a circle
    ∷ draws 2 (0 ∷ 1 ∷ []) (1 ∷ ABSENT ∷ []) 18
    ∷ draws 2 (0 ∷ 1 ∷ []) (1 ∷ 0 ∷ []) 18
    ∷ draws 2 (0 ∷ 1 ∷ []) (ABSENT ∷ ABSENT ∷ []) 18
    ∷ draws 3 (0 ∷ 1 ∷ 1 ∷ 2 ∷ []) (ABSENT ∷ 0 ∷ 0 ∷ []) 18
    ∷ draws 2 (0 ∷ 1 ∷ []) (ABSENT ∷ 2 ∷ []) 18
    ∷ draws 4 case_b (ABSENT ∷ 2 ∷ 1 ∷ 2 ∷ []) 18
    -- 22 last
    ∷ draws 3 (0 ∷ 1 ∷ []) (ABSENT ∷ 0 ∷ ABSENT ∷ []) 22
    ∷ draws 3 (0 ∷ 1 ∷ []) (ABSENT ∷ 0 ∷ 0 ∷ []) 18
    ∷ []

pub cases_hold : hold_all cases ≡ true
unfolding case_b in_range stored_refusal fresh_refusal end_missing equal_ends joined_in repeated_link is_end
    unlinked_below lg
    lg_from line_of hexes_of sum_of check_byte Ceilings.countdown least_heard color_round color_ends better prefer
    best_neighbor
    chosen_parent visits parent_round dist_round tree_ends least_neighbor greater_neighbor neighbor_after follower
    is_start
    predecessor next_round pred_round first_sums first_jumps sum_round jump_round requests_of ranking_ends forward_round
    descendants nd_round second_sums second_jumps place_of pre_round local_of unit_at local_at global_first range_first
    little_first big_first with_little with_big range_later little_later big_later global_later range_ends
    link_joins_round
    joins_parent parent_joins_round least_joined aux_round aux_ends naming_unit class_round label_of label_round lone
    single parts
    groups loaded begun absents zeros silences plan_unfit planned_load_refusal planned_loaded planned_parents
    planned_dists
    Step.components Step.tree_searched Step.tree_planned Step.tree Step.tour_next Step.tour_pred Step.tour Step.ranking
    Step.marks_forward Step.marks_descendants Step.marks Step.places Step.range_begun Step.range_doubled Step.range
    Step.aux_edges Step.aux_components Step.label_classes Step.label_positions Step.labels Step.rule_ends
    Step.last_round
    Step.round_tables Step.round_requests Step.next_clock Step.step ran report head_line unit_line link_line tail_line
cases_hold = refl

-- ---- a row out of the table

equal-exact : (s t : List ℕ) → equal s t ≡ true → s ≡ t
equal-exact [] [] e = refl
equal-exact [] (y ∷ t) e = absurd (false≢true e)
equal-exact (x ∷ s) [] e = absurd (false≢true e)
equal-exact (x ∷ s) (y ∷ t) e =
    ap₂ (λ (z : ℕ) (l : List ℕ). z ∷ l) (eqb-true x y (and_left (eqb x y) (equal s t) e))
    (equal-exact s t (and_right (eqb x y) (equal s t) e))

row-holds : (front : List Case) (c : Case) (back : List Case) → hold_all (front ++ c ∷ back) ≡ true → holds c ≡ true
row-holds [] c back h = and_left (holds c) (hold_all back) h
row-holds (f ∷ front) c back h = row-holds front c back (and_right (holds f) (hold_all (front ++ c ∷ back)) h)

figure_shown : (s e : State) (k : ℕ) (front : List Figure) (f : Figure) (back : List Figure) →
    shows_all s e k (front ++ f ∷ back) ≡ true → shows s e k f ≡ true
figure_shown s e k [] f back h = and_left (shows s e k f) (shows_all s e k back) h
figure_shown s e k (g ∷ front) f back h =
    figure_shown s e k front f back (and_right (shows s e k g) (shows_all s e k (front ++ f ∷ back)) h)

-- case B: its table passes, and what the definitions report of it, run with the first countdown as its budget
parts-B : (stored_load_refusal site_b ≡ 0) × (report (ran (Step.countdown (loaded site_b)) 0 (loaded site_b)).0
    ≡ report_b)
parts-B =
    let s = loaded site_b in
    let e = (surveyed s).0 in
    let k = (surveyed s).1 in
    let figures = Rounds 27 ∷ Countdown 30 ∷ Report report_b ∷ [] in
    let passes = eqb (stored_load_refusal site_b) 0 in
    let row : holds row_b ≡ true = row-holds (take 1 cases) row_b (drop 2 cases) cases_hold in
    let all : shows_all s e k figures ≡ true = and_right (passes && finished e) (shows_all s e k figures) row in (
      eqb-true (stored_load_refusal site_b) 0
          (and_left passes (finished e) (and_left (passes && finished e) (shows_all s e k figures) row)),
      equal-exact (report e) report_b (figure_shown s e k (Rounds 27 ∷ Countdown 30 ∷ []) (Report report_b) [] all),
    )

pub accepted-B : stored_load_refusal site_b ≡ 0
accepted-B = parts-B.0

pub report-B : report (ran (Step.countdown (loaded site_b)) 0 (loaded site_b)).0 ≡ report_b
report-B = parts-B.1
