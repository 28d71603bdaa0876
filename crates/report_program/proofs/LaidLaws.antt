-- What the calls leave is what is printed: a refusal's line, and the report of a finished survey.
use Rattle.std.specs.Prelude.{◌≡◌, Bool, ◌⊎◌, List, ◌++◌, ℕ, ◌*◌, ◌≤◌, ◌<◌, eqb, ltb, take, ℤ}
use Rattle.std.proofs.Math.Path.{refl, sym, ap}
use Rattle.std.proofs.Common.{◌∙◌, inl, inr, arith, take_at, eq-eqb, ne_eqb, lt-ltb, le-ltb, le-leb, eqb-true}
use Rattle.std.proofs.Math.Bool.{true, false, cond}
use Rattle.std.proofs.Math.Decide.{dec_lt, ℕ_discrete}
use Rattle.std.proofs.Math.ListN.{length, drop}
use Rattle.std.proofs.lemmas.Bool.{lt-leb}
use Rattle.base_lists.specs.All.{cond-keeps}
use Rattle.base_lists.specs.Tests.{either}
use Rattle.table.specs.Refusals.{written}
use Rattle.table.specs.Table.{bad_unit_count, odd_words, too_many_links, levels_differ, level_outside, end_missing}
use Rattle.table.specs.Table.{equal_ends}
use Rattle.table.specs.Table.{repeated_link, stored_refusal}
use Rattle.file_frames.specs.Frame.{line_over}
use Rattle.file_frames.specs.Bodies.{refusal_body}
use Rattle.file_frames.specs.FrameLaws.{length-line}
use Rattle.file_spec.specs.File.{lines_of, read_refusal, read_reply, read_words, units_in, link_frames, ends_in}
use Rattle.file_spec.specs.File.{levels_in}
use Rattle.file_spec.specs.File.{read_levels}
use Rattle.file_spec.proofs.LineSteps.{length-ends, length-levels}
use Rattle.file_spec.proofs.ReadLaws.{accepted-sound, unread-told, read_told}
use Rattle.file_spec.specs.declared.Reading.{Reading}
use Rattle.file_spec.specs.declared.Reading.TheVariants.{Read}
use Rattle.spec_state.specs.declared.groups.Table.{Table}
use Rattle.spec_state.specs.declared.reply.Reply.TheVariants.{Written}
use Rattle.spec_machine.specs.State.{State, units, links, finished, FINISHED}
use Rattle.spec_machine.specs.WellFormed.{well_formed}
use Rattle.spec_machine.specs.Load.{Input, links_in, stored_load_refusal, begun, loaded}
use Rattle.spec_machine.specs.StepLaws.{loaded-well_formed}
use Rattle.spec_machine.specs.Report.{report, report_length}
use Rattle.spec_machine.specs.ReportLaws.{length-report}
use Rattle.spec_machine.specs.Calls.{number_of, answered, stored_load_answer, round_refusal, run_answer, report_refusal}
use Rattle.spec_machine.specs.Calls.{report_answer, reported}
use Rattle.report_program.specs.Printed.{MAX-INPUT, WORDS, LEVELS, count_of, refusal_line, surveyed, table_in}
use Rattle.report_program.specs.Printed.{printed_table, printed_read, unread_by, printed, laid_over, laid_count}
use Rattle.report_program.specs.PrintedLaws.{surveyed-table, surveyed-finished, surveyed-well_formed}

-- ---- laying down

pub laid-fits : (text : List ℕ) (places : ℕ) → laid_count text places ≤ places
unfolding laid_count
laid-fits text places = go (dec_lt places (length text))
  where
    go : Dec (places < length text) → laid_count text places ≤ places
    go (yes l) = rw (lt-ltb places (length text) l) (omega arith)
    go (no l) = rw (le-ltb places (length text) (omega arith)) (omega arith)

-- ---- a refusal's line

length-refusal : (k : ℕ) → length (refusal_line k) ≡ 7
length-refusal k = length-line (refusal_body k)

pub refusal-line : (k : ℕ) (out : List ℕ) → line_over (refusal_body k) out ≡ laid_over (refusal_line k) out
unfolding line_over laid_over
refusal-line k out = go (dec_lt (length out) 7)
  where
    go : Dec (length out < 7) → line_over (refusal_body k) out ≡ laid_over (refusal_line k) out
    go (yes l) = rw (length-refusal k, lt-leb 7 (length out) l, lt-ltb (length out) 7 l) refl
    go (no l) =
        let fits : 7 ≤ length out = omega arith in
        rw (length-refusal k, le-leb 7 (length out) fits, le-ltb (length out) 7 fits) refl

pub refusal-short : (k places : ℕ) → places < 7 → 0 ≡ laid_count (refusal_line k) places
unfolding laid_count
refusal-short k places l = rw (length-refusal k, lt-ltb places 7 l) refl

pub refusal-long : (k places : ℕ) → 7 ≤ places → 7 ≡ laid_count (refusal_line k) places
unfolding laid_count
refusal-long k places l = rw (length-refusal k, le-ltb places 7 l) refl

-- ---- load, run and report

module _ (input : Input) where
  -- a number of a refusal, or 0, is a byte
  pub number_byte : stored_load_refusal input < 256
  unfolding stored_refusal
  number_byte =
      let n = input.units in
      let t = input.words in
      let ls = input.levels in
      first (bad_unit_count n) 4 _ (omega arith)
      (first (odd_words t) 5 _ (omega arith)
      (first (too_many_links t) 6 _ (omega arith)
      (first (levels_differ t ls) 15 _ (omega arith)
      (first (level_outside ls) 16 _ (omega arith)
      (first (end_missing n t) 7 _ (omega arith)
      (first (equal_ends t) 8 _ (omega arith)
      (first (repeated_link t) 9 0 (omega arith) (omega arith))))))))
    where
      first : (b : Bool) (k later : ℕ) → k < 256 → later < 256 → cond b k later < 256
      first b k later = cond-keeps (λ (x : ℕ). x < 256) b k later

  -- refused
  pub table-refused : (stored_load_refusal input ≡ 0 → ⊥) → printed_table input
      ≡ refusal_line (stored_load_refusal input)
  unfolding printed_table
  table-refused h = rw (ne_eqb (stored_load_refusal input) 0 h) refl

  module _ (accepted : stored_load_refusal input ≡ 0) where
    unfinished : finished (loaded input) ≡ false
    unfolding loaded begun
    unfinished = refl

    -- a load of a stored table on any state and a run with the greatest budget leave the survey
    pub survey-left : (s begun ended : State) → begun ≡ (stored_load_answer input s).state →
        ended ≡ (run_answer 65535 begun).state → ended ≡ surveyed input
    unfolding stored_load_answer run_answer round_refusal
    survey-left s begun ended l r = rw (r, l, accepted) (rw (loaded-well_formed input accepted, unfinished) refl)

    well : well_formed (surveyed input) ≡ true
    well = surveyed-well_formed input accepted

    at-end : finished (surveyed input) ≡ true
    at-end = eq-eqb (surveyed input).clock.stage FINISHED (surveyed-finished input accepted)

    -- the whole is the report of the survey
    table-printed : printed_table input ≡ report (surveyed input)
    unfolding printed_table
    table-printed = rw (eq-eqb (stored_load_refusal input) 0 accepted) refl

    -- its length, by the table alone
    printed-length : length (printed_table input) ≡ report_length input.units (links_in input)
    unfolding loaded begun
    printed-length =
        ap length table-printed ∙ length-report (surveyed input)
        ∙ ap (λ (x : Table). report_length x.units x.links) (surveyed-table input accepted)

    -- refused only where it has too few places
    report-refusal : (places : ℕ) → report_refusal (surveyed input) places
        ≡ cond (ltb places (length (printed_table input))) 14 0
    unfolding report_refusal
    report-refusal places = rw (well, at-end, table-printed, length-report (surveyed input)) refl

    report-number : (places : ℕ) → number_of (report_answer places (surveyed input)).reply
        ≡ cond (ltb places (length (printed_table input))) 14 0
    unfolding report_answer
    report-number places = rw (report-refusal places) (go (ltb places (length (printed_table input))))
      where
        go : (b : Bool) → number_of (answered (cond b 14 0) (surveyed input) (surveyed input)
            (Written (report_length (units (surveyed input)) (links (surveyed input))))).reply ≡ cond b 14 0
        go true = refl
        go false = refl

    pub report-laid : (out : List ℕ) → reported (surveyed input) out ≡ laid_over (printed_table input) out
    unfolding reported laid_over
    report-laid out = rw (
      report-refusal (length out),
      sym table-printed,
    ) (go (ltb (length out) (length (printed_table input))))
      where
        go : (b : Bool) → written (cond b 14 0) (printed_table input) out
            ≡ cond b out (printed_table input ++ drop (length (printed_table input)) out)
        go true = refl
        go false = refl

    -- and then so many characters are written
    pub report-count : (places : ℕ) → count_of (report_answer places (surveyed input)).reply
        ≡ laid_count (printed_table input) places
    unfolding report_answer laid_count
    report-count places = rw (
      report-refusal places,
      sym (length-report (surveyed input)),
      sym table-printed,
    ) (go (ltb places (length (printed_table input))))
      where
        go : (b : Bool) → count_of (answered (cond b 14 0) (surveyed input) (surveyed input)
            (Written (length (printed_table input)))).reply ≡ cond b 0 (length (printed_table input))
        go true = refl
        go false = refl

    pub report-none : (places : ℕ) → (number_of (report_answer places (surveyed input)).reply ≡ 0 → ⊥) →
        0 ≡ laid_count (printed_table input) places
    unfolding laid_count
    report-none places refused =
        go (ltb places (length (printed_table input))) (λ z. refused (report-number places ∙ z))
      where
        go : (b : Bool) → (cond {A = ℕ} b 14 0 ≡ 0 → ⊥) → 0 ≡ cond b 0 (length (printed_table input))
        go true some = refl
        go false some = absurd (some refl)

    pub report-all : (places : ℕ) → number_of (report_answer places (surveyed input)).reply ≡ 0 →
        report_length input.units (links_in input) ≡ laid_count (printed_table input) places
    unfolding laid_count
    report-all places made = sym printed-length
        ∙ go (ltb places (length (printed_table input))) (sym (report-number places) ∙ made)
      where
        go : (b : Bool) → cond {A = ℕ} b 14 0 ≡ 0 → length (printed_table input)
            ≡ cond b 0 (length (printed_table input))
        go true z = omega (arith, z)
        go false z = refl

-- ---- what was read

pub read-refused : (unread : ℕ) (input : Input) → (unread ≡ 0 → ⊥) → printed_read unread input ≡ refusal_line unread
unfolding printed_read
read-refused unread input h = rw (ne_eqb unread 0 h) refl

pub read_taken : (unread : ℕ) (input : Input) → unread ≡ 0 → printed_read unread input ≡ printed_table input
unfolding printed_read
read_taken unread input e = rw e refl

module _ (input : List ℕ) (places spaces : ℕ) where
  abbrev unread : ℕ
  unread = unread_by input places spaces

  pub input_long : MAX-INPUT < length input → unread ≡ 1
  unfolding unread_by
  input_long l = rw (lt-ltb MAX-INPUT (length input) l) refl

  pub input_short : length input ≤ MAX-INPUT → unread ≡ read_refusal (lines_of input) places spaces
  unfolding unread_by
  input_short short = rw (le-ltb MAX-INPUT (length input) short) refl

  taken-read : unread ≡ 0 → read_refusal (lines_of input) places spaces ≡ 0
  taken-read z = go (dec_lt MAX-INPUT (length input))
    where
      go : Dec (MAX-INPUT < length input) → read_refusal (lines_of input) places spaces ≡ 0
      go (yes l) = absurd (omega (arith, input_long l, z))
      go (no l) = sym (input_short (omega arith)) ∙ z

  pub taken-few : unread ≡ 0 → link_frames (lines_of input) ≤ LEVELS
  taken-few z = (accepted-sound (lines_of input) places spaces (taken-read z)).few

  -- what is taken stands in front
  module _ (k n m : ℕ) (words after : List ℕ) (levels heard : List ℤ) (ek : k ≡ unread)
      (en : n ≡ cond (eqb unread 0) (table_in input).units 0)
      (em : m ≡ cond (eqb unread 0) (link_frames (lines_of input)) 0)
      (ew : after ≡ written unread (table_in input).words words)
      (el : heard ≡ written unread (table_in input).levels levels) where
    pub taken-table : printed_read k (record { units = n; words = take (2 * m) after; levels = take m heard })
        ≡ printed_read unread (table_in input)
    taken-table = go (ℕ_discrete unread 0)
      where
        go : Dec (unread ≡ 0) → printed_read k (record { units = n; words = take (2 * m) after; levels = take m heard })
            ≡ printed_read unread (table_in input)
        go (yes z) =
            let e : m ≡ link_frames (lines_of input) = rw z at em in
            let front : take (2 * m) after ≡ ends_in (lines_of input) =
            rw (ew, z) (take_at (ends_in (lines_of input)) (drop (length (ends_in (lines_of input))) words) (2 * m)
            (length-ends (lines_of input) ∙ ap (λ (x : ℕ). 2 * x) (sym e))) in
            let first : take m heard ≡ levels_in (lines_of input) =
            rw (el, z) (take_at (levels_in (lines_of input)) (drop (length (levels_in (lines_of input))) levels) m
            (length-levels (lines_of input) ∙ sym e)) in
            let count : n ≡ units_in (lines_of input) = rw z at en in
            rw (ek, front, first, count) refl
        go (no h) = rw ek (read-refused unread _ h ∙ sym (read-refused unread _ h))

  -- what reading leaves
  module _ (short : length input ≤ MAX-INPUT) where
    pub taken_refused : (k : ℕ) → read_reply input places spaces ≡ Reading.Refused k → (k ≡ unread) × (unread ≡ 0 → ⊥)
    taken_refused k e =
        let (q, h) = unread-told input places spaces k e in
        (q ∙ sym (input_short short), λ z. h (taken-read z))

    pub taken-told : (u m : ℕ) → read_reply input places spaces ≡ Read u m →
        (unread ≡ 0) × (u ≡ units_in (lines_of input)) × (m ≡ link_frames (lines_of input))
    taken-told u m e = let r = read_told input places spaces u m e in (input_short short ∙ r.0, r.1, r.2)

module _ (input words : List ℕ) (levels : List ℤ) (short : length input ≤ MAX-INPUT) where
  pub taken-words : read_words input words (length levels)
      ≡ written (unread_by input (length words) (length levels)) (table_in input).words words
  unfolding read_words
  taken-words = rw (input_short input (length words) (length levels) short) refl

  pub taken-levels : read_levels input (length words) levels
      ≡ written (unread_by input (length words) (length levels)) (table_in input).levels levels
  unfolding read_levels
  taken-levels = rw (input_short input (length words) (length levels) short) refl
