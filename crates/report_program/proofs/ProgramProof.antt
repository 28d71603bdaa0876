-- The proof of the program's statement.
use Rattle.std.specs.Prelude.{◌≡◌, Bool, ◌⊎◌, ℕ, ◌+◌, ◌*◌, ◌/◌, ◌%◌, ◌≤◌, ◌<◌, take, drop}
use Rattle.std.proofs.Math.Path.{refl, sym, ap}
use Rattle.std.proofs.Common.{◌∙◌, arith, drop_at}
use Rattle.std.proofs.Math.Logic.{inl, inr}
use mathlib.Core.List.{List, [], ◌∷◌, ◌++◌, append-nil}
use Rattle.std.proofs.Math.Decide.{dec_lt, ℕ_discrete}
use Rattle.std.proofs.Math.ListN.{length, length-append}
use borrow.Author.Tests.{ne_eqb, lt-ltb, le-ltb, not-true}
use Rattle.base_lists.specs.Folds.{count, every}
use Rattle.base_lists.specs.Tests.{not_both}
use Rattle.table_levels.specs.Level.{in_range}
use Rattle.base_lists.specs.Gathered.{gathered}
use Rattle.base_lists.specs.Members.{Mem}
use Rattle.table.specs.Refusals.{first_of}
use Rattle.table.specs.RefusalLaws.{Reason, FirstCause, Numbered, tests, first-cause, first_some, first-none}
use Rattle.table.specs.TableCauses.{stored_reasons, level_outside-exact}
use Rattle.table.proofs.TableReplies.{stored-first-cause}
use Rattle.table.specs.Table.{max_links, stored_refusal}
use Rattle.file_frames.specs.Frame.{hexes_of, byte_at, line_of}
use Rattle.file_frames.specs.Bodies.{refusal_body, label_body, tail_body}
use Rattle.file_frames.specs.FrameLaws.{digit_back, length-line}
use Rattle.file_spec.specs.File.{lines_of, link_frames, ends_in, levels_in, read_refusal}
use Rattle.file_spec.specs.FileCauses.{read_reasons, read_refusal-tests}
use Rattle.file_spec.proofs.LineSteps.{length-ends, length-levels}
use Rattle.file_spec.proofs.ReadLaws.{Sound, accepted-sound}
use Rattle.file_spec.proofs.RewrittenLaws.{read-written, same-file}
use Rattle.spec_state.specs.declared.groups.Table.{Table}
use Rattle.spec_machine.specs.State.{State, units, links}
use Rattle.spec_machine.specs.Load.{Input, links_in, stored_load_refusal, loaded}
use Rattle.spec_machine.specs.StepLaws.{loaded-well_formed}
use Rattle.spec_machine.specs.RunLaws.{total, total-least, total-countdown}
use Rattle.spec_machine.specs.Report.{unit_single, link_label, link_lone, flag, report, report_length, head_line}
use Rattle.spec_machine.specs.Report.{unit_line}
use Rattle.spec_machine.specs.Report.{link_line, tail_line}
use Rattle.spec_machine.specs.ReportLaws.{length-head, units-long, links-long, length-report, head_at, unit-at, link_at}
use Rattle.theory_reach.specs.Started.{loaded-started}
use Rattle.theory_reach.specs.Reach.{rounds-steps}
use Rattle.report_program.specs.Printed.{MAX-INPUT, WORDS, LEVELS, refusal_line, surveyed, table_in, printed_table}
use Rattle.report_program.specs.Printed.{printed_read, unread_by, printed}
use Rattle.report_program.specs.PrintedLaws.{surveyed-end, surveyed-table, surveyed-right}
use Rattle.report_program.specs.Program.{program_reasons, program_numbers, SurveyPrinted, ProgramRight}

-- ---- the line of a refusal tells its number

refusal_byte : (k : ℕ) → k < 256 → byte_at (refusal_line k) 2 ≡ k
unfolding line_of hexes_of
refusal_byte k l = rw (digit_back (k / 16) (omega arith), digit_back (k % 16) (omega arith)) (omega arith)

same-refusal : (j k : ℕ) → j < 256 → k < 256 → refusal_line j ≡ refusal_line k → j ≡ k
same-refusal j k lj lk e = sym (refusal_byte j lj) ∙ (ap (λ (l : List ℕ). byte_at l 2) e ∙ refusal_byte k lk)

-- every number of the list is a byte, and not 0
abbrev Numbers : List ℕ → Type 0
Numbers [] = Unit
Numbers (x ∷ l) = (0 < x) × (x < 256) × Numbers l

member_byte : (l : List ℕ) → Numbers l → (k : ℕ) → Mem k l → (0 < k) × (k < 256)
member_byte [] h k m = absurd m
member_byte (x ∷ l) h k (inl e) = rw e (h.0, h.1)
member_byte (x ∷ l) h k (inr m) = member_byte l h.2 k m

-- ---- the lines of a report, by its numbers of units and links

module _ (s : State) (n m : ℕ) (un : units s ≡ n) (ln : links s ≡ m) where
  link-by : (j : ℕ) → j < m → take 15 (drop (13 + 23 * n + 15 * j) (report s ++ []))
      ≡ line_of (label_body j (link_label s j) (flag (link_lone s j)))
  unfolding link_line
  link-by j l = rw (← un) (link_at s [] j (rw ln l))

  -- what follows the links
  tail-by : drop (13 + 23 * n + 15 * m) (report s)
      ≡ line_of (tail_body (count n (unit_single s)) (count m (link_lone s)))
  unfolding report tail_line
  tail-by =
      rw (← un, ← ln)
      (drop_at (head_line s ++ gathered (units s) (unit_line s) ++ gathered (links s) (link_line s)) (tail_line s)
      (13 + 23 * units s + 15 * links s)
      (simp length-append (omega (arith, length-head s, units-long s, links-long s))))

-- ---- the first cause

-- no reason has the number 0, and so the first cause does not
first-numbered : (rs : List Reason) → Numbered rs → (k : ℕ) → FirstCause rs k → k ≡ 0 → ⊥
first-numbered [] h k c z = c
first-numbered (r ∷ rs) h k (inl p) z = h.0 (p.0 ∙ z)
first-numbered (r ∷ rs) h k (inr p) z = first-numbered rs h.1 k p.1 z

tests-append : (rs qs : List Reason) → tests (rs ++ qs) ≡ tests rs ++ tests qs
tests-append [] qs = refl
tests-append (r ∷ rs) qs = ap (λ (l : List (ℕ × Bool)). (r.number, r.test) ∷ l) (tests-append rs qs)

module _ (input : List ℕ) where
  -- the number of the first cause, 0 where none holds
  refusal : ℕ
  refusal = first_of (tests (program_reasons input))

  unread : ℕ
  unread = read_refusal (lines_of input) WORDS LEVELS

  unloaded : ℕ
  unloaded = stored_load_refusal (table_in input)

  refusal-long : MAX-INPUT < length input → refusal ≡ 1
  unfolding refusal
  refusal-long l = rw (lt-ltb MAX-INPUT (length input) l) refl

  module _ (short : length input ≤ MAX-INPUT) where
    after-length : refusal ≡ first_of (tests (read_reasons (lines_of input) WORDS LEVELS)
        ++ tests (stored_reasons (table_in input).units (table_in input).words (table_in input).levels))
    unfolding refusal
    after-length =
        rw (le-ltb MAX-INPUT (length input) short)
        (ap first_of (tests-append (read_reasons (lines_of input) WORDS LEVELS)
        (stored_reasons (table_in input).units (table_in input).words (table_in input).levels)))

    refusal-unread : (unread ≡ 0 → ⊥) → refusal ≡ unread
    unfolding unread
    refusal-unread h =
        let e : read_refusal (lines_of input) WORDS LEVELS
        ≡ first_of (tests (read_reasons (lines_of input) WORDS LEVELS)) =
        read_refusal-tests (lines_of input) WORDS LEVELS in
        after-length ∙ (first_some (tests (read_reasons (lines_of input) WORDS LEVELS)) _ (λ z. h (e ∙ z)) ∙ sym e)

    refusal-unloaded : unread ≡ 0 → refusal ≡ unloaded
    unfolding unread unloaded read_reasons stored_reasons stored_refusal
    refusal-unloaded z =
        after-length
        ∙ first-none (tests (read_reasons (lines_of input) WORDS LEVELS))
        (tests (stored_reasons (table_in input).units (table_in input).words (table_in input).levels)) (omega arith)
        (sym (read_refusal-tests (lines_of input) WORDS LEVELS) ∙ z)

  -- ---- the numbers that occur

  read_number : (k : ℕ) → (k ≡ 0 → ⊥) → unread ≡ k → Mem k program_numbers
  unfolding unread read_reasons
  read_number k h e = go ((first-cause (read_reasons (lines_of input) WORDS LEVELS) k h).0
      (sym (read_refusal-tests (lines_of input) WORDS LEVELS) ∙ e))
    where
      go : FirstCause (read_reasons (lines_of input) WORDS LEVELS) k → Mem k program_numbers
      go (inl p) = inl (sym p.0)
      go (inr (_, inl p)) = inr (inl (sym p.0))
      go (inr (_, inr (_, inl p))) = inr (inr (inl (sym p.0)))
      go (inr (_, inr (_, inr (_, inl p)))) = inr (inr (inr (inl (sym p.0))))
      go (inr (_, inr (_, inr (_, inr (_, inl p))))) = inr (inr (inr (inr (inl (sym p.0)))))
      go (inr (_, inr (_, inr (_, inr (few, inr (_, inl (_, inl p))))))) = absurd (few (omega (arith, p)))
      go (inr (_, inr (_, inr (_, inr (few, inr (_, inl (_, inr p))))))) = absurd (few (omega (arith, p)))
      go (inr (_, inr (_, inr (_, inr (few, inr (_, inr p)))))) = absurd p.1

  load_number : (k : ℕ) → (k ≡ 0 → ⊥) → unread ≡ 0 → unloaded ≡ k → Mem k program_numbers
  unfolding unread unloaded stored_reasons
  load_number k h z e = go ((stored-first-cause (table_in input).units (table_in input).words
      (table_in input).levels k h).0 e)
    where
      pairs : length (ends_in (lines_of input)) ≡ 2 * link_frames (lines_of input)
      pairs = length-ends (lines_of input)

      sound : Sound (lines_of input) WORDS LEVELS
      sound = accepted-sound (lines_of input) WORDS LEVELS z

      few : link_frames (lines_of input) ≤ max_links
      few = sound.few

      levels : length (levels_in (lines_of input)) ≡ link_frames (lines_of input)
      levels = length-levels (lines_of input)

      go : FirstCause (stored_reasons (table_in input).units (table_in input).words (table_in input).levels) k →
          Mem k program_numbers
      go (inl p) = inr (inr (inr (inr (inr (inl (sym p.0))))))
      go (inr (_, inl p)) = absurd (omega (arith, pairs, p.1.1))
      go (inr (_, inr (_, inl p))) = absurd (omega (arith, pairs, few, p.1))
      go (inr (_, inr (_, inr (_, inl p)))) = absurd (p.1 (omega (arith, pairs, levels)))
      go (inr (_, inr (_, inr (_, inr (_, inl p))))) =
          absurd (not_both (every in_range (levels_in (lines_of input))) sound.levelled
          (not-true _ ((level_outside-exact (levels_in (lines_of input))).1 p.1)))
      go (inr (_, inr (_, inr (_, inr (_, inr (_, inl p)))))) = inr (inr (inr (inr (inr (inr (inl (sym p.0)))))))
      go (inr (_, inr (_, inr (_, inr (_, inr (_, inr (_, inl p))))))) =
          inr (inr (inr (inr (inr (inr (inr (inl (sym p.0))))))))
      go (inr (_, inr (_, inr (_, inr (_, inr (_, inr (_, inr (_, inl p)))))))) =
          inr (inr (inr (inr (inr (inr (inr (inr (inl (sym p.0)))))))))
      go (inr (_, inr (_, inr (_, inr (_, inr (_, inr (_, inr (_, inr p)))))))) = absurd p.1

  -- ---- what is printed

  -- the line of the first cause, or the report of the survey
  abbrev Either : Type 0
  Either =
      (Mem refusal program_numbers × (printed input ≡ refusal_line refusal))
      ⊎ ((refusal ≡ 0) × (unread ≡ 0) × (unloaded ≡ 0) × (printed input ≡ report (surveyed (table_in input))))

  printed-by : Either
  unfolding printed unread_by printed_read printed_table unread unloaded
  printed-by = by_length (dec_lt MAX-INPUT (length input))
    where
      by_load : length input ≤ MAX-INPUT → unread ≡ 0 → Dec (unloaded ≡ 0) → Either
      by_load short z (yes y) =
          inr (refusal-unloaded short z ∙ y, z, y, rw (le-ltb MAX-INPUT (length input) short, z, y) refl)
      by_load short z (no h) =
          let e : refusal ≡ unloaded = refusal-unloaded short z in
          inl (
            rw e (load_number unloaded h z refl),
            rw (le-ltb MAX-INPUT (length input) short, z, ne_eqb unloaded 0 h, e) refl,
          )

      by_reading : length input ≤ MAX-INPUT → Dec (unread ≡ 0) → Either
      by_reading short (yes z) = by_load short z (ℕ_discrete unloaded 0)
      by_reading short (no h) =
          let e : refusal ≡ unread = refusal-unread short h in
          inl (rw e (read_number unread h refl), rw (le-ltb MAX-INPUT (length input) short, ne_eqb unread 0 h, e) refl)

      by_length : Dec (MAX-INPUT < length input) → Either
      by_length (yes l) = inl (inl (refusal-long l), rw (lt-ltb MAX-INPUT (length input) l, refusal-long l) refl)
      by_length (no l) = by_reading (omega arith) (ℕ_discrete unread 0)

  -- ---- a refusal is bound to its cause

  number_byte : Mem refusal program_numbers → (refusal < 256) × (refusal ≡ 0 → ⊥)
  number_byte m = let p = member_byte program_numbers (omega arith) refusal m in (p.1, λ z. omega (arith, p.0))

  -- a line that is printed has a first cause
  line-cause : (k : ℕ) → k < 256 → printed input ≡ refusal_line k → FirstCause (program_reasons input) k
  unfolding refusal
  line-cause k small e = go printed-by
    where
      go : Either → FirstCause (program_reasons input) k
      go (inl (m, line)) =
          let (below, some) = number_byte m in
          let same : first_of (tests (program_reasons input)) ≡ k =
          same-refusal (first_of (tests (program_reasons input))) k below small (sym line ∙ e) in
          (first-cause (program_reasons input) k (λ z. some (same ∙ z))).0 same
      go (inr (_, _, _, whole)) =
          let long : length (refusal_line k)
          ≡ report_length (units (surveyed (table_in input))) (links (surveyed (table_in input))) =
          ap length (sym e ∙ whole) ∙ length-report (surveyed (table_in input)) in
          let seven : length (refusal_line k) ≡ 7 = length-line (refusal_body k) in
          absurd (omega arith)

  -- the first cause has its line printed
  cause-line : (k : ℕ) → FirstCause (program_reasons input) k → printed input ≡ refusal_line k
  unfolding refusal read_reasons stored_reasons
  cause-line k c = go printed-by
    where
      some : k ≡ 0 → ⊥
      some = first-numbered (program_reasons input) (omega arith) k c

      same : first_of (tests (program_reasons input)) ≡ k
      same = (first-cause (program_reasons input) k some).1 c

      go : Either → printed input ≡ refusal_line k
      go (inl (_, line)) = line ∙ ap refusal_line same
      go (inr (none, _, _, _)) = absurd (some (sym same ∙ none))

  -- ---- the report

  module _ (read : unread ≡ 0) (accepted : unloaded ≡ 0)
      (whole : printed input ≡ report (surveyed (table_in input))) where
    table : Input
    table = table_in input

    e : State
    e = surveyed (table_in input)

    e-units : units e ≡ table.units
    unfolding table e unloaded
    e-units = ap (λ (x : Table). x.units) (surveyed-table (table_in input) accepted)

    e-links : links e ≡ links_in table
    unfolding table e unloaded
    e-links = ap (λ (x : Table). x.links) (surveyed-table (table_in input) accepted)

    e-rounds : e.clock.rounds ≡ total (loaded table)
    unfolding table e unloaded
    e-rounds = rw (surveyed-end (table_in input) accepted)
        (rounds-steps (loaded-started (table_in input) accepted) (total (loaded (table_in input))) (omega arith))

    -- nothing follows the report
    with_rest : printed input ≡ report e ++ []
    unfolding e
    with_rest = whole ∙ sym (append-nil (report (surveyed (table_in input))))

    survey-printed : SurveyPrinted input table e (total (loaded table))
    unfolding table e unread unloaded head_line unit_line
    survey-printed =
        record {
          file = sym (read-written input WORDS LEVELS read);
          same = same-file input (accepted-sound (lines_of input) WORDS LEVELS read).lines;
          accepted = accepted;
          least = total-least (loaded (table_in input)) (loaded-well_formed (table_in input) accepted);
          within = total-countdown (loaded (table_in input));
          survey = surveyed-end (table_in input) accepted;
          long = rw (whole, length-report (surveyed (table_in input)), e-units, e-links) refl;
          head_printed = rw (with_rest, head_at (surveyed (table_in input)) [], e-rounds) refl;
          unit_printed = λ v l. rw with_rest (unit-at (surveyed (table_in input)) [] v (rw e-units l));
          link_printed = λ j l. rw with_rest
              (link-by (surveyed (table_in input)) (table_in input).units (links_in (table_in input)) e-units e-links j
              l);
          tail_printed = rw whole (tail-by (surveyed (table_in input)) (table_in input).units
              (links_in (table_in input)) e-units e-links);
          right = surveyed-right (table_in input) accepted;
        }

pub program_right : ProgramRight
program_right input = record {
  refusals = λ k l. (line-cause input k l, cause-line input k);
  prints = go (printed-by input);
}
  where
    go : Either input → ((k : ℕ) × Mem k program_numbers × (printed input ≡ refusal_line k))
        ⊎ ((table : Input) × (e : State) × (rounds : ℕ) × SurveyPrinted input table e rounds)
    go (inl (m, line)) = inl (refusal input, m, line)
    go (inr (_, read, accepted, whole)) = inr (_, _, _, survey-printed input read accepted whole)
