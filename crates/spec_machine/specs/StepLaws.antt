-- What document 01 says of every kept state: a load makes one, a round leaves one, and the countdown falls with each
-- round and is zero only at the end.
use Rattle.std.specs.Prelude.{◌≡◌, refl, Bool, true, false, cond, ◌⊎◌, ◌↔◌, List, ◌++◌, ℕ, ◌+◌, ◌*◌, ◌≤◌, ◌<◌, eqb}
use Rattle.std.specs.Prelude.{length, get_or, drop, take}
use Rattle.std.proofs.Common.{sym, ap, ◌∙◌, inl, inr, arith, take_at, eqb-true, eq-eqb, ne_eqb}
use Rattle.std.proofs.lemmas.Bool.{eqb-false}
use Rattle.base_lists.specs.All.{All, all_of, all_append, all_drop, all_replicate, every-exact}
use Rattle.base_lists.specs.Tests.{either}
use Rattle.table_levels.specs.Level.{HIGHEST, in_range}
use Rattle.table_levels.specs.LevelLaws.{InRange, range-exact, zero_range}
use Rattle.table.specs.Table.{link_count, bare_refusal}
use Rattle.table.proofs.Passes.{Passes, passes, table-alone, table-range}
use Rattle.spec_rules.specs.Basics.{ABSENT}
use Rattle.spec_rules.specs.BoundLaws.{Names, Number, Distance}
use Rattle.spec_rules.specs.Ceilings
use Rattle.spec_rules.specs.Ceilings.{ceilings, ceiling, total}
use Rattle.spec_rules.specs.CeilingLaws.{ceiling-positive, countdown-round, countdown-stage, countdown-positive}
use Rattle.spec_rules.specs.CeilingLaws.{countdown-finished, total-small}
use Rattle.spec_machine.specs.State.{State}
use Rattle.spec_machine.specs.State.{units, links, words, finished, FINISHED}
use Rattle.spec_machine.specs.Load.{Input, stored_load_refusal, absents, zeros, silences, ends_of, begun, loaded}
use Rattle.spec_machine.specs.WellFormed.{well_formed}
use Rattle.spec_machine.specs.Kept.{Kept, MadeOk, kept-exact}
use Rattle.spec_machine.specs.Step
use Rattle.spec_machine.specs.StepKept.{Moved, step_kept, tables-moved, made-below, stage-small}

-- ---- a loaded state is well formed

pub absent-names : (k n : ℕ) → All (Names k) (absents n)
unfolding absents
absent-names k n = all_replicate (Names k) n ABSENT (inr refl)

absent-distances : (n : ℕ) → All Distance (absents n)
unfolding absents
absent-distances n = all_replicate Distance n ABSENT (inr refl)

zero_numbers : (n : ℕ) → All Number (zeros n)
unfolding zeros
zero_numbers n = all_replicate Number n 0 (omega arith)

silent-levels : All InRange (silences 1024)
unfolding silences
silent-levels = all_replicate InRange 1024 HIGHEST ((range-exact HIGHEST).0 zero_range)

-- the words of a loaded state are the table
pub loaded-words : (input : Input) → stored_load_refusal input ≡ 0 → words (loaded input) ≡ input.words
unfolding loaded begun
loaded-words input e = take_at input.words (drop (length input.words) (absents 2048))
    (2 * link_count input.words) (passes input.units input.words
    (table-alone input.units input.words input.levels e)).pairs

pub loaded-kept : (input : Input) → stored_load_refusal input ≡ 0 → Kept (loaded input)
unfolding loaded begun
loaded-kept input e =
    record {
      few = site.few_links;
      passes = rw (loaded-words input e) alone;
      levels = all_append InRange input.levels _
          ((every-exact in_range InRange range-exact input.levels).0
          (table-range input.units input.words input.levels e))
          (all_drop InRange (length input.levels) (silences 1024) silent-levels);
      given = omega arith;
      from = omega arith;
      to = omega arith;
      made = inr (omega arith, ceiling-positive input.units 1 (omega arith) (omega arith));
      rounds = omega arith;
      requests = omega arith;
      unit_names = (
        all_append (Names input.units) input.words _
            (all_of (Names input.units) input.words 0 (λ i l. inl (site.ends_exist i l)))
            (all_drop (Names input.units) (length input.words) (absents 2048) (absent-names input.units 2048)),
        (
          absent-names input.units 256,
          (
            absent-names input.units 256,
            (
              absent-names input.units 256,
              (absent-names input.units 1024, (absent-names input.units 256, tt)),
            ),
          ),
        ),
      );
      arc_names = (
        absent-names (2 * input.units) 512,
        (absent-names (2 * input.units) 512, (absent-names (2 * input.units) 512, tt)),
      );
      link_names = (absent-names (link_count input.words) 1024, tt);
      distances = (absent-distances 256, tt);
      numbers = (
        zero_numbers 512,
        (
          zero_numbers 512,
          (
            zero_numbers 256,
            (
              zero_numbers 256,
              (
                zero_numbers 256,
                (
                  zero_numbers 256,
                  (
                    zero_numbers 256,
                    (
                      zero_numbers 256,
                      (zero_numbers 256, (zero_numbers 256, (zero_numbers 256, (zero_numbers 1024, tt)))),
                    ),
                  ),
                ),
              ),
            ),
          ),
        ),
      );
    }
  where
    alone : bare_refusal input.units input.words ≡ 0
    alone = table-alone input.units input.words input.levels e

    site : Passes input.units input.words
    site = passes input.units input.words alone

pub loaded-well_formed : (input : Input) → stored_load_refusal input ≡ 0 → well_formed (loaded input) ≡ true
loaded-well_formed input e = (kept-exact (loaded input)).1 (loaded-kept input e)

-- ---- a step of a well-formed unfinished state is well formed

pub step-well_formed : (s : State) → well_formed s ≡ true → finished s ≡ false → well_formed (Step.step s) ≡ true
step-well_formed s w f = (kept-exact (Step.step s)).1
    (step_kept s ((kept-exact s).0 w) (eqb-false s.clock.stage FINISHED f))

-- ---- the countdown

pub step-countdown : (s : State) → well_formed s ≡ true → finished s ≡ false →
    Step.countdown (Step.step s) < Step.countdown s
unfolding Step.step Step.next_clock
step-countdown s w f = rw f (rw (tables-moved s k open').table (falls (Step.last_round s)))
  where
    k : Kept s
    k = (kept-exact s).0 w

    open' : s.clock.stage ≡ FINISHED → ⊥
    open' = eqb-false s.clock.stage FINISHED f

    falls : (last : Bool) → Ceilings.countdown (units s) (cond last (s.clock.stage + 1) s.clock.stage)
        (cond last 0 (s.clock.made + 1)) < Step.countdown s
    falls true = countdown-stage (units s) s.clock.stage s.clock.made k.from (stage-small s k open')
        (made-below s k open')
    falls false = countdown-round (units s) s.clock.stage s.clock.made k.from (stage-small s k open')
        (made-below s k open')

-- zero exactly at stage 11
pub countdown_zero : (s : State) → well_formed s ≡ true → (Step.countdown s ≡ 0) ↔ (s.clock.stage ≡ FINISHED)
countdown_zero s w = (
  λ (z : Step.countdown s ≡ 0). ended z (either (finished s)),
  λ (e : s.clock.stage ≡ FINISHED). rw e (countdown-finished (units s) s.clock.made),
)
  where
    ended : Step.countdown s ≡ 0 → (finished s ≡ true) ⊎ (finished s ≡ false) → s.clock.stage ≡ FINISHED
    ended z (inl f) = eqb-true s.clock.stage FINISHED f
    ended z (inr f) =
        let k : Kept s = (kept-exact s).0 w in
        let open' : s.clock.stage ≡ FINISHED → ⊥ = eqb-false s.clock.stage FINISHED f in
        absurd (omega (
          arith,
          countdown-positive (units s) s.clock.stage s.clock.made k.from
              (stage-small s k open') (made-below s k open'),
        ))

-- the first countdown of an accepted table is at most 804
pub first-countdown : (input : Input) → stored_load_refusal input ≡ 0 → Step.countdown (loaded input) ≤ 804
unfolding loaded begun Ceilings.countdown
first-countdown input e = omega (
  arith,
  total-small input.units
      (passes input.units input.words (table-alone input.units input.words input.levels e)).few_units,
)
