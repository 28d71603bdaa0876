-- Laws of the load with a planner's table of parents (document 02, T-05): the checks one after the other, as code makes
-- them, and that the state is kept.
use Rattle.std.specs.Prelude.{◌≡◌, refl, Bool, true, false, not, cond, ◌⊎◌, ◌≢◌, List, [], ◌∷◌, ◌++◌, ℕ, ◌+◌, ◌*◌, ◌≤◌}
use Rattle.std.specs.Prelude.{◌<◌, eqb, length, drop}
use Rattle.std.proofs.Math.Path.{sym}
use Rattle.std.proofs.Common.{◌∙◌, inl, inr, arith, eqb-true, eq-eqb}
use Rattle.std.proofs.Math.Decide.{ℕ_discrete}
use Rattle.std.proofs.lemmas.Bool.{not-false}
use Rattle.base_lists.specs.All.{All, all_of, all_append, all_drop}
use Rattle.base_lists.specs.Folds.{some}
use Rattle.base_lists.specs.Tests.{either, not_both, refuted}
use Rattle.table.specs.Refusals.{first_of}
use Rattle.table.specs.RefusalLaws.{first_some, first-none, passed-test}
use Rattle.table.specs.Table.{end_a, end_b, stored_tests, unit_tests, stored_refusal, fresh_refusal, refusal_as}
use Rattle.table.proofs.Passes.{Passes, passes, table-alone}
use Rattle.spec_rules.specs.Basics.{ABSENT, at}
use Rattle.spec_rules.specs.BoundLaws.{Names}
use Rattle.spec_rules.specs.Planned.{parent_link, plan_unfit}
use Rattle.spec_rules.specs.PlannedLaws.{ParentLink, PlanUnfit, parent-linked, unfit_exact}
use Rattle.spec_machine.specs.State.{State, units, with_plan}
use Rattle.spec_machine.specs.Load.{Input, links_in, stored_load_refusal, absents, begun, loaded, parents_of, plan_of}
use Rattle.spec_machine.specs.Load.{parents_differ, parents_unfit, plan_tests, planned_load_refusal, planned_loaded}
use Rattle.spec_machine.specs.WellFormed.{well_formed}
use Rattle.spec_machine.specs.Kept.{Kept, kept-exact}
use Rattle.spec_machine.specs.Step.{countdown}
use Rattle.spec_machine.specs.StepLaws.{absent-names, loaded-kept}

-- ---- check by check

module _ (input : Input) (ps : List ℕ) where
  abbrev later : List (ℕ × Bool)
  later = plan_tests input ps ++ unit_tests input.units input.words

  -- what is refused of a stored table is refused with a plan, by the same number
  pub planned-stored : (stored_load_refusal input ≡ 0 → ⊥) → stored_load_refusal input ≡ planned_load_refusal input ps
  unfolding stored_refusal planned_load_refusal
  planned-stored h = sym (first_some (stored_tests input.units input.words input.levels) later h)

  -- where it passes, 17, 18 and 22 are left
  planned-later : stored_load_refusal input ≡ 0 → planned_load_refusal input ps ≡ first_of later
  unfolding stored_refusal planned_load_refusal
  planned-later e = first-none (stored_tests input.units input.words input.levels) later (omega arith) e

  pub planned_17 : stored_load_refusal input ≡ 0 → parents_differ input ps ≡ true → 17 ≡ planned_load_refusal input ps
  planned_17 e d = sym (planned-later e ∙ rw d refl)

  pub planned_18 : stored_load_refusal input ≡ 0 → parents_differ input ps ≡ false → parents_unfit input ps ≡ true →
      18 ≡ planned_load_refusal input ps
  planned_18 e d u = sym (planned-later e ∙ rw (d, u) refl)

  pub planned-last : stored_load_refusal input ≡ 0 → parents_differ input ps ≡ false → parents_unfit input ps ≡ false
      → fresh_refusal input.units input.words input.levels ≡ planned_load_refusal input ps
  unfolding stored_refusal fresh_refusal
  planned-last e d u =
      first-none (stored_tests input.units input.words input.levels) (unit_tests input.units input.words)
      (omega arith) e
      ∙ sym (planned-later e ∙ rw (d, u) refl)

-- ---- an accepted one

pub record PlanAccepted (input : Input) (ps : List ℕ) : Type 0 where
  pub stored : stored_load_refusal input ≡ 0
  pub long : length ps ≡ input.units
  pub fits : parents_unfit input ps ≡ false

pub plan-accepted : (input : Input) (ps : List ℕ) → planned_load_refusal input ps ≡ 0 → PlanAccepted input ps
plan-accepted input ps e = record {
  stored = stored;
  long = long (either (parents_differ input ps));
  fits = fits (either (parents_unfit input ps));
}
  where
    stored : stored_load_refusal input ≡ 0
    stored = go (ℕ_discrete (stored_load_refusal input) 0)
      where
        go : Dec (stored_load_refusal input ≡ 0) → stored_load_refusal input ≡ 0
        go (yes z) = z
        go (no h) = planned-stored input ps h ∙ e

    same : parents_differ input ps ≡ false
    same = go (either (parents_differ input ps))
      where
        go : (parents_differ input ps ≡ true) ⊎ (parents_differ input ps ≡ false) → parents_differ input ps ≡ false
        go (inl d) = absurd (omega (arith, planned_17 input ps stored d, e))
        go (inr d) = d

    long : (parents_differ input ps ≡ true) ⊎ (parents_differ input ps ≡ false) → length ps ≡ input.units
    long (inl d) = absurd (not_both (parents_differ input ps) d same)
    long (inr d) = eqb-true (length ps) input.units (not-false (eqb (length ps) input.units) d)

    fits : (parents_unfit input ps ≡ true) ⊎ (parents_unfit input ps ≡ false) → parents_unfit input ps ≡ false
    fits (inl u) = absurd (omega (arith, planned_18 input ps stored same u, e))
    fits (inr u) = u

module _ (input : Input) (ps : List ℕ) (a : PlanAccepted input ps) where
  p : Passes input.units input.words
  p = passes input.units input.words (table-alone input.units input.words input.levels a.stored)

  end_below : (v j : ℕ) → j < links_in input → ParentLink input.words ps v j → at ps v < input.units
  end_below v j l (inl e) = rw (sym e.1) (p.ends_exist (2 * j + 1) (omega (arith, p.pairs)))
  end_below v j l (inr e) = rw (sym e.1) (p.ends_exist (2 * j) (omega (arith, p.pairs)))

  -- a parent is a unit, or absent
  pub parent-names : (v : ℕ) → v < input.units → Names input.units (at ps v)
  parent-names v l = go (ℕ_discrete (at ps v) ABSENT) (either (some (links_in input) (parent_link input.words ps v)))
    where
      go : Dec (at ps v ≡ ABSENT) → (some (links_in input) (parent_link input.words ps v) ≡ true)
          ⊎ (some (links_in input) (parent_link input.words ps v) ≡ false)
          → Names input.units (at ps v)
      go (yes e) r = inr e
      go (no h) (inl t) = let (j, l, q) =
          (parent-linked (links_in input) input.words ps v).0 t in inl (end_below v j l q)
      go (no h) (inr f) =
          absurd
          (not_both (parents_unfit input ps)
          ((unfit_exact input.units (links_in input) input.words ps).1
          (inl (v, l, (h, λ w. not_both _ ((parent-linked (links_in input) input.words ps v).1 w) f)))) a.fits)

  plan-names : All (Names input.units) (parents_of ps)
  plan-names =
      all_append (Names input.units) ps _
      (all_of (Names input.units) ps 0 (λ i l. parent-names i (omega (arith, a.long))))
      (all_drop (Names input.units) (length ps) (absents 256) (absent-names input.units 256))

  pub planned-kept : Kept (planned_loaded input ps)
  unfolding planned_loaded loaded begun
  planned-kept =
      let k = loaded-kept input a.stored in
      record {
        few = k.few;
        passes = k.passes;
        from = k.from;
        to = k.to;
        made = k.made;
        rounds = k.rounds;
        requests = k.requests;
        unit_names = (
          k.unit_names.0,
          (
            k.unit_names.1.0,
            (k.unit_names.1.1.0, (k.unit_names.1.1.1.0, (k.unit_names.1.1.1.1.0, (plan-names, tt)))),
          ),
        );
        arc_names = k.arc_names;
        link_names = k.link_names;
        distances = k.distances;
        numbers = k.numbers;
        levels = k.levels;
        given = omega arith;
      }

  pub planned-well_formed : well_formed (planned_loaded input ps) ≡ true
  planned-well_formed = (kept-exact (planned_loaded input ps)).1 planned-kept
