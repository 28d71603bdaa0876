-- From the load with a planner's table of parents (document 02, T-05): a start like any other.
use Rattle.std.specs.Prelude.{◌≡◌, refl, Bool, true, false, cond, ◌⊎◌, ◌↔◌, ◌≢◌, List, ◌++◌, ℕ, zero, suc, ◌+◌, ◌*◌}
use Rattle.std.specs.Prelude.{◌≤◌, ◌<◌, eqb, length, drop}
use Rattle.std.proofs.Common.{sym, ap, ◌∙◌, arith}
use Rattle.std.proofs.Math.Logic.{inl, inr}
use Rattle.std.proofs.Math.ListN.{get_or-append}
use Rattle.std.proofs.lemmas.Bool.{eqb-false}
use Rattle.base_lists.specs.Tests.{either}
use Rattle.spec_rules.specs.Basics.{ABSENT, at}
use Rattle.spec_rules.specs.BoundLaws.{Names}
use Rattle.spec_rules.specs.Planned.{top_of}
use Rattle.spec_machine.specs.State.{State}
use Rattle.spec_machine.specs.Load.{Input, links_in, stored_load_refusal, absents, ends_of, begun, loaded, parents_of}
use Rattle.spec_machine.specs.Load.{planned_load_refusal, planned_loaded}
use Rattle.spec_machine.specs.StepLaws.{first-countdown}
use Rattle.spec_machine.proofs.PlannedLoad.{PlanAccepted, plan-accepted, parent-names, planned-well_formed}
use Rattle.theory_reach.specs.Site.{Site, Link, link-below}
use Rattle.theory_reach.specs.Sized.{planned-sized}
use Rattle.theory_reach.specs.Planned.{Fits}
use Rattle.theory_reach.specs.PlanCause.{PlanCause}
use Rattle.theory_reach.specs.PlanCauseProof.{test_fits, plan-cause}
use Rattle.theory_reach.specs.Invariant.{Base, Reached, in1}
use Rattle.theory_reach.specs.Loaded.{same-links, site-words, absent-at, base-loaded}
use Rattle.theory_reach.specs.Started.{Started}

-- two tables of parents that agree on the units have the same tops, where parents are units
same-tops : (n : ℕ) (ps qs : List ℕ) → ((v : ℕ) → v < n → at ps v ≡ at qs v) → ((v : ℕ) → v < n → Names n (at ps v)) →
    (k v : ℕ) → v < n
    → top_of ps k v ≡ top_of qs k v
same-tops n ps qs same names zero v l = refl
same-tops n ps qs same names (suc k) v l =
    rw (sym (same v l)) (go (either (eqb (at ps v) ABSENT)) (same-tops n ps qs same names k (at ps v)))
  where
    below : eqb (at ps v) ABSENT ≡ false → Names n (at ps v) → at ps v < n
    below r (inl h) = h
    below r (inr h) = absurd (eqb-false (at ps v) ABSENT r h)

    go : (eqb (at ps v) ABSENT ≡ true) ⊎ (eqb (at ps v) ABSENT ≡ false) →
        (at ps v < n → top_of ps k (at ps v) ≡ top_of qs k (at ps v))
        → cond (eqb (at ps v) ABSENT) v (top_of ps k (at ps v)) ≡ cond (eqb (at ps v) ABSENT) v (top_of qs k (at ps v))
    go (inl e) later = rw e refl
    go (inr e) later = rw e (later (below e (names v l)))

module _ (input : Input) (ps : List ℕ) (a : PlanAccepted input ps) where
  -- the parents in the state's array are the planner's
  parent-at : (v : ℕ) → v < input.units → at ps v ≡ at (parents_of ps) v
  parent-at v l = sym (get_or-append ps (drop (length ps) (absents 256)) 0 v (omega (arith, a.long)))

  top-at : (v : ℕ) → v < input.units → top_of ps input.units v ≡ top_of (parents_of ps) input.units v
  top-at v l = same-tops input.units ps (parents_of ps) parent-at (parent-names input ps a) input.units v l

  plan-fits : Fits input.units (links_in input) (ends_of input.words) (parents_of ps)
  plan-fits =
      record {
        least = λ v l. rw (sym (top-at v l)) (F.least v l);
        linked =
            λ v l h.
            let there = (same-links input a.stored v (at ps v)).1
            (F.linked v l (λ e. h (sym (parent-at v l) ∙ e))) in
            rw (sym (parent-at v l)) there;
        together =
            λ u v k.
            let link = (same-links input a.stored u v).0 k in
            let (lu, lv) = link-below (site-words input a.stored) u v link in
            sym (top-at u lu) ∙ F.together u v link ∙ top-at v lv;
      }
    where
      F : Fits input.units (links_in input) input.words ps
      F = test_fits input.units (links_in input) input.words ps a.fits

  few : length ps ≤ 256
  few = omega (arith, a.long, (site-words input a.stored).few_units)

  base-planned : Base (planned_loaded input ps)
  unfolding planned_loaded loaded begun
  base-planned = let b = base-loaded input a.stored in record { site = b.site; sized = planned-sized input ps few }

  reached-planned : Reached (planned_loaded input ps)
  unfolding planned_loaded loaded begun
  reached-planned =
      in1
      (record {
        stage = refl;
        quiet = refl;
        plan = inr (refl, plan-fits);
        fresh = record { parents = absent-at input a.stored; distances = absent-at input a.stored };
        colors = inl refl;
      })

-- 18 at this load: not given exactly where document 02 asks nothing more of the parents
pub eighteen-cause : (input : Input) (ps : List ℕ) → stored_load_refusal input ≡ 0 →
    PlanCause input.units (links_in input) input.words ps
eighteen-cause input ps e = plan-cause (site-words input e) ps

pub planned-started : (input : Input) (ps : List ℕ) → planned_load_refusal input ps ≡ 0 →
    Started input (planned_loaded input ps)
unfolding planned_loaded loaded begun
planned-started input ps accepted =
    let a = plan-accepted input ps accepted in
    record {
      accepted = a.stored;
      table = refl;
      base = base-planned input ps a;
      reached = reached-planned input ps a;
      kept = planned-well_formed input ps a;
      shown = first-countdown input a.stored;
      unmade = refl;
    }
