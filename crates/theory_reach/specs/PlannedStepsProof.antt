-- The steps along a planner's table of parents, counted: proofs. Before a chain meets c no unit comes twice, so n units
-- are enough to look at.
use Rattle.std.specs.Prelude.{◌≡◌, true, cond, ◌⊎◌, ◌≢◌, List, [], ◌∷◌, eqb, length}
use Rattle.std.proofs.Math.Path.{refl, ap}
use Rattle.std.proofs.Common.{sym, subst, ◌∙◌, inl, inr, eq-eqb, ne_eqb}
use Prim.Native.Nat.{ℕ, zero, suc, ◌+◌, ◌≤◌, ◌<◌}
use Rattle.std.proofs.Math.Decide.{ℕ_discrete}
use native.Mathlib.Omega.{arith}
use Rattle.base_lists.specs.Counts.{count_le}
use Rattle.base_lists.specs.Members.{Mem, Distinct}
use Rattle.base_lists.specs.Pigeonhole.{pigeonhole}
use Rattle.base_lists.specs.Tables.{get_d_over}
use Rattle.base_lists.specs.Tests.{cond_true, cond_false}
use Rattle.spec_rules.specs.Basics.{ABSENT, at}
use Rattle.table.proofs.Passes.{Passes, passes}
use Rattle.spec_rules.specs.BoundLaws.{Names, names_at}
use Rattle.spec_rules.specs.Planned.{onward, steps_to, planned_dists}
use Rattle.spec_machine.specs.State.{State, units, words}
use Rattle.spec_machine.specs.Step
use Rattle.spec_machine.specs.StageLaws.{ticked, step-at}
use Rattle.theory_reach.specs.PlanCause.{Climbs, here, up}
use Rattle.theory_reach.specs.PlannedSteps.{Meets, StepsTo, PlannedDistances}

-- ---- the first k units of a chain

-- c is among them, or it is not
abbrev Within : List ℕ → ℕ → ℕ → ℕ → Type 0
Within plan c k v =
    ((j : ℕ) × (j < k) × Meets plan c j v × (steps_to plan c k v ≡ j))
    ⊎ (((j : ℕ) → j < k → Climbs plan c j v → ⊥) × (steps_to plan c k v ≡ ABSENT))

module _ (plan : List ℕ) (c : ℕ) where
  onward-absent : onward ABSENT ≡ ABSENT
  onward-absent = refl

  onward-some : (x : ℕ) → x < ABSENT → onward x ≡ suc x
  onward-some x l = cond_false (eqb x ABSENT) ABSENT (x + 1) (ne_eqb x ABSENT (omega arith)) ∙ omega arith

  first-up : (k v : ℕ) → v ≢ c → Meets plan c k (at plan v) → (j : ℕ) → Climbs plan c j v → suc k ≤ j
  first-up k v d w j (here e) = absurd (d e)
  first-up k v d w (suc j) (up h q) = omega (arith, w.first j q)

  within : (k v : ℕ) → k ≤ ABSENT → Within plan c k v
  within zero v few = inr (λ j l q. absurd (omega arith), refl)
  within (suc k) v few = go (ℕ_discrete v c) (ℕ_discrete (at plan v) ABSENT) (within k (at plan v) (omega arith))
    where
      later : ℕ
      later = onward (steps_to plan c k (at plan v))

      on : v ≢ c → at plan v ≢ ABSENT → steps_to plan c (suc k) v ≡ later
      on d h =
          cond_false (eqb v c) 0 (cond (eqb (at plan v) ABSENT) ABSENT later) (ne_eqb v c d)
          ∙ cond_false (eqb (at plan v) ABSENT) ABSENT later (ne_eqb (at plan v) ABSENT h)

      go : Dec (v ≡ c) → Dec (at plan v ≡ ABSENT) → Within plan c k (at plan v) → Within plan c (suc k) v
      go (yes e) h w =
          inl (
            zero,
            omega arith,
            record { there = here e; first = λ j q. omega arith },
            cond_true (eqb v c) 0 (cond (eqb (at plan v) ABSENT) ABSENT later) (eq-eqb v c e),
          )
      go (no d) (yes a) w =
          inr (
            ended,
            cond_false (eqb v c) 0 (cond (eqb (at plan v) ABSENT) ABSENT later) (ne_eqb v c d)
                ∙ cond_true (eqb (at plan v) ABSENT) ABSENT later (eq-eqb (at plan v) ABSENT a),
          )
        where
          ended : (j : ℕ) → j < suc k → Climbs plan c j v → ⊥
          ended j l (here e) = d e
          ended j l (up h q) = h a
      go (no d) (no h) (inl (j, l, w, e)) =
          inl (
            suc j,
            omega arith,
            record { there = up h w.there; first = first-up j v d w },
            on d h ∙ ap onward e ∙ onward-some j (omega arith),
          )
      go (no d) (no h) (inr (none, e)) = inr (further, on d h ∙ ap onward e)
        where
          further : (j : ℕ) → j < suc k → Climbs plan c j v → ⊥
          further j l (here f) = d f
          further (suc j) l (up g q) = none j (omega arith) q

-- ---- a chain that meets c does so within n units: before that no unit comes twice

module _ (n : ℕ) (plan : List ℕ) (names : (v : ℕ) → v < n → Names n (at plan v)) (c : ℕ) where
  onto-next : (k v : ℕ) → v < n → Meets plan c (suc k) v → (at plan v < n) × Meets plan c k (at plan v)
  onto-next k v l w = go w.there (names v l)
    where
      go : Climbs plan c (suc k) v → Names n (at plan v) → (at plan v < n) × Meets plan c k (at plan v)
      go (up h q) (inl b) = (
        b,
        record {
          there = q;
          first = λ j r. let s : suc k ≤ suc j = w.first (suc j) (up h r) in omega arith;
        },
      )
      go (up h q) (inr a) = absurd (h a)

  trail : ℕ → ℕ → List ℕ
  trail zero v = v ∷ []
  trail (suc k) v = v ∷ trail k (at plan v)

  trail-length : (k v : ℕ) → length (trail k v) ≡ suc k
  unfolding trail
  trail-length zero v = refl
  trail-length (suc k) v = ap suc (trail-length k (at plan v))

  trail-members : (k v : ℕ) → v < n → Meets plan c k v → (z : ℕ) → Mem z (trail k v) →
      (z < n) × ((j : ℕ) × (j ≤ k) × Meets plan c j z)
  unfolding trail
  trail-members zero v l w z (inl f) = rw f (l, (zero, omega arith, w))
  trail-members zero v l w z (inr f) = absurd f
  trail-members (suc k) v l w z (inl f) = rw f (l, (suc k, omega arith, w))
  trail-members (suc k) v l w z (inr f) =
      let u = onto-next k v l w in
      let r = trail-members k (at plan v) u.0 u.1 z f in
      (r.0, (r.1.0, let i : r.1.0 ≤ k = r.1.1 in omega arith, r.1.2))

  trail-different : (k v : ℕ) → v < n → Meets plan c k v → Distinct (trail k v)
  unfolding trail
  trail-different zero v l w = (λ m. m, tt)
  trail-different (suc k) v l w =
      let u = onto-next k v l w in (
        λ m.
            let r = (trail-members k (at plan v) u.0 u.1 v m).1 in
            let i : r.0 ≤ k = r.1 in
            let f : suc k ≤ r.0 = w.first r.0 r.2.there in
            omega arith,
        trail-different k (at plan v) u.0 u.1,
      )

  short : (k v : ℕ) → v < n → Meets plan c k v → k < n
  short k v l w =
      omega (
        arith,
        pigeonhole (λ i. true) n (trail k v) (trail-different k v l w)
            (λ z m. record { below = (trail-members k v l w z m).0; passes = refl }),
        count_le n (λ i. true),
        trail-length k v,
      )

  -- a chain that meets c does so a first time
  meeting : (j v : ℕ) → Climbs plan c j v → (k : ℕ) × Meets plan c k v
  meeting j v (here e) = (zero, record { there = here e; first = λ i q. omega arith })
  meeting (suc j) v (up h q) = go (ℕ_discrete v c) (meeting j (at plan v) q)
    where
      go : Dec (v ≡ c) → (k : ℕ) × Meets plan c k (at plan v) → (k : ℕ) × Meets plan c k v
      go (yes e) r = (zero, record { there = here e; first = λ i q. omega arith })
      go (no d) (k, w) = (suc k, record { there = up h w.there; first = first-up plan c k v d w })

  pub steps-to : n ≤ ABSENT → (v : ℕ) → v < n → StepsTo plan c v (steps_to plan c n v)
  steps-to few v l = go (within plan c n v few)
    where
      go : Within plan c n v → StepsTo plan c v (steps_to plan c n v)
      go (inl (j, b, w, e)) =
          record {
            steps = λ k h. (
              λ f. subst (λ (i : ℕ). Meets plan c i v) (sym e ∙ f) w,
              λ m. omega (arith, e, m.first j w.there, w.first k m.there),
            );
            absent = (λ f. absurd (omega (arith, e)), λ never. absurd (never j w.there));
          }
      go (inr (none, e)) =
          record {
            steps = λ k h. (λ f. absurd (omega (arith, e)), λ m. absurd (none k (short k v l m) m.there));
            absent = (
              λ f j q. let r = meeting j v q in none r.0 (short r.0 v l r.1) r.1.there,
              λ never. e,
            );
          }

-- ---- stage 2's round with a plan, of any kept state

pub planned-distance : PlannedDistances
unfolding Step.tree Step.tree_planned planned_dists
planned-distance s kept sized stage given v l =
    subst (λ (x : ℕ). StepsTo plan c v x) (sym stored)
    (steps-to n plan (λ u b. names_at n plan u table.some_unit kept.unit_names.1.1.1.1.1.0) c
    (omega (arith, table.few_units)) v l)
  where
    n : ℕ
    n = units s

    plan : List ℕ
    plan = s.plan.parent

    c : ℕ
    c = at s.components.color v

    table : Passes (units s) (words s)
    table = passes (units s) (words s) kept.passes

    stored : at (Step.step s).tree.dist v ≡ steps_to plan c n v
    stored =
        ap (λ (t : State). at t.tree.dist v) (step-at 2 tt s stage
        ∙ ap (ticked s) (cond_true (Step.planned s) (Step.tree_planned s) (Step.tree_searched s) given))
        ∙ get_d_over n _ s.tree.dist v 0 l (omega (arith, sized.by_unit.1.1.0, table.few_units))
