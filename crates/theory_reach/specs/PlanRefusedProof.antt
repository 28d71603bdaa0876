-- 18 is given exactly for its cause: proofs. Of a table of parents that some unit doesn't spoil, chains stay among the
-- units, so `steps-to` decides where they end.
use Rattle.std.specs.Prelude.{◌≡◌, refl, Bool, true, false, cond, ◌⊎◌, ◌↔◌, ◌≢◌, List, [], ◌∷◌, ℕ, zero, suc, ◌<◌, eqb}
use Rattle.std.specs.Prelude.{length}
use Rattle.std.proofs.Common.{sym, ◌∙◌, inl, inr, arith, eqb-true, eq-eqb}
use Rattle.std.proofs.Math.Decide.{ℕ_discrete}
use Rattle.std.proofs.lemmas.Bool.{not-false}
use Rattle.base_lists.specs.Below.{below_suc}
use Rattle.base_lists.specs.Folds.{some}
use Rattle.base_lists.specs.Tests.{either, not_both}
use Rattle.table.specs.Refusals.{first_of}
use Rattle.table.specs.Table.{stored_tests, fresh_tests, stored_refusal, fresh_refusal}
use Rattle.spec_rules.specs.Basics.{ABSENT, at}
use Rattle.spec_rules.specs.BoundLaws.{Names}
use Rattle.spec_rules.specs.Planned.{steps_to, parent_link}
use Rattle.spec_rules.specs.PlannedLaws.{ParentLink, parent-linked, steps-few}
use Rattle.spec_state.specs.declared.reply.Reply.TheVariants.{Done}
use Rattle.spec_machine.specs.Load.{Input, links_in, stored_load_refusal, parents_differ, parents_unfit}
use Rattle.spec_machine.specs.Load.{planned_load_refusal}
use Rattle.spec_machine.specs.Load.{planned_loaded}
use Rattle.spec_machine.specs.Calls.{planned_load_answer}
use Rattle.spec_machine.specs.AnswerLaws.{answered-number}
use Rattle.spec_machine.proofs.PlannedLoad.{planned-stored, planned_17, planned_18, planned-last}
use Rattle.theory_reach.specs.Site.{Site, Link, link-below}
use Rattle.theory_reach.specs.Colors.{Colored}
use Rattle.theory_reach.specs.PlanCause.{Climbs, Drawn, PlanCause}
use Rattle.theory_reach.specs.PlannedSteps.{StepsTo}
use Rattle.theory_reach.specs.PlannedStepsProof.{steps-to}
use Rattle.theory_reach.specs.Loaded.{site-words}
use Rattle.theory_reach.specs.PlannedStart.{eighteen-cause}
use Rattle.theory_reach.specs.PlanRefused.{Misdrawn, Cause18, Eighteen, EighteenReplied}

-- ---- a table of parents is drawn as asked, or some unit says why not

some_or_all : (n : ℕ) (P Q : ℕ → Type 0) → ((i : ℕ) → i < n → P i ⊎ Q i) →
    ((i : ℕ) → i < n → P i) ⊎ ((i : ℕ) × (i < n) × Q i)
some_or_all zero P Q h = inl (λ i l. absurd (omega arith))
some_or_all (suc n) P Q h = go (some_or_all n P Q (λ i l. h i (omega arith))) (h n (omega arith))
  where
    go : ((i : ℕ) → i < n → P i) ⊎ ((i : ℕ) × (i < n) × Q i) → P n ⊎ Q n →
        ((i : ℕ) → i < suc n → P i) ⊎ ((i : ℕ) × (i < suc n) × Q i)
    go (inl all) (inl here) = inl (below_suc P n all here)
    go (inl all) (inr q) = inr (n, omega arith, q)
    go (inr (i, l, q)) w = inr (i, omega arith, q)

-- a parent where one is due, and none where not
abbrev Parented : ℕ → List ℕ → List ℕ → List ℕ → ℕ → Type 0
Parented m ends color ps v = (at color v ≡ v → at ps v ≡ ABSENT) × (at color v ≢ v → Link m ends v (at ps v))

module _ {n m : ℕ} {ends color : List ℕ} (site : Site n m ends) (colored : Colored n m ends color) (ps : List ℕ) where
  parented : (v : ℕ) → Parented m ends color ps v ⊎ Misdrawn m ends color ps v
  parented v = go (ℕ_discrete (at color v) v) (ℕ_discrete (at ps v) ABSENT) (either (some m (parent_link ends ps v)))
    where
      link : (j : ℕ) × (j < m) × ParentLink ends ps v j → Link m ends v (at ps v)
      link (j, l, inl e) = (j, l, inl e)
      link (j, l, inr e) = (j, l, inr (e.1, e.0))

      back : Link m ends v (at ps v) → (j : ℕ) × (j < m) × ParentLink ends ps v j
      back (j, l, inl e) = (j, l, inl e)
      back (j, l, inr e) = (j, l, inr (e.1, e.0))

      go : Dec (at color v ≡ v) → Dec (at ps v ≡ ABSENT) →
          (some m (parent_link ends ps v) ≡ true) ⊎ (some m (parent_link ends ps v) ≡ false)
          → Parented m ends color ps v ⊎ Misdrawn m ends color ps v
      go (yes c) (yes a) t = inl (λ e. a, λ h. absurd (h c))
      go (yes c) (no a) t = inr (inl (c, a))
      go (no c) a (inl t) = inl (λ e. absurd (c e), λ h. link ((parent-linked m ends ps v).0 t))
      go (no c) a (inr f) = inr (inr (
        c,
        inl (λ k. not_both (some m (parent_link ends ps v)) ((parent-linked m ends ps v).1 (back k)) f),
      ))

  drawn_or_not : Drawn n m ends color ps ⊎ ((v : ℕ) × (v < n) × Misdrawn m ends color ps v)
  drawn_or_not = go (some_or_all n (Parented m ends color ps) (Misdrawn m ends color ps) (λ v l. parented v))
    where
      Arrives : ℕ → Type 0
      Arrives v = at color v ≢ v → (k : ℕ) × Climbs ps (at color v) k v

      go : ((v : ℕ) → v < n → Parented m ends color ps v) ⊎ ((v : ℕ) × (v < n) × Misdrawn m ends color ps v)
          → Drawn n m ends color ps ⊎ ((v : ℕ) × (v < n) × Misdrawn m ends color ps v)
      go (inr w) = inr w
      go (inl all) = on (some_or_all n Arrives (Misdrawn m ends color ps) arrives)
        where
          names : (v : ℕ) → v < n → Names n (at ps v)
          names v l = by (ℕ_discrete (at color v) v)
            where
              by : Dec (at color v ≡ v) → Names n (at ps v)
              by (yes c) = inr ((all v l).0 c)
              by (no c) = inl (link-below site v (at ps v) ((all v l).1 c)).1

          arrives : (v : ℕ) → v < n → Arrives v ⊎ Misdrawn m ends color ps v
          arrives v l = by (ℕ_discrete (at color v) v) (steps-few ps (at color v) n v)
            where
              s : StepsTo ps (at color v) v (steps_to ps (at color v) n v)
              s = steps-to n ps names (at color v) (omega (arith, site.few_units)) v l

              by : Dec (at color v ≡ v) → (steps_to ps (at color v) n v < n) ⊎ (steps_to ps (at color v) n v ≡ ABSENT) →
                  Arrives v ⊎ Misdrawn m ends color ps v
              by (yes c) w = inl (λ h. absurd (h c))
              by (no c) (inl b) = inl (λ h. (
                steps_to ps (at color v) n v,
                ((s.steps (steps_to ps (at color v) n v) (omega (arith, site.few_units))).0 refl).there,
              ))
              by (no c) (inr a) = inr (inr (c, inr (s.absent.0 a)))

          on : ((v : ℕ) → v < n → Arrives v) ⊎ ((v : ℕ) × (v < n) × Misdrawn m ends color ps v)
              → Drawn n m ends color ps ⊎ ((v : ℕ) × (v < n) × Misdrawn m ends color ps v)
          on (inr w) = inr w
          on (inl come) = inl (record {
            colourless = λ v l. (all v l).0;
            neighbour = λ v l. (all v l).1;
            arrives =
                come;
          })

  not_drawn : Drawn n m ends color ps → (v : ℕ) → v < n → Misdrawn m ends color ps v → ⊥
  not_drawn d v l (inl (c, h)) = h (d.colourless v l c)
  not_drawn d v l (inr (c, inl h)) = h (d.neighbour v l c)
  not_drawn d v l (inr (c, inr h)) = let k = d.arrives v l c in h k.0 k.1

  -- a table of parents is not drawn as asked exactly where some unit is misdrawn
  pub misdrawn_exact : (Drawn n m ends color ps → ⊥) ↔ ((v : ℕ) × (v < n) × Misdrawn m ends color ps v)
  misdrawn_exact = (λ h. go h drawn_or_not, λ (v, l, w) d. not_drawn d v l w)
    where
      go : (Drawn n m ends color ps → ⊥) → Drawn n m ends color ps ⊎ ((v : ℕ) × (v < n) × Misdrawn m ends color ps v)
          → (v : ℕ) × (v < n) × Misdrawn m ends color ps v
      go h (inl d) = absurd (h d)
      go h (inr w) = w

-- ---- the numbers of the other tests

-- no test of the list has the number k
abbrev Lacks : ℕ → List (ℕ × Bool) → Type 0
Lacks k [] = 0 ≢ k
Lacks k (t ∷ ts) = (t.0 ≢ k) × Lacks k ts

lacks-step : (b : Bool) (i j k : ℕ) → i ≢ k → j ≢ k → cond b i j ≢ k
lacks-step true i j k p q = p
lacks-step false i j k p q = q

lacks : (k : ℕ) (ts : List (ℕ × Bool)) → Lacks k ts → first_of ts ≢ k
lacks k [] h = h
lacks k (t ∷ ts) h = lacks-step t.1 t.0 (first_of ts) k h.0 (lacks k ts h.1)

stored_not_18 : (input : Input) → stored_load_refusal input ≢ 18
unfolding stored_refusal
stored_not_18 input = lacks 18 (stored_tests input.units input.words input.levels) (omega arith)

fresh_not_18 : (input : Input) → fresh_refusal input.units input.words input.levels ≢ 18
unfolding fresh_refusal
fresh_not_18 input = lacks 18 (fresh_tests input.units input.words input.levels) (omega arith)

pub eighteen : Eighteen
eighteen input ps = (to, from)
  where
    to : planned_load_refusal input ps ≡ 18 → Cause18 input ps
    to e = stored (ℕ_discrete (stored_load_refusal input) 0)
      where
        stored : Dec (stored_load_refusal input ≡ 0) → Cause18 input ps
        stored (no h) = absurd (stored_not_18 input (planned-stored input ps h ∙ e))
        stored (yes z) = long (either (parents_differ input ps))
          where
            long : (parents_differ input ps ≡ true) ⊎ (parents_differ input ps ≡ false) → Cause18 input ps
            long (inl d) = absurd (omega (arith, planned_17 input ps z d, e))
            long (inr d) = drawn (either (parents_unfit input ps))
              where
                drawn : (parents_unfit input ps ≡ true) ⊎ (parents_unfit input ps ≡ false)
                    → Cause18 input ps
                drawn (inl u) = (
                  z,
                  eqb-true (length ps) input.units (not-false (eqb (length ps) input.units) d),
                  (c.colors.0, c.colors.1, fault (drawn_or_not (site-words input z) c.colors.1 ps)),
                )
                  where
                    c : PlanCause input.units (links_in input) input.words ps
                    c = eighteen-cause input ps z

                    fault : Drawn input.units (links_in input) input.words c.colors.0 ps
                        ⊎ ((v : ℕ) × (v < input.units) × Misdrawn (links_in input) input.words c.colors.0 ps v)
                        → (v : ℕ) × (v < input.units) × Misdrawn (links_in input) input.words c.colors.0 ps v
                    fault (inl w) = absurd
                        (not_both (parents_unfit input ps) u ((c.exact c.colors.0 c.colors.1).1 w))
                    fault (inr w) = w
                drawn (inr u) = absurd (fresh_not_18 input (planned-last input ps z d u ∙ e))

    from : Cause18 input ps → planned_load_refusal input ps ≡ 18
    from (z, l, (color, colored, (v, b, h))) = go (either (parents_unfit input ps))
      where
        go : (parents_unfit input ps ≡ true) ⊎ (parents_unfit input ps ≡ false) → planned_load_refusal input ps ≡ 18
        go (inl u) = sym (planned_18 input ps z (rw (eq-eqb (length ps) input.units l) refl) u)
        go (inr u) = absurd (not_drawn (site-words input z) colored ps
            (((eighteen-cause input ps z).exact color colored).0 u) v b h)

-- as the call replies
pub eighteen_replied : EighteenReplied
unfolding planned_load_answer
eighteen_replied input ps s =
    let same = answered-number (planned_load_refusal input ps) s (planned_loaded input ps) Done refl in
    (λ e. (eighteen input ps).0 (sym same ∙ e), λ w. same ∙ (eighteen input ps).1 w)
