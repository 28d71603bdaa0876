-- The parent that a round of stage 2 stores is the best: proofs, from spec_rules/proofs/BestParent and what a kept
-- state is.
use Rattle.std.specs.Prelude.{◌≡◌, refl, Bool, true, false, cond, not, ◌&&◌, ◌⊎◌, ◌≢◌, ℕ, ◌+◌, ◌*◌, ◌≤◌, ◌<◌, eqb, leb}
use Rattle.std.specs.Prelude.{ℤ, pos, negsuc, length}
use Rattle.std.proofs.Common.{sym, subst, ◌∙◌, inl, inr, arith, get_or-take, eq-eqb, ne_eqb, leb-true}
use Rattle.std.proofs.Math.Path.{ap}
use Rattle.std.proofs.Math.Decide.{dec_lt}
use Rattle.std.proofs.Math.ListN.{get_or-eq_default}
use Rattle.std.specs.Int.Signed.{mag, le_z}
use Rattle.std.proofs.lemmas.Bool.{eqb-false, not-true}
use Rattle.base_lists.specs.All.{all-at}
use Rattle.base_lists.specs.Tables.{get_d_over}
use Rattle.base_lists.specs.Tests.{either, and_left, and_right, and-true, cond_true, cond_false}
use Rattle.table_levels.specs.Level.{HIGHEST, LOWEST, in_range}
use Rattle.table_levels.specs.LevelLaws.{InRange, range-exact, zero_range}
use Rattle.table.proofs.Passes.{Passes, passes}
use Rattle.spec_rules.specs.Basics.{ABSENT, at}
use Rattle.spec_rules.specs.Ceilings.{ceiling}
use Rattle.spec_rules.specs.Tree.{level_at, chosen_parent, visits, parent_round, dist_round}
use Rattle.spec_rules.proofs.ParentChoice.{Choice, nearer, nobody, chosen, visits-later}
use Rattle.spec_rules.proofs.BestParent.{Offers, Best, chosen-best}
use Rattle.spec_machine.specs.State.{State, units, links, words}
use Rattle.spec_machine.specs.Kept.{MadeOk, Kept}
use Rattle.spec_machine.specs.Step
use Rattle.spec_machine.specs.StageLaws.{ticked, step-at}
use Rattle.theory_reach.specs.Sized.{Sized}
use Rattle.theory_reach.specs.ParentsByLevel.{ParentsByLevel}

-- ---- levels in range are within 16 bits

range_small : (z : ℤ) → InRange z → mag z < 32768
unfolding in_range
range_small (pos a) h = omega (
  arith,
  leb-true a 0
      (and_right (le_z LOWEST (pos a)) (leb a 0) ((range-exact (pos a)).1 h)),
)
range_small (negsuc b) h = omega (
  arith,
  leb-true b 126 (and_left (leb b 126) (le_z (negsuc b) HIGHEST) ((range-exact (negsuc b)).1 h)),
)

-- ---- a kept state

module _ (s : State) (kept : Kept s) (sized : Sized s) (stage : s.clock.stage ≡ 2)
    (unplanned : Step.planned s ≡ false) (later : 1 ≤ s.clock.made) where
  table : Passes (units s) (words s)
  table = passes (units s) (words s) kept.passes

  -- an end of a link is a unit; past a table that is too short it is read as 0
  end-small : (i : ℕ) → i < 2 * links s → at s.table.ends i < ABSENT
  end-small i l = rw (← (get_or-take (2 * links s) s.table.ends i 0 l)) (go (dec_lt i (length (words s))))
    where
      go : Dec (i < length (words s)) → at (words s) i < ABSENT
      go (yes h) = omega (arith, table.ends_exist i h, table.few_units)
      go (no h) = omega (arith, get_or-eq_default (words s) 0 {n = i} (omega arith))

  made-small : s.clock.made < ABSENT
  made-small = go kept.made
    where
      go : MadeOk s → s.clock.made < ABSENT
      go (inl w) = absurd (omega (arith, w.0, stage))
      go (inr w) =
          let c : s.clock.made < ceiling (units s) 2 =
          subst (λ (k : ℕ). s.clock.made < ceiling (units s) k) stage w.1 in
          omega (arith, table.few_units)

  stepped : Step.step s ≡ ticked s (Step.tree_searched s)
  unfolding Step.tree
  stepped = step-at 2 tt s stage ∙ ap (ticked s)
      (cond_false (Step.planned s) (Step.tree_planned s) (Step.tree_searched s) unplanned)

  module _ (v : ℕ) (l : v < units s) where
    visit : Bool
    visit = visits (links s) s.clock.made s.table.ends s.table.levels s.components.color
        s.tree.dist v

    parent : ℕ
    parent = chosen_parent (links s) s.clock.made s.table.ends s.table.levels s.tree.dist v

    parent-stored : at (Step.step s).tree.parent v
        ≡ cond visit (cond (eqb s.clock.made 0) ABSENT parent) (at s.tree.parent v)
    unfolding Step.tree_searched parent_round visit parent
    parent-stored =
        ap (λ (t : State). at t.tree.parent v) stepped
        ∙ get_d_over (units s) _ s.tree.parent v 0 l (omega (arith, sized.by_unit.1.0, table.few_units))

    dist_stored : at (Step.step s).tree.dist v ≡ cond visit s.clock.made (at s.tree.dist v)
    unfolding Step.tree_searched dist_round visit
    dist_stored =
        ap (λ (t : State). at t.tree.dist v) stepped
        ∙ get_d_over (units s) _ s.tree.dist v 0 l (omega (arith, sized.by_unit.1.1.0, table.few_units))

    visit-exact : visit ≡ (eqb (at s.tree.dist v) ABSENT && not (eqb parent ABSENT))
    unfolding visit parent
    visit-exact = visits-later (links s) s.clock.made s.table.ends s.table.levels s.components.color
        s.tree.dist v later

    -- a visit is of an unvisited unit with a choice, and stores both
    visit-chosen : visit ≡ true → (parent ≢ ABSENT) × (at (Step.step s).tree.parent v ≡ parent)
        × (at (Step.step s).tree.dist v ≢ ABSENT)
    visit-chosen t = (
      eqb-false parent ABSENT (not-true (eqb parent ABSENT)
          (and_right (eqb (at s.tree.dist v) ABSENT) (not (eqb parent ABSENT)) (sym visit-exact ∙ t))),
      parent-stored ∙ cond_true visit _ _ t
          ∙ cond_false (eqb s.clock.made 0) ABSENT parent (ne_eqb s.clock.made 0 (λ e. omega arith)),
      λ e. omega (arith, made-small, dist_stored, cond_true visit s.clock.made (at s.tree.dist v) t),
    )

    unvisited : visit ≡ false → (at (Step.step s).tree.parent v ≡ at s.tree.parent v)
        × (at (Step.step s).tree.dist v ≡ at s.tree.dist v)
    unvisited f = (parent-stored ∙ cond_false visit _ _ f, dist_stored ∙ cond_false visit _ _ f)

    visits_it : at s.tree.dist v ≡ ABSENT → at (Step.step s).tree.dist v ≢ ABSENT → visit ≡ true
    visits_it a h = go (either visit)
      where
        go : (visit ≡ true) ⊎ (visit ≡ false) → visit ≡ true
        go (inl t) = t
        go (inr f) = absurd (h ((unvisited f).1 ∙ a))

    takes : at s.tree.dist v ≡ ABSENT → at (Step.step s).tree.dist v ≢ ABSENT
        → Best (links s) s.clock.made s.table.ends s.table.levels s.tree.dist v
        (at (Step.step s).tree.parent v)
    unfolding parent
    takes a h =
        let c = visit-chosen (visits_it a h) in
        rw c.1
        (chosen-best (links s) s.clock.made s.table.ends s.table.levels s.tree.dist
        (λ j k. end-small (2 * j) (omega arith)) (λ j k. end-small (2 * j + 1) (omega arith)) v
        c.0)

    visited : at s.tree.dist v ≡ ABSENT
        → (i : ℕ) × (w : ℕ) × Offers (links s) s.clock.made s.table.ends s.tree.dist v i w →
        at (Step.step s).tree.dist v ≢ ABSENT
    unfolding parent
    visited a (i, w, o) =
        go
        (chosen (links s) s.clock.made s.table.ends s.table.levels s.tree.dist
        (λ j k. end-small (2 * j) (omega arith)) (λ j k. end-small (2 * j + 1) (omega arith)) v)
      where
        go : Choice (links s) s.clock.made s.table.ends s.tree.dist v parent →
            at (Step.step s).tree.dist v ≢ ABSENT
        go (nobody e none) = absurd (none i w o.0 o.1 o.2)
        go (nearer c j k joins d) =
            (visit-chosen
            (visit-exact
            ∙ and-true (eqb (at s.tree.dist v) ABSENT) (not (eqb parent ABSENT))
            (eq-eqb (at s.tree.dist v) ABSENT a) (rw (ne_eqb parent ABSENT (λ e. omega arith)) refl))
            ).2

    stays : at s.tree.dist v ≢ ABSENT →
        (at (Step.step s).tree.parent v ≡ at s.tree.parent v)
        × (at (Step.step s).tree.dist v ≡ at s.tree.dist v)
    stays h = unvisited (visit-exact ∙ rw (ne_eqb (at s.tree.dist v) ABSENT h) refl)

pub parents-by_level : ParentsByLevel
parents-by_level s kept sized stage unplanned later v l =
    record {
      visited = λ a. (
        λ h.
            let b = takes s kept sized stage unplanned later v l a h in
            (b.link, at (Step.step s).tree.parent v, b.offered),
        visited s kept sized stage unplanned later v l a,
      );
      best = takes s kept sized stage unplanned later v l;
      stays = stays s kept sized stage unplanned later v l;
    }
