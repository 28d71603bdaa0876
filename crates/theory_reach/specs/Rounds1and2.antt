-- Rounds of stages 1 and 2.
use Rattle.std.specs.Prelude.{◌≡◌, refl, Bool, true, false, cond, ◌||◌, ◌⊎◌, List, ℕ, suc, ◌+◌, ◌≤◌, ◌<◌, max, length}
use Rattle.std.proofs.Common.{sym, ◌∙◌, add-one}
use Rattle.std.proofs.Math.Path.{ap}
use Rattle.std.proofs.Math.Logic.{inl, inr}
use native.Mathlib.Omega.{arith}
use Rattle.base_lists.specs.Tests.{cond_true, cond_false}
use Rattle.spec_rules.specs.Basics.{ABSENT, at}
use Rattle.spec_rules.specs.Ceilings.{ceiling}
use Rattle.spec_rules.specs.Components.{color_round, color_ends}
use Rattle.spec_rules.specs.Tree.{parent_round, dist_round, tree_ends}
use Rattle.spec_machine.specs.State.{State}
use Rattle.spec_machine.specs.State.{MAX-REQUESTS, units, links}
use Rattle.spec_machine.specs.Step
use Rattle.spec_machine.specs.StageLaws.{ticked, step-at, ends-at, requests-at}
use Rattle.theory_reach.specs.Site.{Site}
use Rattle.theory_reach.specs.Rooted.{Rooted}
use Rattle.theory_reach.specs.Sized.{Sized}
use Rattle.theory_reach.specs.Colors
use Rattle.theory_reach.specs.BreadthFirst
use Rattle.theory_reach.specs.Planned.{Fits, depth_in, planned-rooted}
use Rattle.theory_reach.specs.Invariant.{Base, Fresh, PlanFits, Treed, In1, In2, In3, Reached, in1, in2, in3}
use Rattle.theory_reach.specs.Ticks.{Goes, goes-within, goes_over, goes-either, stage-on, made-on, stage-over}
use Rattle.theory_reach.specs.Ticks.{made-over, requests-next}

-- ---- stage 1

module _ (s : State) (b : Base s) (i : In1 s) where
  within_1 : s.clock.requests + Step.round_requests s ≤ MAX-REQUESTS
  within_1 = omega (arith, i.quiet, requests-at 1 s i.stage)

  color_room : units s ≤ length s.components.color
  color_room = omega (arith, b.site.few_units, b.sized.by_unit.0)

  rule_1 : Step.rule_ends s ≡ color_ends (units s) s.clock.made s.components.color
      (color_round (units s) (links s) s.clock.made s.table.ends s.components.color)
  unfolding Step.components
  rule_1 = ends-at 1 s i.stage

  quiet_1 : (last : Bool) → (Step.next_clock last (Step.round_requests s) s.clock).requests ≡ 0
  quiet_1 last =
      requests-next last (Step.round_requests s) s.clock (omega (arith, i.quiet, requests-at 1 s i.stage))
      ∙ omega (arith, i.quiet, requests-at 1 s i.stage)

  fresh_1 : Fresh (ticked s (Step.components s))
  unfolding Step.components
  fresh_1 = record { parents = i.fresh.parents; distances = i.fresh.distances }

  -- the stage goes on
  on_1 : Step.last_round s ≡ false → Colors.ColorsAt (units s) (links s) s.table.ends
      (color_round (units s) (links s) s.clock.made s.table.ends s.components.color) (suc s.clock.made)
      → Reached (ticked s (Step.components s))
  unfolding Step.components
  on_1 e c =
      in1
      (record {
        stage = stage-on (Step.last_round s) (Step.round_requests s) s.clock e ∙ i.stage;
        quiet = quiet_1 (Step.last_round s);
        plan = i.plan;
        fresh = fresh_1;
        colors = inr (rw (made-on (Step.last_round s) (Step.round_requests s) s.clock e) (
          omega arith,
          rw (add-one s.clock.made) c,
        ));
      })

  -- the stage is over
  over_1 : Step.last_round s ≡ true → Colors.Colored (units s) (links s) s.table.ends
      (color_round (units s) (links s) s.clock.made s.table.ends s.components.color)
      → Reached (ticked s (Step.components s))
  unfolding Step.components
  over_1 e c =
      in2
      (record {
        stage = stage-over (Step.last_round s) (Step.round_requests s) s.clock e ∙ omega (arith, i.stage);
        quiet = quiet_1 (Step.last_round s);
        plan = i.plan;
        colored = c;
        tree = inl (made-over (Step.last_round s) (Step.round_requests s) s.clock e, fresh_1);
      })

  pub goes_1 : Goes s
  goes_1 = go i.colors
    where
      go : (s.clock.made ≡ 0) ⊎ ((1 ≤ s.clock.made)
          × Colors.ColorsAt (units s) (links s) s.table.ends s.components.color s.clock.made) → Goes s
      go (inl z) =
          let rule : Step.rule_ends s ≡ false =
          rule_1 ∙ rw z (Colors.first-goes_on b.site s.components.color _) in
          goes-within s (Step.components s) within_1 (step-at 1 tt s i.stage) rule (rw i.stage (omega arith))
          (λ q. on_1 q (rw z (Colors.first b.site s.components.color color_room)))
      go (inr (l, c)) =
          goes-either s (Step.components s) within_1 (step-at 1 tt s i.stage) rule_1
          (λ r q. over_1 q (Colors.done b.site c l r))
          (λ r. (rw i.stage (omega (arith, Colors.bound b.site c l r)), λ q. on_1 q (Colors.next b.site c l)))

-- ---- stage 2

module _ (s : State) (b : Base s) (i : In2 s) where
  within_2 : s.clock.requests + Step.round_requests s ≤ MAX-REQUESTS
  within_2 = omega (arith, i.quiet, requests-at 2 s i.stage)

  parents' : List ℕ
  parents' = parent_round (units s) (links s) s.clock.made s.table.ends s.table.levels s.components.color
      s.tree.dist s.tree.parent

  dists' : List ℕ
  dists' = dist_round (units s) (links s) s.clock.made s.table.ends s.table.levels s.components.color
      s.tree.dist

  quiet_2 : (last : Bool) → (Step.next_clock last (Step.round_requests s) s.clock).requests ≡ 0
  quiet_2 last =
      requests-next last (Step.round_requests s) s.clock (omega (arith, i.quiet, requests-at 2 s i.stage))
      ∙ omega (arith, i.quiet, requests-at 2 s i.stage)

  on_2 : Step.last_round s ≡ false → BreadthFirst.TreeAt (units s) (links s) s.table.ends
      s.components.color parents' dists' (suc s.clock.made)
      → Reached (ticked s (Step.tree_searched s))
  unfolding Step.tree_searched parents' dists'
  on_2 e t =
      in2
      (record {
        stage = stage-on (Step.last_round s) (Step.round_requests s) s.clock e ∙ i.stage;
        quiet = quiet_2 (Step.last_round s);
        plan = i.plan;
        colored = i.colored;
        tree = inr (rw (made-on (Step.last_round s) (Step.round_requests s) s.clock e) (
          omega arith,
          rw (add-one s.clock.made) t,
        ));
      })

  over_2 : Step.last_round s ≡ true
      → Rooted (units s) (links s) s.table.ends s.components.color parents'
      (BreadthFirst.depth_of (units s) dists')
      × BreadthFirst.Leveled (links s) s.table.ends (BreadthFirst.depth_of (units s) dists')
      → Reached (ticked s (Step.tree_searched s))
  unfolding Step.tree_searched parents' dists'
  over_2 e (rooted, leveled) =
      in3
      (record {
        stage = stage-over (Step.last_round s) (Step.round_requests s) s.clock e ∙ omega (arith, i.stage);
        quiet = quiet_2 (Step.last_round s);
        treed =
            record {
              depth = BreadthFirst.depth_of (units s) dists';
              rooted = rooted;
              colored = i.colored;
            };
        tour = inl (made-over (Step.last_round s) (Step.round_requests s) s.clock e);
      })

  parent-room : units s ≤ length s.tree.parent
  parent-room = omega (arith, b.site.few_units, b.sized.by_unit.1.0)

  dist_room_lem : units s ≤ length s.tree.dist
  dist_room_lem = omega (arith, b.site.few_units, b.sized.by_unit.1.1.0)

  -- a planner's tree: one round takes it over
  over-planned : Step.last_round s ≡ true → Fits (units s) (links s) s.table.ends s.plan.parent →
      Reached (ticked s (Step.tree_planned s))
  unfolding Step.tree_planned
  over-planned e fits =
      in3
      (record {
        stage = stage-over (Step.last_round s) (Step.round_requests s) s.clock e ∙ omega (arith, i.stage);
        quiet = quiet_2 (Step.last_round s);
        treed =
            record {
              depth = depth_in (units s) s.plan.parent;
              rooted = planned-rooted b.site fits i.colored s.tree.parent
                  s.tree.dist parent-room dist_room_lem;
              colored = i.colored;
            };
        tour = inl (made-over (Step.last_round s) (Step.round_requests s) s.clock e);
      })

  goes-planned : Step.planned s ≡ true → Fits (units s) (links s) s.table.ends s.plan.parent → Goes s
  unfolding Step.tree
  goes-planned e fits =
      goes_over s (Step.tree_planned s) within_2 (step-at 2 tt s i.stage
      ∙ ap (ticked s) (cond_true (Step.planned s) (Step.tree_planned s) (Step.tree_searched s) e))
      (ends-at 2 s i.stage ∙ ap (λ (p : Bool). p
      || tree_ends (units s) (links s) s.clock.made s.table.ends s.table.levels s.components.color
      s.tree.dist) e)
      (λ q. over-planned q fits)

  -- the survey's own tree
  goes_searched : Step.planned s ≡ false → Goes s
  unfolding Step.tree parents' dists'
  goes_searched p = go i.tree
    where
      is : Step.step s ≡ ticked s (Step.tree_searched s)
      is = step-at 2 tt s i.stage ∙ ap (ticked s)
          (cond_false (Step.planned s) (Step.tree_planned s) (Step.tree_searched s) p)

      rule : Step.rule_ends s ≡ tree_ends (units s) (links s) s.clock.made s.table.ends s.table.levels
          s.components.color s.tree.dist
      rule = ends-at 2 s i.stage ∙ ap
          (λ (q : Bool). q || tree_ends (units s) (links s) s.clock.made s.table.ends s.table.levels
          s.components.color s.tree.dist) p

      Later : Type 0
      Later = (1 ≤ s.clock.made) × BreadthFirst.TreeAt (units s) (links s) s.table.ends s.components.color
          s.tree.parent s.tree.dist s.clock.made

      go : ((s.clock.made ≡ 0) × Fresh s) ⊎ Later → Goes s
      go (inl (z, f)) =
          let e : Step.rule_ends s ≡ false =
          rule ∙ rw z (BreadthFirst.first-goes_on b.site s.table.levels i.colored s.tree.dist) in
          let first = BreadthFirst.first b.site s.table.levels i.colored s.tree.parent
          s.tree.dist parent-room dist_room_lem f.parents f.distances in
          goes-within s (Step.tree_searched s) within_2 is e (rw i.stage (omega (arith, b.site.some_unit)))
          (λ q. on_2 q (rw z first))
      go (inr (l, t)) =
          goes-either s (Step.tree_searched s) within_2 is rule
          (λ r q. over_2 q (BreadthFirst.done b.site s.table.levels i.colored t l r))
          (λ r. (
            rw i.stage (omega (arith, BreadthFirst.bound b.site s.table.levels i.colored t l r)),
            λ q. on_2 q (BreadthFirst.next b.site s.table.levels i.colored t l),
          ))

  pub goes_2 : Goes s
  goes_2 = go i.plan
    where
      go : PlanFits s → Goes s
      go (inl p) = goes_searched p
      go (inr (p, fits)) = goes-planned p fits
