-- A round keeps a state well formed: the state after a step of a kept, unfinished state is kept.
use Rattle.std.specs.Prelude.{◌≡◌, refl, Bool, cond, ◌||◌, ◌⊎◌, List, leb, take}
use Rattle.std.proofs.Common.{sym, ap, ◌∙◌}
use Rattle.std.proofs.Math.Bool.{true, false}
use Rattle.std.proofs.Math.Logic.{inl, inr}
use Prim.Native.Nat.{ℕ, ◌+◌, ◌*◌, ◌≤◌, ◌<◌, min, max}
use Rattle.std.proofs.Math.Decide.{ℕ_discrete}
use native.Mathlib.Omega.{arith}
use borrow.Author.Tests.{eqb-true, eqb-false, ne_eqb, leb-false}
use Rattle.base_lists.specs.All.{All}
use Rattle.base_lists.specs.Tests.{either, or_false-right}
use Rattle.table.specs.Table.{stored_refusal}
use Rattle.table.proofs.Passes.{Passes, passes}
use Rattle.spec_rules.specs.Basics.{ABSENT, MAX-NUMBER}
use Rattle.spec_rules.specs.BoundLaws.{Names, Number, Distance}
use Rattle.base_lists.specs.FoldLaws.{min_picks, max_picks}
use Rattle.spec_rules.specs.Ceilings.{ceiling}
use Rattle.spec_rules.specs.CeilingLaws.{ceiling-positive, ceiling-small}
use Rattle.spec_rules.specs.PlannedLaws.{planned-names, planned-distances}
use Rattle.spec_rules.specs.RoundBounds
use Rattle.spec_machine.specs.State.{State}
use Rattle.spec_state.specs.declared.groups.Clock.{Clock}
use Rattle.spec_machine.specs.State.{units, links, words, finished, FINISHED, MAX-ROUNDS, MAX-REQUESTS, with_clock}
use Rattle.spec_machine.specs.WellFormed.{unit_tables, arc_tables, link_tables, dist_tables, number_tables}
use Rattle.spec_machine.specs.Kept.{Kept, MadeOk}
use Rattle.spec_machine.specs.Step
use Rattle.spec_machine.specs.StageLaws.{each-round}

-- the tables of s' are within the bounds of s, and its table of links is that of s
pub record Moved (s s' : State) : Type 0 where
  pub table : s'.table ≡ s.table
  pub unit_names : All (All (Names (units s))) (unit_tables s')
  pub arc_names : All (All (Names (2 * units s))) (arc_tables s')
  pub link_names : All (All (Names (links s))) (link_tables s')
  pub distances : All (All Distance) (dist_tables s')
  pub numbers : All (All Number) (number_tables s')
  pub plan : s'.plan ≡ s.plan

-- the stage is 1 to 11, and its rounds are below its ceiling, zero at stage 11
abbrev pub Fits : ℕ → ℕ → ℕ → Type 0
Fits n stage made =
    (1 ≤ stage) × (stage ≤ FINISHED) × (((stage ≡ FINISHED) × (made ≡ 0))
    ⊎ ((stage ≡ FINISHED → ⊥) × (made < ceiling n stage)))

module _ (s : State) (k : Kept s) (open' : s.clock.stage ≡ FINISHED → ⊥) where
  site : Passes (units s) (words s)
  site = passes (units s) (words s) k.passes

  some : 0 < units s
  some = site.some_unit

  few : units s ≤ 256
  few = site.few_units

  pub made-below : s.clock.made < ceiling (units s) s.clock.stage
  made-below = go k.made
    where
      go : MadeOk s → s.clock.made < ceiling (units s) s.clock.stage
      go (inl e) = absurd (open' e.0)
      go (inr e) = e.1

  pub stage-small : s.clock.stage ≤ 10
  stage-small = omega (arith, k.to, open')

  made-small : s.clock.made ≤ MAX-NUMBER
  made-small = omega (arith, made-below, ceiling-small (units s) s.clock.stage few k.from stage-small)

  small-absent : units s ≤ ABSENT
  small-absent = omega (arith, few)

  small-number : units s ≤ MAX-NUMBER
  small-number = omega (arith, few)

  -- ---- the tables of each stage

  components-moved : Moved s (Step.components s)
  unfolding Step.components
  components-moved =
      record {
        table = refl;
        plan = refl;
        unit_names = (
          k.unit_names.0,
          (
            RoundBounds.color_names (units s) (links s) s.clock.made s.table.ends
                s.components.color some k.unit_names.1.0,
            k.unit_names.1.1,
          ),
        );
        arc_names = k.arc_names;
        link_names = k.link_names;
        distances = k.distances;
        numbers = k.numbers;
      }

  tree_searched-moved : Moved s (Step.tree_searched s)
  unfolding Step.tree_searched
  tree_searched-moved =
      record {
        table = refl;
        plan = refl;
        unit_names = (
          k.unit_names.0,
          (
            k.unit_names.1.0,
            (
              RoundBounds.parent-names (units s) (links s) s.clock.made s.table.ends s.table.levels
                  s.components.color s.tree.dist s.tree.parent small-absent some k.unit_names.0
                  k.unit_names.1.1.0,
              k.unit_names.1.1.1,
            ),
          ),
        );
        arc_names = k.arc_names;
        link_names = k.link_names;
        distances = (
          RoundBounds.dist_distances (units s) (links s) s.clock.made s.table.ends s.table.levels
              s.components.color s.tree.dist made-small k.distances.0,
          tt,
        );
        numbers = k.numbers;
      }

  tree_planned-moved : Moved s (Step.tree_planned s)
  unfolding Step.tree_planned
  tree_planned-moved =
      record {
        table = refl;
        plan = refl;
        unit_names = (
          k.unit_names.0,
          (
            k.unit_names.1.0,
            (
              planned-names (units s) s.plan.parent s.tree.parent some k.unit_names.1.1.1.1.1.0
                  k.unit_names.1.1.0,
              k.unit_names.1.1.1,
            ),
          ),
        );
        arc_names = k.arc_names;
        link_names = k.link_names;
        distances = (
          planned-distances (units s) s.plan.parent s.components.color s.tree.dist small-number
              k.distances.0,
          tt,
        );
        numbers = k.numbers;
      }

  tour_next-moved : Moved s (Step.tour_next s)
  unfolding Step.tour_next
  tour_next-moved =
      record {
        table = refl;
        plan = refl;
        unit_names = k.unit_names;
        arc_names = (
          RoundBounds.next-names (units s) s.tree.parent s.tour.next small-absent
              k.unit_names.1.1.0 k.arc_names.0,
          k.arc_names.1,
        );
        link_names = k.link_names;
        distances = k.distances;
        numbers = k.numbers;
      }

  tour_pred-moved : Moved s (Step.tour_pred s)
  unfolding Step.tour_pred
  tour_pred-moved =
      record {
        table = refl;
        plan = refl;
        unit_names = k.unit_names;
        arc_names = (
          k.arc_names.0,
          (
            RoundBounds.pred_names (units s) s.tree.parent s.tour.next s.tour.pred
                k.arc_names.1.0,
            (
              RoundBounds.first-jump_names (units s) s.tree.parent s.tour.next
                  s.ranking.jump k.arc_names.1.1.0,
              k.arc_names.1.1.1,
            ),
          ),
        );
        link_names = k.link_names;
        distances = k.distances;
        numbers = (
          RoundBounds.first-sum_numbers (units s) s.tree.parent s.ranking.sum k.numbers.0,
          k.numbers.1,
        );
      }

  ranking-moved : Moved s (Step.ranking s)
  unfolding Step.ranking
  ranking-moved =
      record {
        table = refl;
        plan = refl;
        unit_names = k.unit_names;
        arc_names = (
          k.arc_names.0,
          (
            k.arc_names.1.0,
            (RoundBounds.jump-names (2 * units s) s.ranking.jump k.arc_names.1.1.0, k.arc_names.1.1.1),
          ),
        );
        link_names = k.link_names;
        distances = k.distances;
        numbers = (
          RoundBounds.sum-numbers (2 * units s) s.ranking.jump s.ranking.sum k.numbers.0,
          k.numbers.1,
        );
      }

  marks_forward-moved : Moved s (Step.marks_forward s)
  unfolding Step.marks_forward
  marks_forward-moved =
      record {
        table = refl;
        plan = refl;
        unit_names = k.unit_names;
        arc_names = k.arc_names;
        link_names = k.link_names;
        distances = k.distances;
        numbers = (
          k.numbers.0,
          (
            RoundBounds.forward-numbers (units s) s.tree.parent s.ranking.sum
                s.order.forward k.numbers.1.0,
            k.numbers.1.1,
          ),
        );
      }

  marks_descendants-moved : Moved s (Step.marks_descendants s)
  unfolding Step.marks_descendants
  marks_descendants-moved =
      record {
        table = refl;
        plan = refl;
        unit_names = k.unit_names;
        arc_names = (
          k.arc_names.0,
          (
            k.arc_names.1.0,
            (
              RoundBounds.second-jump_names (units s) s.tour.pred s.ranking.jump k.arc_names.1.0
                  k.arc_names.1.1.0,
              k.arc_names.1.1.1,
            ),
          ),
        );
        link_names = k.link_names;
        distances = k.distances;
        numbers = (
          RoundBounds.second-sum_numbers (units s) s.tree.parent s.order.forward s.ranking.sum
              k.numbers.0,
          (
            k.numbers.1.0,
            (
              RoundBounds.nd-numbers (units s) s.components.color s.tree.parent s.ranking.sum
                  s.order.nd small-number k.numbers.0 k.numbers.1.1.0,
              k.numbers.1.1.1,
            ),
          ),
        );
      }

  places-moved : Moved s (Step.places s)
  unfolding Step.places Step.ranking
  places-moved =
      record {
        table = refl;
        plan = refl;
        unit_names = k.unit_names;
        arc_names = (
          k.arc_names.0,
          (
            k.arc_names.1.0,
            (RoundBounds.jump-names (2 * units s) s.ranking.jump k.arc_names.1.1.0, k.arc_names.1.1.1),
          ),
        );
        link_names = k.link_names;
        distances = k.distances;
        numbers = (
          RoundBounds.sum-numbers (2 * units s) s.ranking.jump s.ranking.sum k.numbers.0,
          (
            k.numbers.1.0,
            (
              k.numbers.1.1.0,
              (
                RoundBounds.pre-numbers (units s) s.components.color s.tree.parent s.ranking.sum
                    s.order.pre k.numbers.1.1.1.0,
                k.numbers.1.1.1.1,
              ),
            ),
          ),
        );
      }

  range_begun-moved : Moved s (Step.range_begun s)
  unfolding Step.range_begun
  range_begun-moved =
      record {
        table = refl;
        plan = refl;
        unit_names = k.unit_names;
        arc_names = k.arc_names;
        link_names = k.link_names;
        distances = k.distances;
        numbers = (
          k.numbers.0,
          (
            k.numbers.1.0,
            (
              k.numbers.1.1.0,
              (
                k.numbers.1.1.1.0,
                (
                  RoundBounds.range-first-numbers min min_picks (units s) (links s) s.table.ends s.tree.parent
                      s.order.nd s.order.pre s.range.low k.numbers.1.1.1.0
                      k.numbers.1.1.1.1.0,
                  (
                    RoundBounds.range-first-numbers max max_picks (units s) (links s) s.table.ends s.tree.parent
                        s.order.nd s.order.pre s.range.high k.numbers.1.1.1.0
                        k.numbers.1.1.1.1.1.0,
                    (
                      RoundBounds.little-first-numbers (units s) s.order.pre s.range.little
                          k.numbers.1.1.1.0
                          k.numbers.1.1.1.1.1.1.0,
                      (
                        RoundBounds.big-first-numbers (units s) s.order.nd s.order.pre s.range.big
                            k.numbers.1.1.1.1.1.1.1.0,
                        (
                          RoundBounds.global-first-numbers min min_picks (units s) (links s) s.table.ends
                              s.tree.parent
                              s.order.pre s.global.low k.numbers.1.1.1.0
                              k.numbers.1.1.1.1.1.1.1.1.0,
                          (
                            RoundBounds.global-first-numbers max max_picks (units s) (links s) s.table.ends
                                s.tree.parent
                                s.order.pre s.global.high k.numbers.1.1.1.0
                                k.numbers.1.1.1.1.1.1.1.1.1.0,
                            k.numbers.1.1.1.1.1.1.1.1.1.1,
                          ),
                        ),
                      ),
                    ),
                  ),
                ),
              ),
            ),
          ),
        );
      }

  range_doubled-moved : (i : ℕ) → Moved s (Step.range_doubled i s)
  unfolding Step.range_doubled
  range_doubled-moved i =
      record {
        table = refl;
        plan = refl;
        unit_names = k.unit_names;
        arc_names = k.arc_names;
        link_names = k.link_names;
        distances = k.distances;
        numbers = (
          k.numbers.0,
          (
            k.numbers.1.0,
            (
              k.numbers.1.1.0,
              (
                k.numbers.1.1.1.0,
                (
                  RoundBounds.range-later-numbers min min_picks i (units s) s.global.low s.range.little
                      s.range.big s.range.low k.numbers.1.1.1.1.1.1.1.1.0
                      k.numbers.1.1.1.1.0,
                  (
                    RoundBounds.range-later-numbers max max_picks i (units s) s.global.high s.range.little
                        s.range.big s.range.high k.numbers.1.1.1.1.1.1.1.1.1.0
                        k.numbers.1.1.1.1.1.0,
                    (
                      RoundBounds.little-later-numbers i (units s) s.range.big s.range.little
                          k.numbers.1.1.1.1.1.1.0,
                      (
                        RoundBounds.big-later-numbers i (units s) s.range.little s.range.big
                            k.numbers.1.1.1.1.1.1.1.0,
                        (
                          RoundBounds.global-later-numbers min min_picks i (units s) s.global.low
                              k.numbers.1.1.1.1.1.1.1.1.0,
                          (
                            RoundBounds.global-later-numbers max max_picks i (units s) s.global.high
                                k.numbers.1.1.1.1.1.1.1.1.1.0,
                            k.numbers.1.1.1.1.1.1.1.1.1.1,
                          ),
                        ),
                      ),
                    ),
                  ),
                ),
              ),
            ),
          ),
        );
      }

  aux_edges-moved : Moved s (Step.aux_edges s)
  unfolding Step.aux_edges
  aux_edges-moved =
      record {
        table = refl;
        plan = refl;
        unit_names = k.unit_names;
        arc_names = k.arc_names;
        link_names = k.link_names;
        distances = k.distances;
        numbers = (
          k.numbers.0,
          (
            k.numbers.1.0,
            (
              k.numbers.1.1.0,
              (
                k.numbers.1.1.1.0,
                (
                  k.numbers.1.1.1.1.0,
                  (
                    k.numbers.1.1.1.1.1.0,
                    (
                      k.numbers.1.1.1.1.1.1.0,
                      (
                        k.numbers.1.1.1.1.1.1.1.0,
                        (
                          k.numbers.1.1.1.1.1.1.1.1.0,
                          (
                            k.numbers.1.1.1.1.1.1.1.1.1.0,
                            (
                              RoundBounds.parent-join_numbers (units s) s.tree.parent s.order.nd s.order.pre
                                  s.range.low
                                  s.range.high s.aux.parents k.numbers.1.1.1.1.1.1.1.1.1.1.0,
                              (
                                RoundBounds.link-join_numbers (links s) s.table.ends s.tree.parent
                                    s.order.nd s.order.pre
                                    s.aux.links k.numbers.1.1.1.1.1.1.1.1.1.1.1.0,
                                k.numbers.1.1.1.1.1.1.1.1.1.1.1.1,
                              ),
                            ),
                          ),
                        ),
                      ),
                    ),
                  ),
                ),
              ),
            ),
          ),
        );
      }

  aux_components-moved : Moved s (Step.aux_components s)
  unfolding Step.aux_components
  aux_components-moved =
      record {
        table = refl;
        plan = refl;
        unit_names = (
          k.unit_names.0,
          (
            k.unit_names.1.0,
            (
              k.unit_names.1.1.0,
              (
                RoundBounds.aux-names (units s) (links s) s.clock.made s.table.ends
                    s.tree.parent s.aux.links s.aux.parents s.aux.color some k.unit_names.1.1.1.0,
                k.unit_names.1.1.1.1,
              ),
            ),
          ),
        );
        arc_names = k.arc_names;
        link_names = k.link_names;
        distances = k.distances;
        numbers = k.numbers;
      }

  label_classes-moved : Moved s (Step.label_classes s)
  unfolding Step.label_classes
  label_classes-moved =
      record {
        table = refl;
        plan = refl;
        unit_names = (
          k.unit_names.0,
          (
            k.unit_names.1.0,
            (
              k.unit_names.1.1.0,
              (
                k.unit_names.1.1.1.0,
                (
                  RoundBounds.class-names (units s) (links s) s.table.ends s.tree.parent s.order.pre
                      s.aux.color s.labels.class some k.unit_names.1.1.1.0 k.unit_names.1.1.1.1.0,
                  k.unit_names.1.1.1.1.1,
                ),
              ),
            ),
          ),
        );
        arc_names = k.arc_names;
        link_names = k.link_names;
        distances = k.distances;
        numbers = k.numbers;
      }

  label_positions-moved : Moved s (Step.label_positions s)
  unfolding Step.label_positions
  label_positions-moved =
      record {
        table = refl;
        plan = refl;
        unit_names = k.unit_names;
        arc_names = k.arc_names;
        link_names = (RoundBounds.label_names (links s) s.labels.class s.labels.label k.link_names.0, tt);
        distances = k.distances;
        numbers = k.numbers;
      }

  -- ---- the round

  -- whatever stage the clock shows
  pub tables-moved : Moved s (Step.round_tables s)
  tables-moved =
      each-round (Moved s) s
      (record {
        components = components-moved;
        tree_searched = tree_searched-moved;
        tree_planned = tree_planned-moved;
        tour_next = tour_next-moved;
        tour_pred = tour_pred-moved;
        ranking = ranking-moved;
        marks_forward = marks_forward-moved;
        marks_descendants = marks_descendants-moved;
        places = places-moved;
        range_begun = range_begun-moved;
        range_doubled = range_doubled-moved;
        aux_edges = aux_edges-moved;
        aux_components = aux_components-moved;
        label_classes = label_classes-moved;
        label_positions = label_positions-moved;
      })

  -- the clock after the round, whether or not it was the stage's last
  pub clock-fits : (last : Bool) → Step.last_round s ≡ last →
      Fits (units s) (cond last (s.clock.stage + 1) s.clock.stage) (cond last 0 (s.clock.made + 1))
  unfolding Step.last_round
  clock-fits true e = (omega arith, omega (arith, stage-small), next (ℕ_discrete (s.clock.stage + 1) FINISHED))
    where
      next : Dec (s.clock.stage + 1 ≡ FINISHED)
          → ((s.clock.stage + 1 ≡ FINISHED) × (◌≡◌ {A = ℕ} 0 0))
          ⊎ ((s.clock.stage + 1 ≡ FINISHED → ⊥) × (0 < ceiling (units s) (s.clock.stage + 1)))
      next (yes h) = inl (h, refl)
      next (no h) = inr (
        h,
        ceiling-positive (units s) (s.clock.stage + 1) (omega arith)
            (omega (arith, stage-small, h)),
      )
  clock-fits false e = (
    k.from,
    k.to,
    inr (
      open',
      leb-false (ceiling (units s) s.clock.stage) (s.clock.made + 1) (or_false-right (Step.rule_ends s) _ e),
    ),
  )

  moved-kept : (s' : State) (c : Clock) → Moved s s' → Fits (units s) c.stage c.made → c.rounds ≤ MAX-ROUNDS →
      c.requests ≤ MAX-REQUESTS
      → Kept (with_clock c s')
  moved-kept s' c m f r q =
      record {
        few = rw m.table k.few;
        passes = rw m.table k.passes;
        levels = rw m.table k.levels;
        given = rw m.plan k.given;
        from = f.0;
        to = f.1;
        made = rw m.table f.2;
        rounds = r;
        requests = q;
        unit_names = rw m.table (rw m.table at m.unit_names);
        arc_names = rw m.table m.arc_names;
        link_names = rw m.table m.link_names;
        distances = m.distances;
        numbers = m.numbers;
      }

  pub step_kept : Kept (Step.step s)
  unfolding Step.step Step.next_clock
  step_kept = rw (ne_eqb s.clock.stage FINISHED open')
      (moved-kept (Step.round_tables s) (Step.next_clock (Step.last_round s) (Step.round_requests s) s.clock)
      tables-moved (clock-fits (Step.last_round s) refl) (omega arith) (omega arith))
