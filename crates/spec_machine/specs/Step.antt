-- One round: the tables of its stage by the rules, then the clock. All units of a round read the state that the round
-- before left.
use Rattle.std.specs.Prelude.{Bool, true, false, cond, not, ◌&&◌, ◌||◌, List, ℕ, zero, suc, ◌+◌, ◌*◌, ◌-◌, min, max}
use Rattle.std.specs.Prelude.{eqb, leb}
use Rattle.spec_rules.specs.Ceilings.{ceiling}
use Rattle.spec_rules.specs.Ceilings as Ceilings
use Rattle.spec_rules.specs.Components.{color_round, color_ends}
use Rattle.spec_rules.specs.Tree.{parent_round, dist_round, tree_ends}
use Rattle.spec_rules.specs.Planned.{planned_parents, planned_dists}
use Rattle.spec_rules.specs.Tour.{next_round, pred_round, first_sums, first_jumps}
use Rattle.spec_rules.specs.Ranking.{sum_round, jump_round, requests_of, ranking_ends}
use Rattle.spec_rules.specs.Order.{forward_round, nd_round, second_sums, second_jumps, pre_round}
use Rattle.spec_rules.specs.Range.{global_first, range_first, little_first, big_first, range_later, little_later}
use Rattle.spec_rules.specs.Range.{big_later}
use Rattle.spec_rules.specs.Range.{global_later, range_ends}
use Rattle.spec_rules.specs.Aux.{link_joins_round, parent_joins_round, aux_round, aux_ends}
use Rattle.spec_rules.specs.Labels.{class_round, label_round}
use Rattle.spec_machine.specs.State.{State}
use Rattle.spec_state.specs.declared.groups.Clock.{Clock}
use Rattle.spec_machine.specs.State

-- a planner's tree is given
abbrev pub planned : State → Bool
planned s = not (eqb s.plan.given 0)

-- ---- the tables of each stage after a round

unfoldable pub components : State → State
components s =
    State.with_components
    (record {
      color = color_round (State.units s) (State.links s) s.clock.made s.table.ends
          s.components.color;
    })
    s

-- breadth first, or taken over whole from the planner (document 02, T-05)
unfoldable pub tree_searched : State → State
tree_searched s =
    State.with_tree
    (record {
      parent = parent_round (State.units s) (State.links s) s.clock.made s.table.ends s.table.levels
          s.components.color s.tree.dist s.tree.parent;
      dist = dist_round (State.units s) (State.links s) s.clock.made s.table.ends s.table.levels
          s.components.color s.tree.dist;
    })
    s

unfoldable pub tree_planned : State → State
tree_planned s =
    State.with_tree
    (record {
      parent = planned_parents (State.units s) s.plan.parent s.tree.parent;
      dist = planned_dists (State.units s) s.plan.parent s.components.color s.tree.dist;
    })
    s

unfoldable pub tree : State → State
tree s = cond (planned s) (tree_planned s) (tree_searched s)

-- round one of the tour, and round two, which sets up the first ranking
unfoldable pub tour_next : State → State
tour_next s =
    State.with_tour
    (record { next = next_round (State.units s) s.tree.parent s.tour.next; pred = s.tour.pred })
    s

unfoldable pub tour_pred : State → State
tour_pred s =
    State.with_tour
    (record {
      next = s.tour.next;
      pred = pred_round (State.units s) s.tree.parent s.tour.next
          s.tour.pred;
    })
    (State.with_ranking
    (record {
      jump = first_jumps (State.units s) s.tree.parent s.tour.next s.ranking.jump;
      sum = first_sums (State.units s) s.tree.parent s.ranking.sum;
    })
    s)

unfoldable pub tour : State → State
tour s = cond (eqb s.clock.made 0) (tour_next s) (tour_pred s)

unfoldable pub ranking : State → State
ranking s =
    State.with_ranking
    (record {
      jump = jump_round (2 * State.units s) s.ranking.jump;
      sum = sum_round (2 * State.units s) s.ranking.jump s.ranking.sum;
    })
    s

-- round one of the marks, and round two, which sets up the second ranking
unfoldable pub marks_forward : State → State
marks_forward s =
    State.with_order
    (record {
      forward = forward_round (State.units s) s.tree.parent s.ranking.sum s.order.forward;
      nd = s.order.nd;
      pre = s.order.pre;
    })
    s

unfoldable pub marks_descendants : State → State
marks_descendants s =
    State.with_order
    (record {
      forward = s.order.forward;
      nd = nd_round (State.units s) s.components.color s.tree.parent s.ranking.sum s.order.nd;
      pre = s.order.pre;
    })
    (State.with_ranking
    (record {
      jump = second_jumps (State.units s) s.tour.pred s.ranking.jump;
      sum = second_sums (State.units s) s.tree.parent s.order.forward s.ranking.sum;
    })
    s)

unfoldable pub marks : State → State
marks s = cond (eqb s.clock.made 0) (marks_forward s) (marks_descendants s)

-- the places, written by the last round of the second ranking from the sums that the round before left
unfoldable pub places : State → State
places s =
    State.with_order
    (record {
      forward = s.order.forward;
      nd = s.order.nd;
      pre = pre_round (State.units s) s.components.color s.tree.parent s.ranking.sum s.order.pre;
    })
    (ranking s)

-- low and high: the first round, and round i = made − 1
unfoldable pub range_begun : State → State
range_begun s =
    State.with_range
    (record {
      low = range_first min (State.units s) (State.links s) s.table.ends s.tree.parent s.order.nd
          s.order.pre s.range.low;
      high = range_first max (State.units s) (State.links s) s.table.ends s.tree.parent s.order.nd
          s.order.pre s.range.high;
      little = little_first (State.units s) s.order.pre s.range.little;
      big = big_first (State.units s) s.order.nd s.order.pre s.range.big;
    })
    (State.with_global
    (record {
      low = global_first min (State.units s) (State.links s) s.table.ends s.tree.parent s.order.pre
          s.global.low;
      high = global_first max (State.units s) (State.links s) s.table.ends s.tree.parent s.order.pre
          s.global.high;
    })
    s)

unfoldable pub range_doubled : ℕ → State → State
range_doubled i s =
    State.with_range
    (record {
      low = range_later min i (State.units s) s.global.low s.range.little s.range.big s.range.low;
      high = range_later max i (State.units s) s.global.high s.range.little s.range.big s.range.high;
      little = little_later i (State.units s) s.range.big s.range.little;
      big = big_later i (State.units s) s.range.little s.range.big;
    })
    (State.with_global
    (record {
      low = global_later min i (State.units s) s.global.low;
      high = global_later max i (State.units s) s.global.high;
    })
    s)

unfoldable pub range : State → State
range s = cond (eqb s.clock.made 0) (range_begun s) (range_doubled (s.clock.made - 1) s)

unfoldable pub aux_edges : State → State
aux_edges s =
    State.with_aux
    (record {
      parents =
          parent_joins_round (State.units s) s.tree.parent s.order.nd s.order.pre s.range.low
          s.range.high s.aux.parents;
      links = link_joins_round (State.links s) s.table.ends s.tree.parent s.order.nd s.order.pre
          s.aux.links;
      color = s.aux.color;
    })
    s

-- the classes after this round
abbrev pub aux_colors : State → List ℕ
aux_colors s =
    aux_round (State.units s) (State.links s) s.clock.made s.table.ends s.tree.parent s.aux.links
    s.aux.parents s.aux.color

unfoldable pub aux_components : State → State
aux_components s =
    State.with_aux (record { parents = s.aux.parents; links = s.aux.links; color = aux_colors s }) s

-- round one of the labels gives classes, round two labels
unfoldable pub label_classes : State → State
label_classes s =
    State.with_labels
    (record {
      class = class_round (State.links s) s.table.ends s.tree.parent s.order.pre s.aux.color
          s.labels.class;
      label = s.labels.label;
    })
    s

unfoldable pub label_positions : State → State
label_positions s =
    State.with_labels
    (record { class = s.labels.class; label = label_round (State.links s) s.labels.class s.labels.label })
    s

unfoldable pub labels : State → State
labels s = cond (eqb s.clock.made 0) (label_classes s) (label_positions s)

-- ---- the end of a stage

-- the rule of stage k ends it with this round
abbrev pub ends_at : ℕ → State → Bool
ends_at k s =
    cond (eqb k 1)
    (color_ends (State.units s) s.clock.made s.components.color (components s).components.color)
    (cond (eqb k 2)
    (planned s || tree_ends (State.units s) (State.links s) s.clock.made s.table.ends s.table.levels
    s.components.color s.tree.dist)
    (cond (eqb k 3) (eqb s.clock.made 1)
    (cond (eqb k 4) (ranking_ends (2 * State.units s) s.ranking.jump)
    (cond (eqb k 5) (eqb s.clock.made 1)
    (cond (eqb k 6) (ranking_ends (2 * State.units s) s.ranking.jump)
    (cond (eqb k 7) (range_ends (State.units s) s.clock.made)
    (cond (eqb k 8) true
    (cond (eqb k 9) (aux_ends (State.units s) s.clock.made s.aux.color (aux_colors s))
    (eqb s.clock.made 1)))))))))

unfoldable pub rule_ends : State → Bool
rule_ends s = ends_at s.clock.stage s

-- a stage ends at its rule or at its ceiling
unfoldable pub last_round : State → Bool
last_round s = rule_ends s || leb (ceiling (State.units s) s.clock.stage) (s.clock.made + 1)

-- ---- the round

-- the tables after a round of stage k
abbrev pub tables_at : ℕ → State → State
tables_at k s =
    cond (eqb k 1) (components s)
    (cond (eqb k 2) (tree s)
    (cond (eqb k 3) (tour s)
    (cond (eqb k 4) (ranking s)
    (cond (eqb k 5) (marks s)
    (cond (eqb k 6) (cond (last_round s) (places s) (ranking s))
    (cond (eqb k 7) (range s)
    (cond (eqb k 8) (aux_edges s)
    (cond (eqb k 9) (aux_components s)
    (labels s)))))))))

unfoldable pub round_tables : State → State
round_tables s = tables_at s.clock.stage s

-- the requests of a round of stage k: those of the rankings
abbrev pub requests_at : ℕ → State → ℕ
requests_at k s = cond (eqb k 4 || eqb k 6) (requests_of (2 * State.units s) s.ranking.jump) 0

unfoldable pub round_requests : State → ℕ
round_requests s = requests_at s.clock.stage s

-- the clock after a round: the next stage at the end of this one, all rounds and requests within their limits
unfoldable pub next_clock : Bool → ℕ → Clock → Clock
next_clock last requests c =
    record {
      stage = cond last (c.stage + 1) c.stage;
      made = cond last 0 (c.made + 1);
      rounds = min (c.rounds + 1) State.MAX-ROUNDS;
      requests = min (c.requests + requests) State.MAX-REQUESTS;
    }

-- a finished survey stays as it is
unfoldable pub step : State → State
step s =
    cond (State.finished s) s (State.with_clock (next_clock (last_round s) (round_requests s) s.clock) (round_tables s))

-- step, k times
unfoldable pub steps : ℕ → State → State
steps zero s = s
steps (suc k) s = steps k (step s)

-- the rounds still to come at most: document 01's countdown
abbrev pub countdown : State → ℕ
countdown s = Ceilings.countdown (State.units s) s.clock.stage s.clock.made
