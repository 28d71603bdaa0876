-- One round by the exact rules: it has no value where it reads at an absent or missing place or halves an odd number.
-- No number has a bound, nor have all rounds and requests, and a stage ends at its own rule alone: its ceiling is not
-- looked at. To be read beside survey's `Step`.
use Rattle.std.specs.Prelude.{Bool, true, cond, ◌||◌, List, ℕ, zero, suc, ◌+◌, ◌*◌, ◌-◌, min, max, eqb}
use Rattle.std.proofs.Math.Option.{Option, some}
use Rattle.spec_rules.specs.Components.{color_ends}
use Rattle.spec_rules.specs.Range.{range_ends}
use Rattle.spec_rules.specs.Aux.{aux_ends}
use Rattle.spec_machine.specs.State.{State}
use Rattle.spec_state.specs.declared.groups.Clock.{Clock}
use Rattle.spec_machine.specs.State.{units, links, finished, with_clock, with_components, with_tree, with_tour}
use Rattle.spec_machine.specs.State.{with_ranking}
use Rattle.spec_machine.specs.State.{with_order, with_range, with_global, with_aux, with_labels}
use Rattle.spec_machine.specs.Step.{planned}
use Rattle.theory_reach.specs.Partial.{Value, Test, ◌>>=◌, or?}
use Rattle.theory_reach.specs.ExactRules

-- ---- the tables of each stage after a round

unfoldable pub colors? : State → Option (List ℕ)
colors? s = ExactRules.color_round? (units s) (links s) s.clock.made s.table.ends s.components.color

unfoldable pub components? : State → Option State
components? s = do
  color ← colors? s
  some (with_components (record { color = color }) s)

unfoldable pub tree_searched? : State → Option State
tree_searched? s = do
  parent ← ExactRules.parent_round? (units s) (links s) s.clock.made s.table.ends s.table.levels
      s.components.color s.tree.dist s.tree.parent
  dist ← ExactRules.dist_round? (units s) (links s) s.clock.made s.table.ends s.table.levels
      s.components.color s.tree.dist
  some (with_tree (record { parent = parent; dist = dist }) s)

unfoldable pub tree_planned? : State → Option State
tree_planned? s = do
  parent ← ExactRules.planned_parents? (units s) s.plan.parent s.tree.parent
  dist ← ExactRules.planned_dists? (units s) s.plan.parent s.components.color s.tree.dist
  some (with_tree (record { parent = parent; dist = dist }) s)

unfoldable pub tree? : State → Option State
tree? s = cond (planned s) (tree_planned? s) (tree_searched? s)

unfoldable pub tour_next? : State → Option State
tour_next? s = do
  next ← ExactRules.next_round? (units s) s.tree.parent s.tour.next
  some (with_tour (record { next = next; pred = s.tour.pred }) s)

unfoldable pub tour_pred? : State → Option State
tour_pred? s = do
  pred ← ExactRules.pred_round? (units s) s.tree.parent s.tour.next s.tour.pred
  jump ← ExactRules.first_jumps? (units s) s.tree.parent s.tour.next s.ranking.jump
  sum ← ExactRules.first_sums? (units s) s.tree.parent s.ranking.sum
  some (with_tour (record { next = s.tour.next; pred = pred }) (with_ranking (record { jump = jump; sum = sum }) s))

unfoldable pub tour? : State → Option State
tour? s = cond (eqb s.clock.made 0) (tour_next? s) (tour_pred? s)

unfoldable pub ranking? : State → Option State
ranking? s = do
  jump ← ExactRules.jump_round? (2 * units s) s.ranking.jump
  sum ← ExactRules.sum_round? (2 * units s) s.ranking.jump s.ranking.sum
  some (with_ranking (record { jump = jump; sum = sum }) s)

unfoldable pub marks_forward? : State → Option State
marks_forward? s = do
  forward ← ExactRules.forward_round? (units s) s.tree.parent s.ranking.sum s.order.forward
  some (with_order (record { forward = forward; nd = s.order.nd; pre = s.order.pre }) s)

unfoldable pub marks_descendants? : State → Option State
marks_descendants? s = do
  nd ← ExactRules.nd_round? (units s) s.components.color s.tree.parent s.ranking.sum s.order.nd
  jump ← ExactRules.second_jumps? (units s) s.tour.pred s.ranking.jump
  sum ← ExactRules.second_sums? (units s) s.tree.parent s.order.forward s.ranking.sum
  some (with_order (record { forward = s.order.forward; nd = nd; pre = s.order.pre })
      (with_ranking (record { jump = jump; sum = sum }) s))

unfoldable pub marks? : State → Option State
marks? s = cond (eqb s.clock.made 0) (marks_forward? s) (marks_descendants? s)

unfoldable pub places? : State → Option State
places? s = do
  pre ← ExactRules.pre_round? (units s) s.components.color s.tree.parent s.ranking.sum s.order.pre
  ranked ← ranking? s
  some (with_order (record { forward = s.order.forward; nd = s.order.nd; pre = pre }) ranked)

unfoldable pub range_begun? : State → Option State
range_begun? s = do
  low ← ExactRules.range_first? min (units s) (links s) s.table.ends s.tree.parent s.order.nd s.order.pre
      s.range.low
  high ← ExactRules.range_first? max (units s) (links s) s.table.ends s.tree.parent s.order.nd
      s.order.pre s.range.high
  little ← ExactRules.little_first? (units s) s.order.pre s.range.little
  big ← ExactRules.big_first? (units s) s.order.nd s.order.pre s.range.big
  global_low ← ExactRules.global_first? min (units s) (links s) s.table.ends s.tree.parent s.order.pre
      s.global.low
  global_high ← ExactRules.global_first? max (units s) (links s) s.table.ends s.tree.parent s.order.pre
      s.global.high
  some
      (with_range (record { low = low; high = high; little = little; big = big })
      (with_global (record { low = global_low; high = global_high }) s))

unfoldable pub range_doubled? : ℕ → State → Option State
range_doubled? i s = do
  low ← ExactRules.range_later? min i (units s) s.global.low s.range.little s.range.big s.range.low
  high ← ExactRules.range_later? max i (units s) s.global.high s.range.little s.range.big s.range.high
  little ← ExactRules.little_later? i (units s) s.range.big s.range.little
  big ← ExactRules.big_later? i (units s) s.range.little s.range.big
  global_low ← ExactRules.global_later? min i (units s) s.global.low
  global_high ← ExactRules.global_later? max i (units s) s.global.high
  some
      (with_range (record { low = low; high = high; little = little; big = big })
      (with_global (record { low = global_low; high = global_high }) s))

unfoldable pub range? : State → Option State
range? s = cond (eqb s.clock.made 0) (range_begun? s) (range_doubled? (s.clock.made - 1) s)

unfoldable pub aux_edges? : State → Option State
aux_edges? s = do
  parents ← ExactRules.parent_joins_round? (units s) s.tree.parent s.order.nd s.order.pre s.range.low
      s.range.high s.aux.parents
  joins ← ExactRules.link_joins_round? (units s) (links s) s.table.ends s.tree.parent s.order.nd
      s.order.pre s.aux.links
  some (with_aux (record { parents = parents; links = joins; color = s.aux.color }) s)

unfoldable pub aux_colors? : State → Option (List ℕ)
aux_colors? s =
    ExactRules.aux_round? (units s) (links s) s.clock.made s.table.ends s.tree.parent s.aux.links
    s.aux.parents s.aux.color

unfoldable pub aux_components? : State → Option State
aux_components? s = do
  color ← aux_colors? s
  some (with_aux (record { parents = s.aux.parents; links = s.aux.links; color = color }) s)

unfoldable pub label_classes? : State → Option State
label_classes? s = do
  class ← ExactRules.class_round? (units s) (links s) s.table.ends s.tree.parent s.order.pre s.aux.color
      s.labels.class
  some (with_labels (record { class = class; label = s.labels.label }) s)

unfoldable pub label_positions? : State → Option State
label_positions? s = do
  label ← ExactRules.label_round? (links s) s.labels.class s.labels.label
  some (with_labels (record { class = s.labels.class; label = label }) s)

unfoldable pub labels? : State → Option State
labels? s = cond (eqb s.clock.made 0) (label_classes? s) (label_positions? s)

-- ---- the end of a stage, by its rule alone; what a round changed is seen from the entries below n

unfoldable pub rule_ends? : State → Test
rule_ends? s =
    cond (eqb s.clock.stage 1) (colors? s >>= λ after. some
    (color_ends (units s) s.clock.made s.components.color after))
    (cond (eqb s.clock.stage 2)
    (or? (some (planned s)) (ExactRules.tree_ends? (units s) (links s) s.clock.made s.table.ends
    s.table.levels s.components.color s.tree.dist))
    (cond (eqb s.clock.stage 3) (some (eqb s.clock.made 1))
    (cond (eqb s.clock.stage 4) (ExactRules.ranking_ends? (2 * units s) s.ranking.jump)
    (cond (eqb s.clock.stage 5) (some (eqb s.clock.made 1))
    (cond (eqb s.clock.stage 6) (ExactRules.ranking_ends? (2 * units s) s.ranking.jump)
    (cond (eqb s.clock.stage 7) (some (range_ends (units s) s.clock.made))
    (cond (eqb s.clock.stage 8) (some true)
    (cond (eqb s.clock.stage 9) (aux_colors? s >>= λ after. some
    (aux_ends (units s) s.clock.made s.aux.color after))
    (some (eqb s.clock.made 1))))))))))

-- ---- the round

-- the tables after a round of stage k; `last` says that it ends the stage
abbrev pub tables_at? : ℕ → Bool → State → Option State
tables_at? k last s =
    cond (eqb k 1) (components? s)
    (cond (eqb k 2) (tree? s)
    (cond (eqb k 3) (tour? s)
    (cond (eqb k 4) (ranking? s)
    (cond (eqb k 5) (marks? s)
    (cond (eqb k 6) (cond last (places? s) (ranking? s))
    (cond (eqb k 7) (range? s)
    (cond (eqb k 8) (aux_edges? s)
    (cond (eqb k 9) (aux_components? s)
    (labels? s)))))))))

unfoldable pub round_tables? : Bool → State → Option State
round_tables? last s = tables_at? s.clock.stage last s

unfoldable pub round_requests? : State → Value
round_requests? s =
    cond (eqb s.clock.stage 4 || eqb s.clock.stage 6) (ExactRules.requests_of? (2 * units s) s.ranking.jump)
    (some 0)

-- rounds and requests are added up without a limit
unfoldable pub exact_clock : Bool → ℕ → Clock → Clock
exact_clock last requests c =
    record {
      stage = cond last (c.stage + 1) c.stage;
      made = cond last 0 (c.made + 1);
      rounds = c.rounds + 1;
      requests = c.requests + requests;
    }

-- a finished survey stays as it is
unfoldable pub step_exact : State → Option State
step_exact s =
    cond (finished s) (some s) do
      last ← rule_ends? s
      requests ← round_requests? s
      tables ← round_tables? last s
      some (with_clock (exact_clock last requests s.clock) tables)

-- step_exact, k times
unfoldable pub steps_exact : ℕ → State → Option State
steps_exact zero s = some s
steps_exact (suc k) s = steps_exact k s >>= step_exact
