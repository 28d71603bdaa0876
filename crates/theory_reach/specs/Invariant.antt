-- What holds of every state that a load reaches, stage by stage: what the stages before have left, and how far this one
-- has come.
use Rattle.std.specs.Prelude.{◌≡◌, true, false, cond, ◌⊎◌, List, ℕ, ◌+◌, ◌*◌, ◌-◌, ◌≤◌, ◌<◌, min, max}
use Rattle.base_log2.specs.Lg.{lg}
use Rattle.spec_rules.specs.Basics.{ABSENT, at}
use Rattle.base_lists.specs.FoldLaws.{AtLeast}
use Rattle.spec_rules.specs.Tour.{is_into, is_arc, follower, predecessor}
use Rattle.spec_rules.specs.Range.{local_at}
use Rattle.spec_rules.specs.Labels.{naming_unit, label_of}
use Rattle.theory_graph.specs.Forest.{Classes}
use Rattle.spec_machine.specs.State.{State}
use Rattle.spec_machine.specs.State.{units, links, FINISHED}
use Rattle.spec_machine.specs.Step.{planned}
use Rattle.theory_reach.specs.Site.{Site, Link}
use Rattle.theory_reach.specs.Rooted.{Rooted}
use Rattle.theory_reach.specs.Sized.{Sized}
use Rattle.theory_reach.specs.Colors.{ColorsAt, Colored}
use Rattle.theory_reach.specs.BreadthFirst.{TreeAt}
use Rattle.theory_reach.specs.Planned.{Fits}
use Rattle.theory_reach.specs.SizeAndOrder.{nd}
use Rattle.theory_reach.specs.Potentials.{rank_of, forward_sum}
use Rattle.theory_reach.specs.Doubling.{Ranked, asked}
use Rattle.theory_reach.specs.Segments.{SegmentsAt, last_place}
use Rattle.theory_reach.specs.Ordered.{Ordered, Ranged}
use Rattle.theory_reach.specs.AuxColors.{Marked, aux_after}
use Rattle.theory_reach.specs.LabelsRight.{Right}

-- ---- what earlier stages leave

-- parents and distances as the load left them
pub record Fresh (s : State) : Type 0 where
  pub parents : (v : ℕ) → v < units s → at s.tree.parent v ≡ ABSENT
  pub distances : (v : ℕ) → v < units s → at s.tree.dist v ≡ ABSENT

-- no tree of the planner's was given, or one that passed 18
abbrev pub PlanFits : State → Type 0
PlanFits s = (planned s ≡ false) ⊎ ((planned s ≡ true) × Fits (units s) (links s) s.table.ends s.plan.parent)

-- stage 2's tree: a forest along links, rooted at the colour units
pub record Treed (s : State) : Type 0 where
  pub depth : ℕ → ℕ
  pub rooted : Rooted (units s) (links s) s.table.ends s.components.color s.tree.parent depth
  pub colored : Colored (units s) (links s) s.table.ends s.components.color

-- round one of stage 3
abbrev Followers : State → Type 0
Followers s = (a : ℕ) → a < 2 * units s → at s.tour.next a ≡ follower (units s) s.tree.parent a

-- round two of stage 3
abbrev Predecessors : State → Type 0
Predecessors s = (a : ℕ) → a < 2 * units s →
    at s.tour.pred a ≡ predecessor (units s) s.tree.parent s.tour.next a

-- the tour as stage 3 leaves it
pub record Toured (s : State) : Type 0 where
  pub treed : Treed s
  pub followers : Followers s
  pub predecessors : Predecessors s

-- the potentials of this state's tour: an arc's rank, and its forward sum
abbrev pub rank : (s : State) → Treed s → ℕ → ℕ
rank s t a = rank_of (units s) s.tree.parent t.depth a

-- what the first ranking sums up to: the rank of an arc, 0 where there is none
abbrev pub ranks : (s : State) → Treed s → ℕ → ℕ
ranks s t a = cond (is_arc s.tree.parent a) (rank s t a) 0

abbrev pub sums : (s : State) → Treed s → ℕ → ℕ
sums s t a = forward_sum (units s) s.tree.parent t.depth a

-- stages 5 and 6 have numbered the units
pub record Numbered (s : State) : Type 0 where
  pub treed : Treed s
  pub ordered : Ordered (units s) s.tree.parent s.order.nd s.order.pre treed.depth

-- ---- each stage

pub record In1 (s : State) : Type 0 where
  pub stage : s.clock.stage ≡ 1
  pub quiet : s.clock.requests ≡ 0
  pub plan : PlanFits s
  pub fresh : Fresh s
  pub colors : (s.clock.made ≡ 0)
      ⊎ ((1 ≤ s.clock.made) × ColorsAt (units s) (links s) s.table.ends s.components.color s.clock.made)

pub record In2 (s : State) : Type 0 where
  pub stage : s.clock.stage ≡ 2
  pub quiet : s.clock.requests ≡ 0
  pub plan : PlanFits s
  pub colored : Colored (units s) (links s) s.table.ends s.components.color
  pub tree : ((s.clock.made ≡ 0) × Fresh s)
      ⊎ ((1 ≤ s.clock.made) × TreeAt (units s) (links s) s.table.ends s.components.color s.tree.parent
      s.tree.dist s.clock.made)

pub record In3 (s : State) : Type 0 where
  pub stage : s.clock.stage ≡ 3
  pub quiet : s.clock.requests ≡ 0
  pub treed : Treed s
  pub tour : (s.clock.made ≡ 0) ⊎ ((s.clock.made ≡ 1) × Followers s)

pub record In4 (s : State) : Type 0 where
  pub stage : s.clock.stage ≡ 4
  pub toured : Toured s
  pub asks : s.clock.requests ≡ asked (2 * units s) (rank s toured.treed) s.clock.made
  pub ranked : Ranked (2 * units s) (rank s toured.treed) (ranks s toured.treed) s.ranking.jump
      s.ranking.sum s.clock.made

pub record In5 (s : State) : Type 0 where
  pub stage : s.clock.stage ≡ 5
  pub few : s.clock.requests ≤ 4079
  pub toured : Toured s
  pub held : (a : ℕ) → a < 2 * units s → is_arc s.tree.parent a ≡ true →
      at s.ranking.sum a ≡ rank s toured.treed a
  pub marks : (s.clock.made ≡ 0)
      ⊎ ((s.clock.made ≡ 1) × ((a : ℕ) → a < 2 * units s → is_arc s.tree.parent a ≡ true →
      at s.order.forward a ≡ cond (is_into a) 1 0))

pub record In6 (s : State) : Type 0 where
  pub stage : s.clock.stage ≡ 6
  pub treed : Treed s
  pub few : s.clock.requests ≤ 4079 + asked (2 * units s) (rank s treed) s.clock.made
  pub sizes : (v : ℕ) → v < units s → at s.order.nd v ≡ nd (units s) s.tree.parent treed.depth v
  pub ranked : Ranked (2 * units s) (rank s treed) (sums s treed) s.ranking.jump s.ranking.sum s.clock.made

pub record In7 (s : State) : Type 0 where
  pub stage : s.clock.stage ≡ 7
  pub few : s.clock.requests ≤ 8158
  pub early : s.clock.made ≤ lg (units s)
  pub numbered : Numbered s
  pub segments : (s.clock.made ≡ 0)
      ⊎ ((1 ≤ s.clock.made)
      × SegmentsAt ◌≤◌ (units s) (local_at min (units s) (links s) s.table.ends s.tree.parent s.order.pre)
      (at s.order.pre)
      (last_place s.order.nd s.order.pre) s.global.low s.range.low s.range.little s.range.big
      (s.clock.made - 1)
      × SegmentsAt AtLeast (units s) (local_at max (units s) (links s) s.table.ends s.tree.parent
      s.order.pre) (at s.order.pre)
      (last_place s.order.nd s.order.pre) s.global.high s.range.high s.range.little s.range.big
      (s.clock.made - 1))

pub record In8 (s : State) : Type 0 where
  pub stage : s.clock.stage ≡ 8
  pub few : s.clock.requests ≤ 8158
  pub start : s.clock.made ≡ 0
  pub numbered : Numbered s
  pub ranged : Ranged (units s) (links s) s.table.ends s.tree.parent s.order.pre numbered.treed.depth
      s.range.low s.range.high

pub record In9 (s : State) : Type 0 where
  pub stage : s.clock.stage ≡ 9
  pub few : s.clock.requests ≤ 8158
  pub numbered : Numbered s
  pub marked : Marked (units s) (links s) s.table.ends s.tree.parent s.aux.links s.aux.parents
      numbered.treed.depth
  pub classes : (s.clock.made ≡ 0)
      ⊎ ((first : List ℕ) × (units s ≤ lib.ListN.length first) × (1 ≤ s.clock.made)
      × (s.aux.color ≡ aux_after (units s) (links s) s.table.ends s.tree.parent s.aux.links
      s.aux.parents first s.clock.made))

pub record In10 (s : State) : Type 0 where
  pub stage : s.clock.stage ≡ 10
  pub few : s.clock.requests ≤ 8158
  pub numbered : Numbered s
  pub classes : Classes (Link (links s) s.table.ends) (at s.tree.parent) numbered.treed.depth
      (at s.aux.color)
  pub named : (s.clock.made ≡ 0)
      ⊎ ((s.clock.made ≡ 1)
      × ((j : ℕ) → j < links s
      → at s.labels.class j
      ≡ at s.aux.color (naming_unit s.tree.parent s.order.pre
      (Rattle.table.specs.Table.end_a s.table.ends j) (Rattle.table.specs.Table.end_b s.table.ends j))))

pub record In11 (s : State) : Type 0 where
  pub stage : s.clock.stage ≡ FINISHED
  pub few : s.clock.requests ≤ 8158
  pub right : Right (units s) (links s) s.table.ends s.labels.label
  -- the tree and its classes are still there
  pub numbered : Numbered s
  pub classes : Classes (Link (links s) s.table.ends) (at s.tree.parent) numbered.treed.depth
      (at s.aux.color)
  pub named : (j : ℕ) → j < links s
      → at s.labels.class j
      ≡ at s.aux.color (naming_unit s.tree.parent s.order.pre
      (Rattle.table.specs.Table.end_a s.table.ends j) (Rattle.table.specs.Table.end_b s.table.ends j))
  pub labelled : (j : ℕ) → j < links s → at s.labels.label j ≡ label_of (links s) s.labels.class j

pub data Reached (s : State) : Type 0 where
  in1 : In1 s → Reached s
  in2 : In2 s → Reached s
  in3 : In3 s → Reached s
  in4 : In4 s → Reached s
  in5 : In5 s → Reached s
  in6 : In6 s → Reached s
  in7 : In7 s → Reached s
  in8 : In8 s → Reached s
  in9 : In9 s → Reached s
  in10 : In10 s → Reached s
  in11 : In11 s → Reached s

-- the site behind the state, and its tables' lengths
pub record Base (s : State) : Type 0 where
  pub site : Site (units s) (links s) s.table.ends
  pub sized : Sized s
