-- The state as a record: short names for what every rule reads, a setter for each group, and the limits.
use Rattle.std.specs.Prelude.{Bool, List, ℕ, ◌*◌, eqb, take}
use Rattle.spec_state.specs.declared.groups.Table.{Table}
use Rattle.spec_state.specs.declared.groups.Clock.{Clock}
use Rattle.spec_state.specs.declared.groups.Components.{Components}
use Rattle.spec_state.specs.declared.groups.Plan.{Plan}
use Rattle.spec_state.specs.declared.groups.Tree.{Tree}
use Rattle.spec_state.specs.declared.groups.Tour.{Tour}
use Rattle.spec_state.specs.declared.groups.Ranking.{Ranking}
use Rattle.spec_state.specs.declared.groups.Order.{Order}
use Rattle.spec_state.specs.declared.groups.Range.{Range}
use Rattle.spec_state.specs.declared.groups.Global.{Global}
use Rattle.spec_state.specs.declared.groups.Aux.{Aux}
use Rattle.spec_state.specs.declared.groups.Labels.{Labels}

-- what a state holds, in groups that follow the stages
pub record State : Type 0 where
  pub table : Table
  pub clock : Clock
  pub components : Components
  pub plan : Plan
  pub tree : Tree
  pub tour : Tour
  pub ranking : Ranking
  pub order : Order
  pub range : Range
  pub global : Global
  pub aux : Aux
  pub labels : Labels

-- the unit count n, the number of links m, and the table's words
abbrev pub units : State → ℕ
units s = s.table.units

abbrev pub links : State → ℕ
links s = s.table.links

abbrev pub words : State → List ℕ
words s = take (2 * links s) s.table.ends

-- stage 11 is finished
abbrev pub FINISHED : ℕ
FINISHED = 11

abbrev pub finished : State → Bool
finished s = eqb s.clock.stage FINISHED

-- "all rounds are at most 804 and requests at most 8,158"
abbrev pub MAX-ROUNDS : ℕ
MAX-ROUNDS = 804

abbrev pub MAX-REQUESTS : ℕ
MAX-REQUESTS = 8158

-- the state with one group replaced
abbrev pub with_table : Table → State → State
with_table new s = record {
  table = new;
  clock = s.clock;
  components = s.components;
  plan = s.plan;
  tree = s.tree;
  tour = s.tour;
  ranking = s.ranking;
  order = s.order;
  range = s.range;
  global = s.global;
  aux = s.aux;
  labels = s.labels;
}

abbrev pub with_clock : Clock → State → State
with_clock new s = record {
  table = s.table;
  clock = new;
  components = s.components;
  plan = s.plan;
  tree = s.tree;
  tour = s.tour;
  ranking = s.ranking;
  order = s.order;
  range = s.range;
  global = s.global;
  aux = s.aux;
  labels = s.labels;
}

abbrev pub with_components : Components → State → State
with_components new s = record {
  table = s.table;
  clock = s.clock;
  components = new;
  plan = s.plan;
  tree = s.tree;
  tour = s.tour;
  ranking = s.ranking;
  order = s.order;
  range = s.range;
  global = s.global;
  aux = s.aux;
  labels = s.labels;
}

abbrev pub with_plan : Plan → State → State
with_plan new s = record {
  table = s.table;
  clock = s.clock;
  components = s.components;
  plan = new;
  tree = s.tree;
  tour = s.tour;
  ranking = s.ranking;
  order = s.order;
  range = s.range;
  global = s.global;
  aux = s.aux;
  labels = s.labels;
}

abbrev pub with_tree : Tree → State → State
with_tree new s = record {
  table = s.table;
  clock = s.clock;
  components = s.components;
  plan = s.plan;
  tree = new;
  tour = s.tour;
  ranking = s.ranking;
  order = s.order;
  range = s.range;
  global = s.global;
  aux = s.aux;
  labels = s.labels;
}

abbrev pub with_tour : Tour → State → State
with_tour new s = record {
  table = s.table;
  clock = s.clock;
  components = s.components;
  plan = s.plan;
  tree = s.tree;
  tour = new;
  ranking = s.ranking;
  order = s.order;
  range = s.range;
  global = s.global;
  aux = s.aux;
  labels = s.labels;
}

abbrev pub with_ranking : Ranking → State → State
with_ranking new s = record {
  table = s.table;
  clock = s.clock;
  components = s.components;
  plan = s.plan;
  tree = s.tree;
  tour = s.tour;
  ranking = new;
  order = s.order;
  range = s.range;
  global = s.global;
  aux = s.aux;
  labels = s.labels;
}

abbrev pub with_order : Order → State → State
with_order new s = record {
  table = s.table;
  clock = s.clock;
  components = s.components;
  plan = s.plan;
  tree = s.tree;
  tour = s.tour;
  ranking = s.ranking;
  order = new;
  range = s.range;
  global = s.global;
  aux = s.aux;
  labels = s.labels;
}

abbrev pub with_range : Range → State → State
with_range new s = record {
  table = s.table;
  clock = s.clock;
  components = s.components;
  plan = s.plan;
  tree = s.tree;
  tour = s.tour;
  ranking = s.ranking;
  order = s.order;
  range = new;
  global = s.global;
  aux = s.aux;
  labels = s.labels;
}

abbrev pub with_global : Global → State → State
with_global new s = record {
  table = s.table;
  clock = s.clock;
  components = s.components;
  plan = s.plan;
  tree = s.tree;
  tour = s.tour;
  ranking = s.ranking;
  order = s.order;
  range = s.range;
  global = new;
  aux = s.aux;
  labels = s.labels;
}

abbrev pub with_aux : Aux → State → State
with_aux new s = record {
  table = s.table;
  clock = s.clock;
  components = s.components;
  plan = s.plan;
  tree = s.tree;
  tour = s.tour;
  ranking = s.ranking;
  order = s.order;
  range = s.range;
  global = s.global;
  aux = new;
  labels = s.labels;
}

abbrev pub with_labels : Labels → State → State
with_labels new s = record {
  table = s.table;
  clock = s.clock;
  components = s.components;
  plan = s.plan;
  tree = s.tree;
  tour = s.tour;
  ranking = s.ranking;
  order = s.order;
  range = s.range;
  global = s.global;
  aux = s.aux;
  labels = new;
}
