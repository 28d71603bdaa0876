-- Loading: names of units, links and list places are absent, and so are distances; all else is 0; stage 1.
use Rattle.std.specs.Prelude.{Bool, not, List, [], ◌∷◌, ◌++◌, ℕ, eqb, length, drop, replicate, ℤ, pos}
use Rattle.table_levels.specs.Level.{LOWEST}
use Rattle.table.specs.Table.{link_count, stored_refusal, fresh_refusal, stored_tests, unit_tests}
use Rattle.table.specs.Refusals.{first_of}
use Rattle.spec_rules.specs.Basics.{ABSENT}
use Rattle.spec_rules.specs.Planned.{plan_unfit}
use Rattle.spec_machine.specs.State.{State, with_plan}
use Rattle.spec_state.specs.declared.groups.Table.{Table}
use Rattle.spec_state.specs.declared.groups.Clock.{Clock}
use Rattle.spec_state.specs.declared.groups.Components.{Components}
use Rattle.spec_state.specs.declared.groups.Plan.{Plan}
use Rattle.spec_state.specs.declared.groups.Tree.{Tree}
use Rattle.spec_state.specs.declared.groups.Tour.{Tour}
use Rattle.spec_state.specs.declared.groups.Ranking.{Ranking}
use Rattle.spec_state.specs.declared.groups.Order.{Order}
use Rattle.spec_state.specs.declared.groups.Range.{Range}
use Rattle.spec_state.specs.declared.groups.Global.{Global}
use Rattle.spec_state.specs.declared.groups.Aux.{Aux}
use Rattle.spec_state.specs.declared.groups.Labels.{Labels}

-- k entries absent; k entries 0; k levels 0. Shut, so that goals do not spell them out
unfoldable pub absents : ℕ → List ℕ
absents k = replicate k ABSENT

unfoldable pub zeros : ℕ → List ℕ
zeros k = replicate k 0

unfoldable pub silences : ℕ → List ℤ
silences k = replicate k (pos 0)

-- a table's words in an array of 2,048, absent past the last; its levels in one of 1,024, 0 past the last
abbrev pub ends_of : List ℕ → List ℕ
ends_of t = t ++ drop (length t) (absents 2048)

abbrev pub levels_of : List ℤ → List ℤ
levels_of ls = ls ++ drop (length ls) (silences 1024)

-- ---- each group before any round

abbrev pub first_clock : Clock
first_clock = record { stage = 1; made = 0; rounds = 0; requests = 0 }

abbrev pub blank_components : Components
blank_components = record { color = absents 256 }

-- no tree of the planner's (document 02, T-05)
abbrev pub blank_plan : Plan
blank_plan = record { given = 0; parent = absents 256 }

abbrev pub blank_tree : Tree
blank_tree = record { parent = absents 256; dist = absents 256 }

abbrev pub blank_tour : Tour
blank_tour = record { next = absents 512; pred = absents 512 }

abbrev pub blank_ranking : Ranking
blank_ranking = record { jump = absents 512; sum = zeros 512 }

abbrev pub blank_order : Order
blank_order = record { forward = zeros 512; nd = zeros 256; pre = zeros 256 }

abbrev pub blank_range : Range
blank_range = record { low = zeros 256; high = zeros 256; little = zeros 256; big = zeros 256 }

abbrev pub blank_global : Global
blank_global = record { low = zeros 256; high = zeros 256 }

abbrev pub blank_aux : Aux
blank_aux = record { parents = zeros 256; links = zeros 1024; color = absents 256 }

abbrev pub blank_labels : Labels
blank_labels = record { class = absents 1024; label = absents 1024 }

-- the state before any round over a table of links
unfoldable pub begun : Table → State
begun table =
    record {
      table = table;
      clock = first_clock;
      components = blank_components;
      plan = blank_plan;
      tree = blank_tree;
      tour = blank_tour;
      ranking = blank_ranking;
      order = blank_order;
      range = blank_range;
      global = blank_global;
      aux = blank_aux;
      labels = blank_labels;
    }

-- what a load takes: the unit count, the table's words and its levels
pub record Input : Type 0 where
  pub units : ℕ
  pub words : List ℕ
  pub levels : List ℤ

-- a table that came without levels, as link lines of kind 02 give it: each the lowest
abbrev pub bare : ℕ → List ℕ → Input
bare n t = record { units = n; words = t; levels = replicate (link_count t) LOWEST }

-- its number of links
abbrev pub links_in : Input → ℕ
links_in input = link_count input.words

-- why a load is refused: the number of the first check that fails, else 0. Of a stored table 4 to 6, 15, 16, 7 to 9,
abbrev pub stored_load_refusal : Input → ℕ
stored_load_refusal input = stored_refusal input.units input.words input.levels

-- and of a fresh one last 22 (document 02, T-10)
abbrev pub load_refusal : Input → ℕ
load_refusal input = fresh_refusal input.units input.words input.levels

-- the table of links that a load makes
abbrev pub table_of : Input → Table
table_of input = record {
  units = input.units;
  links = links_in input;
  ends = ends_of input.words;
  levels = levels_of input.levels;
}

-- the state that a load makes
unfoldable pub loaded : Input → State
loaded input = begun (table_of input)

-- the state that was never loaded: no unit and no link
unfoldable pub unloaded : State
unloaded = begun (record { units = 0; links = 0; ends = absents 2048; levels = silences 1024 })

-- ---- the load that also takes a table of parents, drawn by the planner (document 02, T-05)

-- the parents in an array of 256, absent past the last
abbrev pub parents_of : List ℕ → List ℕ
parents_of ps = ps ++ drop (length ps) (absents 256)

abbrev pub plan_of : List ℕ → Plan
plan_of ps = record { given = 1; parent = parents_of ps }

-- 17: the table of parents has not exactly n words
abbrev pub parents_differ : Input → List ℕ → Bool
parents_differ input ps = not (eqb (length ps) input.units)

-- 18
abbrev pub parents_unfit : Input → List ℕ → Bool
parents_unfit input ps = plan_unfit input.units (links_in input) input.words ps

abbrev pub plan_tests : Input → List ℕ → List (ℕ × Bool)
plan_tests input ps = (17, parents_differ input ps) ∷ (18, parents_unfit input ps) ∷ []

-- its checks: 4 to 6, 15, 16, 7 to 9, then 17 and 18, last 22
unfoldable pub planned_load_refusal : Input → List ℕ → ℕ
planned_load_refusal input ps =
    first_of (stored_tests input.units input.words input.levels
    ++ (plan_tests input ps ++ unit_tests input.units input.words))

-- the state that it makes
unfoldable pub planned_loaded : Input → List ℕ → State
planned_loaded input ps = with_plan (plan_of ps) (loaded input)
