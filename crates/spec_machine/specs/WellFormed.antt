-- A state is well formed (document 01: kept). Every entry of every array is judged, those past n, 2n and m too.
use Rattle.std.specs.Prelude.{Bool, cond, ◌&&◌, List, [], ◌∷◌, ℕ, ◌*◌, eqb, leb, ltb, take}
use Rattle.base_lists.specs.Folds.{every}
use Rattle.table_levels.specs.Level.{in_range}
use Rattle.table.specs.Table.{max_links, bare_refusal}
use Rattle.spec_rules.specs.Bounds.{name_ok, number_ok, dist_ok}
use Rattle.spec_rules.specs.Ceilings.{ceiling}
use Rattle.spec_machine.specs.State.{State}
use Rattle.spec_state.specs.declared.groups.Clock.{Clock}
use Rattle.spec_machine.specs.State.{units, links, FINISHED, MAX-ROUNDS, MAX-REQUESTS}

-- ---- the tables by what their entries are

-- units; the ends past the last link are judged as stored units alone
abbrev pub unit_tables : State → List (List ℕ)
unit_tables s = s.table.ends ∷ s.components.color ∷ s.tree.parent ∷ s.aux.color ∷ s.labels.class
    ∷ s.plan.parent ∷ []

-- list places
abbrev pub arc_tables : State → List (List ℕ)
arc_tables s = s.tour.next ∷ s.tour.pred ∷ s.ranking.jump ∷ []

-- links
abbrev pub link_tables : State → List (List ℕ)
link_tables s = s.labels.label ∷ []

abbrev pub dist_tables : State → List (List ℕ)
dist_tables s = s.tree.dist ∷ []

abbrev pub number_tables : State → List (List ℕ)
number_tables s =
    s.ranking.sum
    ∷ s.order.forward
    ∷ s.order.nd
    ∷ s.order.pre
    ∷ s.range.low
    ∷ s.range.high
    ∷ s.range.little
    ∷ s.range.big
    ∷ s.global.low
    ∷ s.global.high
    ∷ s.aux.parents
    ∷ s.aux.links
    ∷ []

-- ---- the clauses

-- n and links pass 4 to 9
unfoldable pub table_ok : ℕ → ℕ → List ℕ → Bool
table_ok n m ends = leb m max_links && eqb (bare_refusal n (take (2 * m) ends)) 0

-- the rounds of the stage are below its ceiling for n units, zero at stage 11
unfoldable pub made_ok : ℕ → Clock → Bool
made_ok n c = cond (eqb c.stage FINISHED) (eqb c.made 0) (ltb c.made (ceiling n c.stage))

-- the stage is 1 to 11; all rounds and requests are within their limits
unfoldable pub clock_ok : ℕ → Clock → Bool
clock_ok n c =
    leb 1 c.stage
    && leb c.stage FINISHED
    && made_ok n c
    && leb c.rounds MAX-ROUNDS
    && leb c.requests MAX-REQUESTS

-- every stored name of a unit, list place or link is absent or names one that exists; distances are at most 2,048 or
-- absent, other numbers at most 2,048; every level is in range (document 02, T-01); whether a plan was given is a
-- stored number (T-05)
unfoldable pub entries_ok : State → Bool
entries_ok s =
    every (every (name_ok (units s))) (unit_tables s)
    && every (every (name_ok (2 * units s))) (arc_tables s)
    && every (every (name_ok (links s))) (link_tables s)
    && every (every dist_ok) (dist_tables s)
    && every (every number_ok) (number_tables s)
    && every in_range s.table.levels
    && number_ok s.plan.given

unfoldable pub well_formed : State → Bool
well_formed s = table_ok (units s) (links s) s.table.ends && clock_ok (units s) s.clock && entries_ok s
