-- Document 01's "kept" in words, and that the test `wellFormed` decides it.
use Rattle.std.specs.Prelude.{◌≡◌, Bool, true, ◌↔◌, ◌⊎◌, List, ℕ, ◌*◌, ◌≤◌, ◌<◌, eqb, ltb}
use Rattle.std.proofs.Common.{ltb-true, lt-ltb}
use Rattle.base_lists.specs.All.{All, every-exact}
use Rattle.base_lists.specs.Folds.{every}
use Rattle.base_lists.specs.Tests.{and_exact, cond-exact}
use Rattle.table_levels.specs.Level.{in_range}
use Rattle.table_levels.specs.LevelLaws.{InRange, range-exact}
use Rattle.table.specs.Table.{max_links, bare_refusal}
use Rattle.spec_rules.specs.Bounds.{name_ok, number_ok, dist_ok}
use Rattle.spec_rules.specs.BoundLaws.{Names, Number, Distance, le_exact, eq_exact, name-exact, number-exact}
use Rattle.spec_rules.specs.BoundLaws.{distance-exact}
use Rattle.spec_rules.specs.Ceilings.{ceiling}
use Rattle.spec_machine.specs.State.{State}
use Rattle.spec_machine.specs.State.{units, links, words, FINISHED, MAX-ROUNDS, MAX-REQUESTS}
use Rattle.spec_machine.specs.WellFormed.{unit_tables, arc_tables, link_tables, dist_tables, number_tables, table_ok}
use Rattle.spec_machine.specs.WellFormed.{made_ok, clock_ok, entries_ok, well_formed}

-- "the rounds of the stage are below its ceiling (zero at stage 11)"
abbrev pub MadeOk : State → Type 0
MadeOk s =
    ((s.clock.stage ≡ FINISHED) × (s.clock.made ≡ 0))
    ⊎ ((s.clock.stage ≡ FINISHED → ⊥) × (s.clock.made < ceiling (units s) s.clock.stage))

pub record Kept (s : State) : Type 0 where
  pub few : links s ≤ max_links
  pub passes : bare_refusal (units s) (words s) ≡ 0
  pub from : 1 ≤ s.clock.stage
  pub to : s.clock.stage ≤ FINISHED
  pub made : MadeOk s
  pub rounds : s.clock.rounds ≤ MAX-ROUNDS
  pub requests : s.clock.requests ≤ MAX-REQUESTS
  pub unit_names : All (All (Names (units s))) (unit_tables s)
  pub arc_names : All (All (Names (2 * units s))) (arc_tables s)
  pub link_names : All (All (Names (links s))) (link_tables s)
  pub distances : All (All Distance) (dist_tables s)
  pub numbers : All (All Number) (number_tables s)
  pub levels : All InRange s.table.levels
  pub given : Number s.plan.given

-- ---- the tests decide the words

made-exact : (s : State) → (made_ok (units s) s.clock ≡ true) ↔ MadeOk s
unfolding made_ok
made-exact s =
    cond-exact (eqb s.clock.stage FINISHED) (eqb s.clock.made 0)
    (ltb s.clock.made (ceiling (units s) s.clock.stage))
    (eq_exact s.clock.stage FINISHED) (eq_exact s.clock.made 0) (
      ltb-true s.clock.made (ceiling (units s) s.clock.stage),
      lt-ltb s.clock.made (ceiling (units s) s.clock.stage),
    )

table-exact : (s : State) → (table_ok (units s) (links s) s.table.ends ≡ true)
    ↔ ((links s ≤ max_links) × (bare_refusal (units s) (words s) ≡ 0))
unfolding table_ok
table-exact s = and_exact _ _ (le_exact (links s) max_links) (eq_exact (bare_refusal (units s) (words s)) 0)

clock-exact : (s : State)
    → (clock_ok (units s) s.clock ≡ true)
    ↔ (((((1 ≤ s.clock.stage) × (s.clock.stage ≤ FINISHED)) × MadeOk s) × (s.clock.rounds ≤ MAX-ROUNDS))
    × (s.clock.requests ≤ MAX-REQUESTS))
unfolding clock_ok
clock-exact s =
    and_exact _ _
    (and_exact _ _
    (and_exact _ _ (and_exact _ _ (le_exact 1 s.clock.stage) (le_exact s.clock.stage FINISHED)) (made-exact s))
    (le_exact s.clock.rounds MAX-ROUNDS))
    (le_exact s.clock.requests MAX-REQUESTS)

tables-exact : (p : ℕ → Bool) (P : ℕ → Type 0) → ((x : ℕ) → (p x ≡ true) ↔ P x) → (ts : List (List ℕ)) →
    (every (every p) ts ≡ true) ↔ All (All P) ts
tables-exact p P h ts = every-exact (every p) (All P) (every-exact p P h) ts

entries-exact : (s : State)
    → (entries_ok s ≡ true)
    ↔ ((((((All (All (Names (units s))) (unit_tables s) × All (All (Names (2 * units s))) (arc_tables s))
    × All (All (Names (links s))) (link_tables s))
    × All (All Distance) (dist_tables s))
    × All (All Number) (number_tables s))
    × All InRange s.table.levels)
    × Number s.plan.given)
unfolding entries_ok
entries-exact s =
    and_exact _ _
    (and_exact _ _
    (and_exact _ _
    (and_exact _ _
    (and_exact _ _
    (and_exact _ _
    (tables-exact (name_ok (units s)) (Names (units s)) (name-exact (units s)) (unit_tables s))
    (tables-exact (name_ok (2 * units s)) (Names (2 * units s)) (name-exact (2 * units s)) (arc_tables s)))
    (tables-exact (name_ok (links s)) (Names (links s)) (name-exact (links s)) (link_tables s)))
    (tables-exact dist_ok Distance distance-exact (dist_tables s)))
    (tables-exact number_ok Number number-exact (number_tables s)))
    (every-exact in_range InRange range-exact s.table.levels))
    (number-exact s.plan.given)

-- the test is exact
pub kept-exact : (s : State) → (well_formed s ≡ true) ↔ Kept s
unfolding well_formed
kept-exact s = (λ (e : well_formed s ≡ true). words-of (whole.0 e), λ (k : Kept s). whole.1 (parts-of k))
  where
    Parts : Type 0
    Parts =
        (((links s ≤ max_links) × (bare_refusal (units s) (words s) ≡ 0))
        × (((((1 ≤ s.clock.stage) × (s.clock.stage ≤ FINISHED)) × MadeOk s) × (s.clock.rounds ≤ MAX-ROUNDS))
        × (s.clock.requests ≤ MAX-REQUESTS)))
        × ((((((All (All (Names (units s))) (unit_tables s) × All (All (Names (2 * units s))) (arc_tables s))
        × All (All (Names (links s))) (link_tables s))
        × All (All Distance) (dist_tables s))
        × All (All Number) (number_tables s))
        × All InRange s.table.levels)
        × Number s.plan.given)

    whole : (well_formed s ≡ true) ↔ Parts
    whole = and_exact _ _ (and_exact _ _ (table-exact s) (clock-exact s)) (entries-exact s)

    words-of : Parts → Kept s
    words-of p =
        record {
          few = p.0.0.0;
          passes = p.0.0.1;
          from = p.0.1.0.0.0.0;
          to = p.0.1.0.0.0.1;
          made = p.0.1.0.0.1;
          rounds = p.0.1.0.1;
          requests = p.0.1.1;
          unit_names = p.1.0.0.0.0.0.0;
          arc_names = p.1.0.0.0.0.0.1;
          link_names = p.1.0.0.0.0.1;
          distances = p.1.0.0.0.1;
          numbers = p.1.0.0.1;
          levels = p.1.0.1;
          given = p.1.1;
        }

    parts-of : Kept s → Parts
    parts-of k = (
      ((k.few, k.passes), ((((k.from, k.to), k.made), k.rounds), k.requests)),
      ((((((k.unit_names, k.arc_names), k.link_names), k.distances), k.numbers), k.levels), k.given),
    )
