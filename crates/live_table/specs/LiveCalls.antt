-- The calls of a live table (document 02, T-09): what each checks, in order, and what it hands back.
use Rattle.std.specs.Prelude.{Bool, cond, not, ◌||◌, List, [], ◌∷◌, ◌++◌, ℕ, eqb, leb, ltb, ℤ}
use Rattle.table_levels.specs.Level.{in_range}
use Rattle.table.specs.Refusals.{first_of}
use Rattle.table.specs.Table.{max_links, bad_unit_count, level_outside, end_missing, equal_ends, repeated_link}
use Rattle.table.specs.Table.{same_ends}
use Rattle.table.specs.Table.{joined_in, stored_refusal}
use Rattle.spec_machine.specs.Load.{Input, links_in}
use Rattle.live_table.specs.Counts.{miscounted}
use Rattle.live_table.specs.Live.{Live, held, live_of, unopened, added, withdrawn}

-- what a call hands back: a live table, and the number of a refusal, 0 where there was none
pub record Answer : Type 0 where
  pub live : Live
  pub number : ℕ

-- the answer where refusal k came up, or the call was made (k = 0)
abbrev pub answered : ℕ → Live → Live → Answer
answered k given after = record { live = cond (eqb k 0) after given; number = k }

-- ---- opening: load's checks of a stored table, 4, 5, 6, 15, 16, 7, 8, 9

abbrev pub open_refusal : Input → ℕ
open_refusal x = stored_refusal x.units x.words x.levels

unfoldable pub open_answer : Input → Answer
open_answer x = answered (open_refusal x) unopened (live_of x)

-- ---- the checks of a change

-- of the given table: 4, 6, 16, 7, 8, 9
abbrev pub held_tests : Live → List (ℕ × Bool)
held_tests l =
    (4, bad_unit_count l.units)
    ∷ (6, ltb max_links l.links)
    ∷ (16, level_outside (held l).levels)
    ∷ (7, end_missing l.units (held l).words)
    ∷ (8, equal_ends (held l).words)
    ∷ (9, repeated_link (held l).words)
    ∷ []

-- then 10: a stored number is not the count
abbrev pub count_tests : Live → List (ℕ × Bool)
count_tests l = (10, miscounted l.links (held l).words l.counts) ∷ []

abbrev pub given_tests : Live → List (ℕ × Bool)
given_tests l = held_tests l ++ count_tests l

-- of a link to be added: 6, 16, 7, 8, 9
abbrev pub link_tests : ℕ → ℕ → ℤ → Input → List (ℕ × Bool)
link_tests a b level x =
    (6, leb max_links (links_in x))
    ∷ (16, not (in_range level))
    ∷ (7, leb x.units a || leb x.units b)
    ∷ (8, eqb a b)
    ∷ (9, joined_in same_ends a b x.words)
    ∷ []

-- of two units whose link is to be withdrawn: 7, 8; then 21, no link joins them
abbrev pub pair_tests : ℕ → ℕ → Input → List (ℕ × Bool)
pair_tests a b x =
    (7, leb x.units a || leb x.units b)
    ∷ (8, eqb a b)
    ∷ (21, not (joined_in same_ends a b x.words))
    ∷ []

unfoldable pub given_refusal : Live → ℕ
given_refusal l = first_of (given_tests l)

unfoldable pub link_refusal : ℕ → ℕ → ℤ → Input → ℕ
link_refusal a b level x = first_of (link_tests a b level x)

unfoldable pub pair_refusal : ℕ → ℕ → Input → ℕ
pair_refusal a b x = first_of (pair_tests a b x)

-- ---- adding and withdrawing

unfoldable pub add_refusal : ℕ → ℕ → ℤ → Live → ℕ
add_refusal a b level l = first_of (given_tests l ++ link_tests a b level (held l))

unfoldable pub add_answer : ℕ → ℕ → ℤ → Live → Answer
add_answer a b level l = answered (add_refusal a b level l) l (live_of (added a b level (held l)))

unfoldable pub withdraw_refusal : ℕ → ℕ → Live → ℕ
withdraw_refusal a b l = first_of (given_tests l ++ pair_tests a b (held l))

unfoldable pub withdraw_answer : ℕ → ℕ → Live → Answer
withdraw_answer a b l = answered (withdraw_refusal a b l) l (live_of (withdrawn a b (held l)))
