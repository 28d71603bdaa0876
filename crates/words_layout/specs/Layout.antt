-- A state as words: its numbers and tables one after the other, in the order of its groups. Where each lies follows
-- from one list of sizes.
use Rattle.std.specs.Prelude.{List, [], ◌∷◌, ℕ, ◌+◌, get_or, take}
use Rattle.table_levels.specs.Level.{from_words}
use Rattle.base_copies.specs.Parts.{part}
use Rattle.spec_machine.specs.State.{State}

-- the words of each field: counts, ends, clock; color, parent, dist; next, pred, jump, sum, forward; nd, pre; low,
-- high, little, big; global low and high; aux parents, links, color; class, label; levels, each the two's complement of
-- a level; the planner's parents, and whether they were given
abbrev pub sizes : List ℕ
sizes = 2 ∷ 2048 ∷ 4 ∷ 256 ∷ 256 ∷ 256 ∷ 512 ∷ 512 ∷ 512 ∷ 512 ∷ 512 ∷ 256 ∷ 256 ∷ 256 ∷ 256 ∷ 256 ∷ 256 ∷ 256 ∷ 256
    ∷ 256 ∷ 1024 ∷ 256 ∷ 1024 ∷ 1024 ∷ 1024 ∷ 256 ∷ 1 ∷ []

abbrev pub extent : List ℕ → ℕ
extent [] = 0
extent (n ∷ ns) = n + extent ns

abbrev pub STATE-WORDS : ℕ
STATE-WORDS = extent sizes

abbrev pub size : ℕ → ℕ
size i = get_or sizes i 0

-- where a field begins
abbrev pub place : ℕ → ℕ
place i = extent (take i sizes)

abbrev pub field : ℕ → List ℕ → List ℕ
field i ws = part (place i) (size i) ws

-- the state that has these fields
abbrev pub state_by : (ℕ → List ℕ) → State
state_by f =
    record {
      table = record { units = get_or (f 0) 0 0; links = get_or (f 0) 1 0; ends = f 1; levels = from_words (f 24) };
      clock = record {
        stage = get_or (f 2) 0 0;
        made = get_or (f 2) 1 0;
        rounds = get_or (f 2) 2 0;
        requests = get_or (f 2) 3 0;
      };
      components = record { color = f 3 };
      plan = record { given = get_or (f 26) 0 0; parent = f 25 };
      tree = record { parent = f 4; dist = f 5 };
      tour = record { next = f 6; pred = f 7 };
      ranking = record { jump = f 8; sum = f 9 };
      order = record { forward = f 10; nd = f 11; pre = f 12 };
      range = record { low = f 13; high = f 14; little = f 15; big = f 16 };
      global = record { low = f 17; high = f 18 };
      aux = record { parents = f 19; links = f 20; color = f 21 };
      labels = record { class = f 22; label = f 23 };
    }

-- the state that words are
unfoldable pub state_of : List ℕ → State
state_of ws = state_by (λ (i : ℕ). field i ws)
