-- A live table (document 02, T-09), and what is made of the lists that it holds: opened as given, a link added at the
-- end, a link withdrawn by its two units.
use Rattle.std.specs.Prelude.{cond, List, [], ◌∷◌, ◌++◌, ℕ, suc, ◌+◌, ◌*◌, take, drop, ℤ}
use Rattle.table.specs.Table.{same_ends}
use Rattle.spec_machine.specs.Load.{Input, links_in, ends_of, levels_of}
use Rattle.live_table.specs.Counts.{counts_to}

-- the ends of link j stand at 2j and 2j + 1, its level at j, the number of links at unit v at v
pub record Live : Type 0 where
  pub units : ℕ
  pub links : ℕ
  pub ends : List ℕ
  pub levels : List ℤ
  pub counts : List ℕ

-- what it holds, as a load takes it
abbrev pub held : Live → Input
held l = record { units = l.units; words = take (2 * l.links) l.ends; levels = take l.links l.levels }

-- the live table that holds it: ends past the links absent, levels past them 0, each number the count
unfoldable pub live_of : Input → Live
live_of x = record {
  units = x.units;
  links = links_in x;
  ends = ends_of x.words;
  levels = levels_of x.levels;
  counts = counts_to (links_in x) x.words;
}

-- of no unit and no link: what is in hand where opening was refused
abbrev pub unopened : Live
unopened = live_of (record { units = 0; words = []; levels = [] })

-- a link at the end
abbrev pub added : ℕ → ℕ → ℤ → Input → Input
added a b level x = record { units = x.units; words = x.words ++ a ∷ b ∷ []; levels = x.levels ++ level ∷ [] }

-- the first position of a link that joins a and b, whichever way round; the number of links where none does
unfoldable pub place_of : ℕ → ℕ → List ℕ → ℕ
place_of a b [] = 0
place_of a b (c ∷ []) = 0
place_of a b (c ∷ d ∷ t) = let later = place_of a b t in cond (same_ends a b c d) 0 (suc later)

-- a list without the k entries from a place on: those after them move down
module _ {A : Type 0} where
  abbrev pub without : ℕ → ℕ → List A → List A
  without at k l = take at l ++ drop (at + k) l

-- the link at position j gone: later positions move down by one, and their levels with them
abbrev pub less_link : ℕ → Input → Input
less_link j x = record { units = x.units; words = without (2 * j) 2 x.words; levels = without j 1 x.levels }

-- the link that joins a and b gone
abbrev pub withdrawn : ℕ → ℕ → Input → Input
withdrawn a b x = less_link (place_of a b x.words) x
