-- A live table (T-09) as words: its numbers and tables one after the other. Where each lies follows from one list of
-- sizes.
use Rattle.std.specs.Prelude.{cond, List, [], ◌∷◌, ◌++◌, ℕ, eqb, get_or, take}
use Rattle.table_levels.specs.Level.{to_words, from_words}
use Rattle.base_copies.specs.Parts.{part}
use Rattle.words_layout.specs.Layout.{extent}
use Rattle.live_table.specs.Live.{Live}
use Rattle.live_table.specs.LiveCalls.{Answer}

-- the words of each field: units and links; ends; levels, each the two's complement of a level; the number of links at
-- each unit
abbrev pub live_sizes : List ℕ
live_sizes = 2 ∷ 2048 ∷ 1024 ∷ 256 ∷ []

abbrev pub LIVE-WORDS : ℕ
LIVE-WORDS = extent live_sizes

abbrev pub live_field : ℕ → List ℕ → List ℕ
live_field i ws = part (extent (take i live_sizes)) (get_or live_sizes i 0) ws

-- the live table that words are
unfoldable pub live_in : List ℕ → Live
live_in ws =
    record {
      units = get_or (live_field 0 ws) 0 0;
      links = get_or (live_field 0 ws) 1 0;
      ends = live_field 1 ws;
      levels = from_words (live_field 2 ws);
      counts = live_field 3 ws;
    }

-- the words of a live table
unfoldable pub live_words : Live → List ℕ
live_words l = l.units ∷ l.links ∷ (l.ends ++ (to_words l.levels ++ l.counts))

-- what a call leaves in lent words, and the live table that they are then: as they were, where it was refused
abbrev pub words_left : Answer → List ℕ → List ℕ
words_left answer old = cond (eqb answer.number 0) (live_words answer.live) old

abbrev pub live_left : Answer → Live → Live
live_left answer old = cond (eqb answer.number 0) answer.live old
