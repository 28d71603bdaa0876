-- Counts, additions and withdrawals by hand.
use Rattle.std.specs.Prelude.{◌≡◌, refl, [], ◌∷◌, pos, negsuc}
use Rattle.table.specs.Table.{joined_in}
use Rattle.table_levels.specs.Level.{in_range}
use Rattle.spec_machine.specs.Load.{Input}
use Rattle.live_table.specs.Counts.{counted_at, links_at}
use Rattle.live_table.specs.Live.{place_of, added, withdrawn}
use Rattle.live_table.specs.LiveCalls.{link_refusal, pair_refusal}

-- 0-1, 2-1, 0-2 with levels −5, −6, −7, and a fourth unit
abbrev three : Input
three = record { units = 4; words = 0 ∷ 1 ∷ 2 ∷ 1 ∷ 0 ∷ 2 ∷ []; levels = negsuc 4 ∷ negsuc 5 ∷ negsuc 6 ∷ [] }

-- two links at unit 1, none at unit 3
two : links_at three.words 1 ≡ 2
unfolding counted_at
two = refl

none : links_at three.words 3 ≡ 0
unfolding counted_at
none = refl

-- a link to unit 3 may be added; one between 1 and 2 is there, the other way round; there is no unit 4
free : link_refusal 3 1 (pos 0) three ≡ 0
unfolding link_refusal joined_in in_range
free = refl

joined : link_refusal 1 2 (pos 0) three ≡ 9
unfolding link_refusal joined_in in_range
joined = refl

missing : link_refusal 1 4 (pos 0) three ≡ 7
unfolding link_refusal joined_in in_range
missing = refl

-- the link between 1 and 2 withdrawn: 0-2 moves to position 1, and its level with it
fewer : withdrawn 1 2 three ≡ record { units = 4; words = 0 ∷ 1 ∷ 0 ∷ 2 ∷ []; levels = negsuc 4 ∷ negsuc 6 ∷ [] }
unfolding place_of
fewer = refl

-- no link joins 1 and 3
apart : pair_refusal 1 3 three ≡ 21
unfolding pair_refusal joined_in
apart = refl
