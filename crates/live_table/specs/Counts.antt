-- The number of links at each unit (document 02, T-09).
use Rattle.std.specs.Prelude.{Bool, not, ◌||◌, List, ℕ, eqb, get_or}
use Rattle.base_lists.specs.Folds.{count, some}
use Rattle.base_lists.specs.Tables.{tab}
use Rattle.table.specs.Table.{max_units, link_count, end_a, end_b}

-- the link at position j has the unit v as an end
abbrev pub ends_at : List ℕ → ℕ → ℕ → Bool
ends_at t v j = eqb (end_a t j) v || eqb (end_b t j) v

-- how many of the first m links are at the unit v
unfoldable pub counted_at : ℕ → List ℕ → ℕ → ℕ
counted_at m t v = count m (ends_at t v)

-- the number of links at the unit v
abbrev pub links_at : List ℕ → ℕ → ℕ
links_at t v = counted_at (link_count t) t v

-- the numbers of all units that a site can have
unfoldable pub counts_to : ℕ → List ℕ → List ℕ
counts_to m t = tab max_units (counted_at m t)

-- 10: a stored number is not the count
unfoldable pub miscounted : ℕ → List ℕ → List ℕ → Bool
miscounted m t counts = some max_units (λ (v : ℕ). not (eqb (get_or counts v 0) (counted_at m t v)))
