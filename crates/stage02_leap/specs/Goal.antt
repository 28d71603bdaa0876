-- Distances found ahead of the rounds of stage 2: when they are right, and the tables that they give.
use Rattle.std.specs.Prelude.{◌≡◌, ℕ, ◌+◌, ◌<◌, ◌≤◌, Bool, cond, not, ◌&&◌, ◌≢◌, ◌⊎◌, List, length, ℤ, ◌==◌, nat_le}
use Rattle.std.specs.Prelude.{nat_lt}
use Rattle.base_lists.specs.Tables.{over}
use Rattle.table.specs.Table.{end_a, end_b}
use Rattle.spec_rules.specs.Basics.{ABSENT, at}
use Rattle.spec_rules.specs.Tree.{best_neighbor}

-- w is one nearer than v
abbrev pub one_nearer : List ℕ → ℕ → ℕ → Bool
one_nearer far v w = at far w + 1 == at far v

-- of the neighbours one nearer the one with the highest level, ties to the least number
unfoldable pub nearest : ℕ → List ℕ → List ℤ → List ℕ → ℕ → ℕ
nearest m ends levels far v = (best_neighbor (one_nearer far v) m ends levels v).unit

-- what the table holds of v's distance where so many rounds are made
abbrev pub shown : ℕ → List ℕ → ℕ → ℕ
shown made far v = cond (nat_lt (at far v) made) (at far v) ABSENT

-- far has the distances that the table has and that the rounds still give: the ends of a link are at most one apart,
-- each unit still to be visited has a neighbour one nearer, and round `last` is the first that visits none
pub record Goal (n m made last : ℕ) (ends : List ℕ) (levels : List ℤ) (dist far : List ℕ) : Type 0 where
  pub few : n ≤ 256
  pub full : n ≤ length dist
  pub inside : (j : ℕ) → j < m → (end_a ends j < n) × (end_b ends j < n)
  pub begun : 1 ≤ made
  pub to : made ≤ last
  pub small : last < ABSENT
  pub known : (v : ℕ) → v < n → at dist v ≡ shown made far v
  pub beside : (j : ℕ) → j < m → (at far (end_a ends j) ≤ at far (end_b ends j) + 1)
      × (at far (end_b ends j) ≤ at far (end_a ends j) + 1)
  pub led : (v : ℕ) → v < n → made ≤ at far v →
      (at far v ≡ ABSENT) ⊎ ((at far v < last) × (nearest m ends levels far v ≢ ABSENT))
  pub tip : (v : ℕ) × (v < n) × (at far v + 1 ≡ last)

-- ---- the tables that the rounds leave

-- v is still to be visited where so many rounds are made
abbrev pub unvisited : ℕ → List ℕ → ℕ → Bool
unvisited made far v = nat_le made (at far v) && not (at far v == ABSENT)

-- and has the best neighbour one nearer as its parent then
abbrev pub parent_left : ℕ → ℕ → List ℕ → List ℤ → List ℕ → List ℕ → ℕ → ℕ
parent_left m made ends levels far parent v = cond (unvisited made far v) (nearest m ends levels far v) (at parent v)

-- the same from a table of these
abbrev pub parent_from : ℕ → List ℕ → List ℕ → List ℕ → ℕ → ℕ
parent_from made far cand parent v = cond (unvisited made far v) (at cand v) (at parent v)

-- tables after round `last`, by right distances
pub record Leapt (n m made last : ℕ) (ends : List ℕ) (levels : List ℤ)
    (parent dist new-parent new-dist : List ℕ) : Type 0 where
  pub far : List ℕ
  pub goal : Goal n m made last ends levels dist far
  pub room : last ≤ n
  pub parents : new-parent ≡ over n (parent_left m made ends levels far parent) parent
  pub dists : new-dist ≡ over n (at far) dist
