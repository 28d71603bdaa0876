-- Document 02, T-02: "of the neighbours visited in the round before, the one with the highest level, ties to the least
-- number". `Best` says it of a unit, `chosen-best` that the choice of a parent is this one, and `chosen` in
-- ParentChoice.antt that there is one wherever such a neighbour is.
use Rattle.std.specs.Prelude.{◌≡◌, true, ◌≢◌, List, ℕ, ◌-◌, ◌≤◌, ◌<◌, ℤ}
use Rattle.std.proofs.Math.Path.{sym}
use Rattle.std.proofs.Common.{◌∙◌}
use Rattle.std.specs.Int.Signed.{le_z}
use borrow.Author.Tests.{eqb-true, eq-eqb}
use Rattle.table.specs.Table.{end_a, end_b}
use Rattle.spec_rules.specs.Basics.{ABSENT, at}
use Rattle.spec_rules.specs.Tree.{visited_before, level_at, Neighbor, best_neighbor, chosen_parent}
use Rattle.spec_rules.proofs.ParentChoice.{Joins, Found, by, lacking, found}

-- link i joins v to w, a neighbour visited in the round before
abbrev pub Offers : ℕ → ℕ → List ℕ → List ℕ → ℕ → ℕ → ℕ → Type 0
Offers m made ends dist v i w = (i < m) × Joins ends i v w × (at dist w ≡ made - 1)

-- c is the parent that v takes, over some link; levels are compared as signed numbers
pub record Best (m made : ℕ) (ends : List ℕ) (levels : List ℤ) (dist : List ℕ) (v c : ℕ) : Type 0 where
  pub link : ℕ
  pub offered : Offers m made ends dist v link c
  -- no such neighbour has a higher level
  pub highest : (i w : ℕ) → Offers m made ends dist v i w → le_z (level_at levels i) (level_at levels link) ≡ true
  -- and none at this level a lesser number
  pub least : (i w : ℕ) → Offers m made ends dist v i w → level_at levels i ≡ level_at levels link → c ≤ w

module _ (m made : ℕ) (ends : List ℕ) (levels : List ℤ) (dist : List ℕ)
    (small_a : (j : ℕ) → j < m → end_a ends j < ABSENT) (small_b : (j : ℕ) → j < m → end_b ends j
    < ABSENT) (v : ℕ) where
  pub chosen-best : chosen_parent m made ends levels dist v ≢ ABSENT →
      Best m made ends levels dist v (chosen_parent m made ends levels dist v)
  unfolding chosen_parent
  chosen-best n = go (best_neighbor (visited_before made dist) m ends levels v) n
      (found (visited_before made dist) ends levels v m small_a small_b)
    where
      go : (best : Neighbor) → best.unit ≢ ABSENT → Found (visited_before made dist) ends levels v m best →
          Best m made ends levels dist v best.unit
      go best n (lacking e f) = absurd (n e)
      go best n (by j (l, h, g) s e low) =
          record {
            link = j;
            offered = (l, h, eqb-true (at dist best.unit) (made - 1) g);
            highest = λ i w (li, hi, gi). rw (← e) (low i w (li, hi, eq-eqb (at dist w) (made - 1) gi)).0;
            least = λ i w (li, hi, gi) q. (low i w (li, hi, eq-eqb (at dist w) (made - 1) gi)).1 (q ∙ sym e);
          }
