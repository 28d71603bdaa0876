-- Where all links have one level, T-02's choice of a parent is the base's: the least-numbered neighbour visited in the
-- round before. So a table that came without levels gets the tree that document 01 describes.
use Rattle.std.specs.Prelude.{◌≡◌, true, false, cond, ◌&&◌, ◌⊎◌, List, eqb, ℤ}
use Rattle.std.proofs.Math.Path.{refl, sym}
use Rattle.std.proofs.Common.{◌∙◌, inl, inr, le_refl, arith, eq-eqb, ne_eqb}
use Prim.Native.Nat.{ℕ, zero, suc, ◌<◌, min}
use Rattle.std.proofs.Math.Nat.{le_step}
use Rattle.base_lists.specs.Folds.{least}
use Rattle.base_lists.specs.Tests.{either}
use Rattle.table.specs.Table.{end_a, end_b}
use Rattle.spec_rules.specs.Basics.{ABSENT}
use Rattle.spec_rules.specs.Tree.{visited_before, level_at, better, Neighbor, prefer, over_link, best_neighbor}
use Rattle.spec_rules.specs.Tree.{chosen_parent}
use Rattle.spec_rules.proofs.ParentChoice.{better-behind, not_better}

-- document 01: the neighbour that link j gives v, and the least-numbered of them
abbrev neighbor : ℕ → List ℕ → List ℕ → ℕ → ℕ → ℕ
neighbor made ends dist v j =
    cond (eqb (end_a ends j) v && visited_before made dist (end_b ends j)) (end_b ends j)
    (cond (eqb (end_b ends j) v && visited_before made dist (end_a ends j)) (end_a ends j) ABSENT)

unfoldable pub least_numbered : ℕ → ℕ → List ℕ → List ℕ → ℕ → ℕ
least_numbered m made ends dist v = least m (neighbor made ends dist v) ABSENT

-- a neighbour at level z, or none, by its number
data Matches (z : ℤ) (best : Neighbor) (w : ℕ) : Type 0 where
  both : best.level ≡ z → best.unit ≡ w → w < ABSENT → Matches z best w
  neither : best.unit ≡ ABSENT → w ≡ ABSENT → Matches z best w

matches_none : (z : ℤ) (best : Neighbor) (w : ℕ) → Matches z best w → Matches z best (min w ABSENT)
matches_none z best w (both e f s) = both e (omega (arith, f, s)) (omega (arith, s))
matches_none z best w (neither e f) = neither e (omega (arith, f))

matches_more : (z : ℤ) (best : Neighbor) (w x : ℕ) → Matches z best w → x < ABSENT →
    Matches z (prefer best z x) (min w x)
unfolding prefer
matches_more z best w x (neither e f) s =
    rw (eq-eqb best.unit ABSENT e) (both refl (omega (arith, f, s)) (omega (arith, s)))
matches_more z best w x (both e f t) s =
    rw (ne_eqb best.unit ABSENT (λ q. omega (arith, q, f, t))) (go (either (better z x best.level best.unit)))
  where
    go : (better z x best.level best.unit ≡ true) ⊎ (better z x best.level best.unit ≡ false)
        → Matches z (cond (better z x best.level best.unit) (record { level = z; unit = x }) best) (min w x)
    go (inl q) = rw q (both refl (omega (arith, f, (better-behind z x best.level best.unit q).1 e))
        (omega (arith, s)))
    go (inr q) = rw q (both e (omega (arith, f, (not_better z x best.level best.unit q).1 (sym e)))
        (omega (arith, s)))

module _ (made : ℕ) (ends : List ℕ) (levels : List ℤ) (dist : List ℕ) (v : ℕ) (z : ℤ) where
  -- link by link
  link_matches : (j : ℕ) (best : Neighbor) (w : ℕ) → end_a ends j < ABSENT → end_b ends j < ABSENT →
      level_at levels j ≡ z → Matches z best w
      → Matches z (over_link (visited_before made dist) (level_at levels j) (end_a ends j) (end_b ends j) v best)
      (min w (neighbor made ends dist v j))
  link_matches j best w sa sb e m =
      rw e
      (go (either (eqb (end_a ends j) v && visited_before made dist (end_b ends j)))
      (either (eqb (end_b ends j) v && visited_before made dist (end_a ends j))))
    where
      go : ((eqb (end_a ends j) v && visited_before made dist (end_b ends j)) ≡ true)
          ⊎ ((eqb (end_a ends j) v && visited_before made dist (end_b ends j)) ≡ false)
          → ((eqb (end_b ends j) v && visited_before made dist (end_a ends j)) ≡ true)
          ⊎ ((eqb (end_b ends j) v && visited_before made dist (end_a ends j)) ≡ false)
          → Matches z (over_link (visited_before made dist) z (end_a ends j) (end_b ends j) v best)
          (min w (neighbor made ends dist v j))
      go (inl p) q = rw p (matches_more z best w (end_b ends j) m sb)
      go (inr p) (inl q) = rw (p, q) (matches_more z best w (end_a ends j) m sa)
      go (inr p) (inr q) = rw (p, q) (matches_none z best w m)

  -- all links
  links_match : (m : ℕ) → ((j : ℕ) → j < m → end_a ends j < ABSENT) → ((j : ℕ) → j < m → end_b ends j < ABSENT) →
      ((j : ℕ) → j < m → level_at levels j ≡ z)
      → Matches z (best_neighbor (visited_before made dist) m ends levels v)
      (least m (neighbor made ends dist v) ABSENT)
  unfolding best_neighbor
  links_match zero sa sb e = neither refl refl
  links_match (suc m) sa sb e =
      link_matches m (best_neighbor (visited_before made dist) m ends levels v)
      (least m (neighbor made ends dist v) ABSENT)
      (sa m (le_refl (suc m))) (sb m (le_refl (suc m))) (e m (le_refl (suc m)))
      (links_match m (λ j l. sa j (le_step l)) (λ j l. sb j (le_step l)) (λ j l. e j (le_step l)))

  pub equal-levels : (m : ℕ) → ((j : ℕ) → j < m → end_a ends j < ABSENT) → ((j : ℕ) → j < m → end_b ends j < ABSENT) →
      ((j : ℕ) → j < m → level_at levels j ≡ z)
      → chosen_parent m made ends levels dist v ≡ least_numbered m made ends dist v
  unfolding chosen_parent least_numbered
  equal-levels m sa sb e = go (best_neighbor (visited_before made dist) m ends levels v)
      (least m (neighbor made ends dist v) ABSENT) (links_match m sa sb e)
    where
      go : (best : Neighbor) (w : ℕ) → Matches z best w → best.unit ≡ w
      go best w (both e f s) = f
      go best w (neither f s) = f ∙ sym s
