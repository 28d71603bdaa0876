-- Ends of links read below 256, the rest of a greater number: where the links fit they are the ends themselves.
use Rattle.std.specs.Prelude.{◌≡◌, List, map, ℕ, ◌+◌, ◌*◌, ◌%◌, ◌<◌, ℤ}
use Rattle.std.proofs.Math.Path.{refl, ap}
use Rattle.std.proofs.Common.{◌∙◌, arith}
use Rattle.std.proofs.Math.Bool.{not}
use Rattle.std.proofs.Math.ListN.{get_or-map}
use Rattle.base_lists.specs.Some.{some_cong}
use Rattle.base_lists.specs.Tables.{over_cong}
use Rattle.table.specs.Table.{end_a, end_b}
use Rattle.spec_rules.specs.Fits.{EndsWithin}
use Rattle.spec_rules.specs.Tree.{visited_before, Neighbor, chosen_parent, visits, parent_round, dist_round, tree_ends}
use Rattle.spec_rules.proofs.ParentChoice.{best-ends}

unfoldable pub wrapped : List ℕ → List ℕ
wrapped ends = map (λ (x : ℕ). x % 256) ends

module _ (ends : List ℕ) (j : ℕ) where
  pub first-wrapped : end_a (wrapped ends) j ≡ end_a ends j % 256
  unfolding wrapped
  first-wrapped = get_or-map (λ (x : ℕ). x % 256) ends (2 * j) 0

  pub second-wrapped : end_b (wrapped ends) j ≡ end_b ends j % 256
  unfolding wrapped
  second-wrapped = get_or-map (λ (x : ℕ). x % 256) ends (2 * j + 1) 0

module _ (m made : ℕ) (ends : List ℕ) (levels : List ℤ) (color dist : List ℕ) (within : EndsWithin 256 m ends) where
  chosen-wrapped : (v : ℕ) → chosen_parent m made (wrapped ends) levels dist v ≡ chosen_parent m made ends levels dist v
  unfolding chosen_parent
  chosen-wrapped v =
      ap (λ (x : Neighbor). x.unit)
      (best-ends (visited_before made dist) m (wrapped ends) ends levels v
      (λ j l. (
        first-wrapped ends j ∙ omega (arith, within.1 (2 * j) (omega (arith, l))),
        second-wrapped ends j ∙ omega (arith, within.1 (2 * j + 1) (omega (arith, l))),
      )))

  visits-wrapped : (v : ℕ) → visits m made (wrapped ends) levels color dist v ≡ visits m made ends levels color dist v
  unfolding visits
  visits-wrapped v = rw (chosen-wrapped v) refl

  pub parents-wrapped : (n : ℕ) (parent : List ℕ) →
      parent_round n m made (wrapped ends) levels color dist parent
      ≡ parent_round n m made ends levels color dist parent
  unfolding parent_round
  parents-wrapped n parent = over_cong n _ _ parent
      (λ (v : ℕ) (h : v < n). rw (visits-wrapped v, chosen-wrapped v) refl)

  pub dists-wrapped : (n : ℕ) → dist_round n m made (wrapped ends) levels color dist
      ≡ dist_round n m made ends levels color dist
  unfolding dist_round
  dists-wrapped n = over_cong n _ _ dist (λ (v : ℕ) (h : v < n). rw (visits-wrapped v) refl)

  pub ends-wrapped : (n : ℕ) → tree_ends n m made (wrapped ends) levels color dist
      ≡ tree_ends n m made ends levels color dist
  unfolding tree_ends
  ends-wrapped n = ap not (some_cong n (visits m made (wrapped ends) levels color dist)
      (visits m made ends levels color dist) (λ v l. visits-wrapped v))
