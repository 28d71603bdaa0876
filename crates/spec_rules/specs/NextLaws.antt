-- Followers fit a word wherever units and parents exist: what stage 3's code stores is then the rule's.
use Rattle.std.specs.Prelude.{◌≡◌, refl, Bool, true, false, ◌&&◌, ◌⊎◌, List, ℕ, ◌+◌, ◌*◌, ◌≤◌, ◌<◌, eqb, length}
use Rattle.std.proofs.Math.Bool.{cond, or-true}
use Rattle.std.proofs.Common.{inl, inr, arith, ltb-true, eqb-true, eq-eqb, ne_eqb}
use Rattle.std.proofs.Math.Decide.{dec_lt}
use Rattle.std.proofs.Math.Dec.{ltb}
use Rattle.std.proofs.Math.ListN.{get_or-eq_default}
use Rattle.base_lists.specs.Tests.{either, or_cases}
use Rattle.base_lists.specs.Tables.{over_cong}
use Rattle.base_lists.specs.Folds.{every}
use Rattle.base_lists.specs.LeastLaws.{least_le, least-found}
use Rattle.base_lists.specs.All.{every-at}
use Rattle.table.specs.Table.{max_units}
use Rattle.spec_rules.specs.Basics.{ABSENT, at}
use Rattle.spec_rules.specs.Bounds.{name_ok}
use Rattle.spec_rules.specs.Tour.{is_into, arc_unit, tree_neighbor, least_neighbor, greater_neighbor, neighbor_after}
use Rattle.spec_rules.specs.Tour.{arc_from, arc_after, follower, next_round}
use Rattle.spec_rules.specs.TourLaws.{stored_next, next_stored}

module _ (n : ℕ) (parent : List ℕ) (small : n ≤ max_units) (ok : every (name_ok n) parent ≡ true) where
  -- ---- a parent read is a unit, or absent

  named : (x : ℕ) → name_ok n x ≡ true → (x < n) ⊎ (x ≡ ABSENT)
  named x e = go (or_cases (ltb x n) (eqb x ABSENT) e)
    where
      go : (ltb x n ≡ true) ⊎ (eqb x ABSENT ≡ true) → (x < n) ⊎ (x ≡ ABSENT)
      go (inl l) = inl (ltb-true x n l)
      go (inr q) = inr (eqb-true x ABSENT q)

  parent-go : (i : ℕ) → 0 < n → Dec (i < length parent) → (at parent i < n) ⊎ (at parent i ≡ ABSENT)
  parent-go i some (yes h) = named (at parent i) (every-at (name_ok n) parent i 0 ok h)
  parent-go i some (no h) = inl (rw (get_or-eq_default parent 0 {n = i} (omega arith)) some)

  parent-named : (i : ℕ) → 0 < n → (at parent i < n) ⊎ (at parent i ≡ ABSENT)
  parent-named i some = parent-go i some (dec_lt i (length parent))

  -- ---- a unit with a tree neighbour has one after any

  found-least : (v u : ℕ) → u < n → tree_neighbor parent v u ≡ true → least_neighbor n parent v < n
  unfolding least_neighbor
  found-least v u h e =
      let l = least_le n (λ (w : ℕ). cond (tree_neighbor parent v w) w ABSENT) ABSENT u h in
      let q : cond (tree_neighbor parent v u) u ABSENT ≡ u = rw e in
      omega (arith, l, q)

  after-go : (v u : ℕ) → least_neighbor n parent v < n →
      (greater_neighbor n parent v u < n) ⊎ (greater_neighbor n parent v u ≡ ABSENT)
      → neighbor_after n parent v u < n
  unfolding neighbor_after
  after-go v u l (inl g) = rw (ne_eqb (greater_neighbor n parent v u) ABSENT (λ q. omega (arith, q))) g
  after-go v u l (inr g) = rw (eq-eqb (greater_neighbor n parent v u) ABSENT g) l

  greater-found : (v u : ℕ) → (greater_neighbor n parent v u < n) ⊎ (greater_neighbor n parent v u ≡ ABSENT)
  unfolding greater_neighbor
  greater-found v u = least-found n (λ (w : ℕ). tree_neighbor parent v w && ltb u w) ABSENT

  after-named : (v u : ℕ) → u < n → tree_neighbor parent v u ≡ true → neighbor_after n parent v u < n
  after-named v u h e = after-go v u (found-least v u h e) (greater-found v u)

  -- ---- so an arc after an arc is below 2n

  from-small : (v w : ℕ) → v < n → w < n → arc_from parent v w ≤ ABSENT
  from-small v w hv hw = go (either (eqb (at parent w) v))
    where
      go : (eqb (at parent w) v ≡ true) ⊎ (eqb (at parent w) v ≡ false) →
          cond (eqb (at parent w) v) (2 * w) (2 * v + 1) ≤ ABSENT
      go (inl e) = rw e (omega arith)
      go (inr e) = rw e (omega arith)

  after_small : (u v : ℕ) → u < n → v < n → tree_neighbor parent v u ≡ true → arc_after n parent u v ≤ ABSENT
  after_small u v hu hv e = from-small v (neighbor_after n parent v u) hv (after-named v u hu e)

  -- the parent of v is its tree neighbour, and v its parent's
  up : (v p : ℕ) → at parent v ≡ p → tree_neighbor parent v p ≡ true
  up v p e = rw (eq-eqb (at parent v) p e) (or-true (eqb (at parent p) v))

  down : (v p : ℕ) → at parent v ≡ p → tree_neighbor parent p v ≡ true
  down v p e = rw (eq-eqb (at parent v) p e)

  arc-small : (b : Bool) (v p : ℕ) → v < n → p < n → at parent v ≡ p →
      cond b (arc_after n parent p v) (arc_after n parent v p) ≤ ABSENT
  arc-small true v p hv hp e = after_small p v hp hv (up v p e)
  arc-small false v p hv hp e = after_small v p hv hp (down v p e)

  follower-small : (a : ℕ) → a < 2 * n → follower n parent a ≤ ABSENT
  unfolding follower
  follower-small a h = go (parent-named (arc_unit a) (omega arith))
    where
      go : (at parent (arc_unit a) < n) ⊎ (at parent (arc_unit a) ≡ ABSENT) → follower n parent a ≤ ABSENT
      go (inl l) =
          rw (ne_eqb (at parent (arc_unit a)) ABSENT (λ q. omega (arith, q)))
          (arc-small (is_into a) (arc_unit a) (at parent (arc_unit a)) (omega arith) l refl)
      go (inr e) = rw (eq-eqb (at parent (arc_unit a)) ABSENT e) (omega arith)

  pub next-exact : (next : List ℕ) → next_stored n parent next ≡ next_round n parent next
  unfolding next_stored next_round
  next-exact next =
      over_cong (2 * n) (stored_next n parent) (follower n parent) next
      (λ (a : ℕ) (h : a < 2 * n). let l = follower-small a h in omega arith)
