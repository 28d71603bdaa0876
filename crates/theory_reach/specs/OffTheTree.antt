-- The rules' test for a link off the tree, and their local values, in the words of the graph.
use Rattle.std.specs.Prelude.{◌≡◌, refl, true, false, not, ◌⊎◌, ◌↔◌, List, ℕ, ◌<◌, eqb}
use Rattle.std.proofs.Common.{sym, ◌∙◌, inr, pos_of_ne-zero, arith, eqb-true, eq-eqb, ne_eqb}
use Rattle.std.proofs.Math.Logic.{inl}
use Rattle.base_lists.specs.Tests.{either, and_exact, not_exact}
use Rattle.base_lists.specs.FoldLaws.{Choice, fold-before, fold_is}
use Rattle.table.specs.Table.{end_a, end_b}
use Rattle.spec_rules.specs.Basics.{ABSENT, at, off_tree}
use Rattle.spec_rules.specs.Range.{place_heard, local_of}
use Rattle.theory_graph.specs.Forest.{TreeLink, OffTree}
use Rattle.spec_rules.specs.BoundLaws.{eq_exact}
use Rattle.theory_reach.specs.Site.{Site, Link, link-below, site-graph}
use Rattle.theory_reach.specs.Rooted.{Rooted}

module _ {n m : ℕ} {ends color parent : List ℕ} {d : ℕ →
    ℕ} (site : Site n m ends) (rooted : Rooted n m ends color parent d) where
  -- a unit below n is not the mark
  unit-present : (v : ℕ) → v < n → v ≡ ABSENT → ⊥
  unit-present v h e = omega (arith, site.few_units)

  -- a unit with a parent that exists is no root
  pub has_parent : (u v : ℕ) → u < n → v < n → at parent u ≡ v → 0 < d u
  has_parent u v hu hv e = pos_of_ne-zero (λ z. unit-present v hv (sym e ∙ (rooted.absent_root u hu).1 z))

  -- a link that the test finds off the tree is off it
  pub off-exact : (u v : ℕ) → Link m ends u v → (off_tree parent u v ≡ true) ↔ OffTree (Link m ends) (at parent) d u v
  off-exact u v l = (
    λ e. record { link = l; off = off (parts.0 e) },
    λ o. parts.1 (λ e. o.off (inl (has_parent u v hu hv e, e)), λ e. o.off (inr (has_parent v u hv hu e, e))),
  )
    where
      hu : u < n
      hu = (link-below site u v l).0

      hv : v < n
      hv = (link-below site u v l).1

      parts : (off_tree parent u v ≡ true) ↔ ((at parent u ≡ v → ⊥) × (at parent v ≡ u → ⊥))
      parts = and_exact (not (eqb (at parent u) v)) (not (eqb (at parent v) u))
          (not_exact (eqb (at parent u) v) (eq_exact (at parent u) v))
          (not_exact (eqb (at parent v) u) (eq_exact (at parent v) u))

      off : ((at parent u ≡ v → ⊥) × (at parent v ≡ u → ⊥)) → TreeLink (at parent) d u v → ⊥
      off h (inl t) = h.0 t.1
      off h (inr t) = h.1 t.1

  pub off-flip : (u v : ℕ) → OffTree (Link m ends) (at parent) d u v → OffTree (Link m ends) (at parent) d v u
  off-flip u v o = record { link = (site-graph site).flip u v o.link; off = λ t. o.off (turned t) }
    where
      turned : TreeLink (at parent) d v u → TreeLink (at parent) d u v
      turned (inl t) = inr t
      turned (inr t) = inl t

  module _ (pre : List ℕ) where
    -- what link j gives w is its own place, or the place of the other end of a link off the tree
    abbrev pub Given : ℕ → ℕ → Type 0
    Given w y = (y ≡ at pre w) ⊎ ((x : ℕ) × OffTree (Link m ends) (at parent) d w x × (y ≡ at pre x))

    heard-given : (w j : ℕ) → j < m → Given w (place_heard ends parent pre w j)
    heard-given w j l = off (either (off_tree parent (end_a ends j) (end_b ends j)))
      where
        by_end : off_tree parent (end_a ends j) (end_b ends j) ≡ true →
            OffTree (Link m ends) (at parent) d (end_a ends j) (end_b ends j)
            → (eqb (end_a ends j) w ≡ true) ⊎ (eqb (end_a ends j) w ≡ false) →
            (eqb (end_b ends j) w ≡ true) ⊎ (eqb (end_b ends j) w ≡ false)
            → Given w (place_heard ends parent pre w j)
        by_end e o (inl f) g = inr (end_b ends j, rw (eqb-true (end_a ends j) w f) at o, rw (e, f) refl)
        by_end e o (inr f) (inl g) =
            inr (
              end_a ends j,
              rw (eqb-true (end_b ends j) w g) at (off-flip (end_a ends j) (end_b ends j) o),
              rw (e, f, g) refl,
            )
        by_end e o (inr f) (inr g) = inl (rw (e, f, g) refl)

        off : (off_tree parent (end_a ends j) (end_b ends j) ≡ true)
            ⊎ (off_tree parent (end_a ends j) (end_b ends j) ≡ false)
            → Given w (place_heard ends parent pre w j)
        off (inr e) = inl (rw e refl)
        off (inl e) =
            by_end e ((off-exact (end_a ends j) (end_b ends j) (j, l, inl (refl, refl))).0 e)
            (either (eqb (end_a ends j) w)) (either (eqb (end_b ends j) w))

    -- and each link off the tree gives the place of its other end
    heard-off : (w x : ℕ) → OffTree (Link m ends) (at parent) d w x →
        (j : ℕ) × (j < m) × (place_heard ends parent pre w j ≡ at pre x)
    heard-off w x o = found o.link
      where
        found : Link m ends w x → (j : ℕ) × (j < m) × (place_heard ends parent pre w j ≡ at pre x)
        found (j, l, inl e) =
            let t : off_tree parent (end_a ends j) (end_b ends j) ≡ true =
            rw (e.0, e.1) ((off-exact w x o.link).1 o) in
            (j, l, rw (t, eq-eqb (end_a ends j) w e.0, e.1) refl)
        found (j, l, inr e) =
            let t : off_tree parent (end_a ends j) (end_b ends j) ≡ true =
            rw (e.0, e.1) ((off-exact x w (off-flip w x o).link).1 (off-flip w x o)) in
            let f : eqb (end_a ends j) w ≡ false = ne_eqb (end_a ends j) w (λ q. site.differ j l (q ∙ sym e.1)) in
            (j, l, rw (t, f, eq-eqb (end_b ends j) w e.1, e.0) refl)

    -- ---- the local value, the least or the greatest

    module _ {op : ℕ → ℕ → ℕ} {le : ℕ → ℕ → Type 0} (choice : Choice op le) where
      pub local-off : (w x : ℕ) → OffTree (Link m ends) (at parent) d w x →
          le (local_of op m ends parent pre w) (at pre x)
      unfolding local_of
      local-off w x o = let h = heard-off w x o in rw h.2 at
          (fold-before choice m (place_heard ends parent pre w) (at pre w) h.0 h.1)

      pub local-given : (w : ℕ) → Given w (local_of op m ends parent pre w)
      unfolding local_of
      local-given w = go (fold_is choice m (place_heard ends parent pre w) (at pre w))
        where
          go : (local_of op m ends parent pre w ≡ at pre w)
              ⊎ ((j : ℕ) × (j < m) × (local_of op m ends parent pre w ≡ place_heard ends parent pre w j))
              → Given w (local_of op m ends parent pre w)
          go (inl e) = inl e
          go (inr h) = rw h.2 (heard-given w h.0 h.1)
