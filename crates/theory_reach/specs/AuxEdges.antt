-- Stage 8: the marks are the auxiliary edges of the graph. A unit is marked exactly when some link off the tree leads
-- from below it to outside its parent's descendants: such a place is below the parent's interval (low) or past it
-- (high).
use Rattle.std.specs.Prelude.{◌≡◌, refl, true, not, ◌&&◌, ◌||◌, ◌⊎◌, ◌↔◌, List, ℕ, ◌+◌, ◌≤◌, ◌<◌, min, max, ltb}
use Rattle.std.proofs.Common.{inl, inr, arith}
use Rattle.std.proofs.Math.Decide.{dec_lt}
use Rattle.std.proofs.Math.Dec.{leb}
use borrow.Author.Tests.{ltb-true, lt-ltb, leb-true, le-leb}
use Rattle.base_lists.specs.FoldLaws.{min_choice, max_choice}
use Rattle.base_lists.specs.Tests.{and_exact, or_exact, not_exact}
use Rattle.spec_rules.specs.Basics.{at, is_root, off_tree}
use Rattle.spec_rules.specs.Range.{local_of}
use Rattle.spec_rules.specs.Aux.{within, joins_ends, joins_parent}
use Rattle.theory_graph.specs.Forest.{Anc, self, up, OffTree}
use Rattle.theory_graph.specs.Ancestors.{anc_trans}
use Rattle.theory_reach.specs.Site.{Site, Link, link-below}
use Rattle.theory_reach.specs.Rooted.{Rooted, nonroot_exact}
use Rattle.theory_reach.specs.Ordered.{Ordered, Ranged}
use Rattle.theory_reach.specs.OffTheTree.{off-exact, off-flip, Given, local-off, local-given}

-- u joins its parent: that is no root, and a link off the tree leads from below u to outside the parent's descendants
pub record JoinsUp (E : ℕ → ℕ → Type 0) (p d : ℕ → ℕ) (u : ℕ) : Type 0 where
  pub child : 0 < d u
  pub inner : 0 < d (p u)
  pub x : ℕ
  pub y : ℕ
  pub off : OffTree E p d x y
  pub inside : Anc p d u y
  pub outside : Anc p d (p u) x → ⊥

-- a link off the tree between two units of which neither is the other's ancestor
pub record Across (E : ℕ → ℕ → Type 0) (p d : ℕ → ℕ) (u v : ℕ) : Type 0 where
  pub off : OffTree E p d u v
  pub not_above : Anc p d u v → ⊥
  pub not_below : Anc p d v u → ⊥

pub across-flip : {n m : ℕ} {ends color parent : List ℕ} {d : ℕ → ℕ} → Site n m ends → Rooted n m ends color parent d →
    (u v : ℕ)
    → Across (Link m ends) (at parent) d u v → Across (Link m ends) (at parent) d v u
across-flip site rooted u v a = record {
  off = off-flip site rooted u v a.off;
  not_above = a.not_below;
  not_below = a.not_above;
}

-- the mark of case 2 is exact
module _
    {n m : ℕ} {ends color parent nd pre : List ℕ} {d : ℕ → ℕ}
    (site : Site n m ends) (rooted : Rooted n m ends color parent d) (ordered : Ordered n parent nd pre d)
  where
    within-exact : (u v : ℕ) → u < n → v < n → (within nd pre u v ≡ true) ↔ Anc (at parent) d u v
    within-exact u v hu hv =
        let i = ordered.interval u v hu hv in
        let t = and_exact (leb (at pre u) (at pre v)) (ltb (at pre v) (at pre u + at nd u))
        (leb-true (at pre u) (at pre v), le-leb (at pre u) (at pre v)) (
          ltb-true (at pre v) (at pre u + at nd u),
          lt-ltb (at pre v) (at pre u + at nd u),
        ) in
        (λ e. i.1 (t.0 e), λ a. t.1 (i.0 a))

    pub across-exact : (u v : ℕ) → Link m ends u v →
        (joins_ends parent nd pre u v ≡ true) ↔ Across (Link m ends) (at parent) d u v
    across-exact u v l =
        let hu = (link-below site u v l).0 in
        let hv = (link-below site u v l).1 in
        let t = and_exact (off_tree parent u v && not (within nd pre u v)) (not (within nd pre v u))
        (and_exact (off_tree parent u v) (not (within nd pre u v)) (off-exact site rooted u v l)
        (not_exact (within nd pre u v) (within-exact u v hu hv)))
        (not_exact (within nd pre v u) (within-exact v u hv hu)) in (
          λ e. let w = t.0 e in record { off = w.0.0; not_above = w.0.1; not_below = w.1 },
          λ a. t.1 ((a.off, a.not_above), a.not_below),
        )

module _
    {n m : ℕ} {ends color parent nd pre low high : List ℕ} {d : ℕ → ℕ}
    (site : Site n m ends) (rooted : Rooted n m ends color parent d) (ordered : Ordered n parent nd pre d)
    (ranged : Ranged n m ends parent pre d low high)
  where
    -- an edge that leaves the parent's interval, on either side
    module _ (u : ℕ) (hu : u < n) (du : 0 < d u) (dp : 0 < d (at parent u)) where
      hp : at parent u < n
      hp = rooted.parent_below u hu du

      above : Anc (at parent) d (at parent u) u
      above = up du (self refl)

      -- a descendant of u is in the interval of u's parent
      in_parent : (w : ℕ) → w < n → Anc (at parent) d u w →
          (at pre (at parent u) ≤ at pre w) × (at pre w < at pre (at parent u) + at nd (at parent u))
      in_parent w hw a = (ordered.interval (at parent u) w hp hw).0 (anc_trans above a)

      -- a local value outside that interval comes of such an edge
      outside : (w : ℕ) → w < n → Anc (at parent) d u w → (v : ℕ) → Given site rooted pre w v
          → (at pre (at parent u) ≤ v → v < at pre (at parent u) + at nd (at parent u) → ⊥) →
          JoinsUp (Link m ends) (at parent) d u
      outside w hw a v (inl f) out = absurd
          (out (omega (arith, in_parent w hw a, f)) (omega (arith, in_parent w hw a, f)))
      outside w hw a v (inr (x, o, f)) out =
          record {
            child = du;
            inner = dp;
            x = x;
            y = w;
            off = off-flip site rooted w x o;
            inside = a;
            outside = λ b.
                let k = (ordered.interval (at parent u) x hp (link-below site w x o.link).1).0 b in
                out (omega (arith, k, f)) (omega (arith, k, f));
          }

      by-low : at low u < at pre (at parent u) → JoinsUp (Link m ends) (at parent) d u
      by-low l =
          let (w, hw, a, e) = ranged.low_taken u hu in
          outside w hw a _ (local-given site rooted pre min_choice w) (λ ge lt. omega (arith, e, ge, l))

      by_high : at pre (at parent u) + at nd (at parent u) ≤ at high u → JoinsUp (Link m ends) (at parent) d u
      by_high l =
          let (w, hw, a, e) = ranged.high_taken u hu in
          outside w hw a _ (local-given site rooted pre max_choice w) (λ ge lt. omega (arith, e, lt, l))

      -- the end outside lies before the interval or past it
      leaves : (x y : ℕ) → OffTree (Link m ends) (at parent) d x y → Anc (at parent) d u y →
          (Anc (at parent) d (at parent u) x → ⊥)
          → (at low u < at pre (at parent u)) ⊎ (at pre (at parent u) + at nd (at parent u) ≤ at high u)
      leaves x y o a out = go (dec_lt (at pre x) (at pre (at parent u)))
          (dec_lt (at pre x) (at pre (at parent u) + at nd (at parent u)))
        where
          hx : x < n
          hx = (link-below site x y o.link).0

          hy : y < n
          hy = (link-below site x y o.link).1

          o' : OffTree (Link m ends) (at parent) d y x
          o' = off-flip site rooted x y o

          go : Dec (at pre x < at pre (at parent u)) → Dec (at pre x < at pre (at parent u) + at nd (at parent u))
              → (at low u < at pre (at parent u)) ⊎ (at pre (at parent u) + at nd (at parent u) ≤ at high u)
          go (yes l) k = inl (omega (arith, ranged.low_least u y hu hy a, local-off site rooted pre min_choice y x o'))
          go (no l) (yes k) = absurd (out ((ordered.interval (at parent u) x hp hx).1 (omega arith, k)))
          go (no l) (no k) = inr (omega (
            arith,
            ranged.high_greatest u y hu hy a,
            local-off site rooted pre max_choice y x o',
          ))

    -- the mark of case 3 is exact
    pub joins-exact : (u : ℕ) → u < n → (joins_parent parent nd pre low high u ≡ true)
        ↔ JoinsUp (Link m ends) (at parent) d u
    unfolding joins_parent
    joins-exact u hu = (there, back)
      where
        sides : ((ltb (at low u) (at pre (at parent u)) || leb (at pre (at parent u) + at nd (at parent u)) (at high u))
            ≡ true)
            ↔ ((at low u < at pre (at parent u)) ⊎ (at pre (at parent u) + at nd (at parent u) ≤ at high u))
        sides =
            or_exact (ltb (at low u) (at pre (at parent u)))
            (leb (at pre (at parent u) + at nd (at parent u)) (at high u))
            (ltb-true (at low u) (at pre (at parent u)), lt-ltb (at low u) (at pre (at parent u))) (
              leb-true (at pre (at parent u) + at nd (at parent u)) (at high u),
              le-leb (at pre (at parent u) + at nd (at parent u)) (at high u),
            )

        Parts : Type 0
        Parts =
            ((not (is_root parent u) ≡ true) × (not (is_root parent (at parent u)) ≡ true))
            × ((at low u < at pre (at parent u)) ⊎ (at pre (at parent u) + at nd (at parent u) ≤ at high u))

        parts : (joins_parent parent nd pre low high u ≡ true) ↔ Parts
        parts = and_exact _ _ (and_exact _ _ (λ e. e, λ e. e) (λ e. e, λ e. e)) sides

        chosen : (du : 0 < d u) (dp : 0 < d (at parent u)) →
            (at low u < at pre (at parent u)) ⊎ (at pre (at parent u) + at nd (at parent u) ≤ at high u)
            → JoinsUp (Link m ends) (at parent) d u
        chosen du dp (inl l) = by-low u hu du dp l
        chosen du dp (inr l) = by_high u hu du dp l

        there : joins_parent parent nd pre low high u ≡ true → JoinsUp (Link m ends) (at parent) d u
        there e =
            let q = parts.0 e in
            let du : 0 < d u = (nonroot_exact rooted u hu).0 q.0.0 in
            chosen du ((nonroot_exact rooted (at parent u) (rooted.parent_below u hu du)).0 q.0.1) q.1

        back : JoinsUp (Link m ends) (at parent) d u → joins_parent parent nd pre low high u ≡ true
        back j =
            parts.1 (
              (
                (nonroot_exact rooted u hu).1 j.child,
                (nonroot_exact rooted (at parent u) (rooted.parent_below u hu j.child)).1 j.inner,
              ),
              leaves u hu j.child j.inner j.x j.y j.off j.inside j.outside,
            )
