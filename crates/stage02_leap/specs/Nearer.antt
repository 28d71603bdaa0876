-- The tests of distances found ahead: link by link whether its ends are at most one apart, with the best neighbours one
-- nearer, then unit by unit.
use Rattle.std.specs.Prelude.{◌≡◌, ℕ, ◌+◌, ◌*◌, ◌<◌, ◌≤◌, Bool, true, false, cond, not, ◌&&◌, ◌||◌, ◌≢◌, ◌⊎◌, List}
use Rattle.std.specs.Prelude.{length, ℤ, ◌==◌, nat_eq, nat_le, nat_lt, slice_set, refl}
use Rattle.std.proofs.Common.{sym, ap, ◌∙◌, true≢false, inl, inr, arith, eqb-true, eq-eqb, ne_eqb, ltb-true, le-ltb}
use Rattle.std.proofs.Common.{leb-true}
use Rattle.std.proofs.Math.Decide.{ℕ_discrete}
use Rattle.std.proofs.lemmas.Bool.{eqb-false, not-true, not-false}
use Rattle.base_lists.specs.Folds.{some}
use Rattle.base_lists.specs.Some.{some-none}
use Rattle.base_lists.specs.Tables.{over, over_cong}
use Rattle.base_lists.specs.Tests.{either, and_left, and_right, or_cases, or_false-left, or_false-right}
use Rattle.table.specs.Table.{max_units, end_a, end_b}
use Rattle.spec_rules.specs.Basics.{ABSENT, at}
use Rattle.spec_rules.specs.Fits.{EndsWithin}
use Rattle.spec_rules.specs.Tree.{Neighbor, prefer, over_link, best_neighbor}
use Rattle.spec_rules.specs.TreeLaws.{Holds, Linked, neighbor_at, holds_cong, offered, best-all}
use Rattle.stage02_leap.specs.Goal.{Goal, one_nearer, nearest, parent_left, parent_from, Leapt}

-- ---- link by link

-- x and y are more than one apart
abbrev pub apart : ℕ → ℕ → Bool
apart x y = not (x + 1 == y) && (not (y + 1 == x) && not (x == y))

abbrev pub apart_at : List ℕ → List ℕ → ℕ → Bool
apart_at ends far j = apart (at far (end_a ends j)) (at far (end_b ends j))

-- one link of ends a and b, by which is nearer: what it gives v, x where that is b and y where it is a
module _ (far : List ℕ) (a b v : ℕ) (x y none : Neighbor) where
  abbrev given : Neighbor
  given = cond (a == v && at far b + 1 == at far v) y (cond (b == v && at far a + 1 == at far v) x none)

  -- b takes x, and a nothing
  first-nearer : at far a + 1 ≡ at far b → Dec (a ≡ v) → Dec (b ≡ v) → cond (b == v) x none ≡ given
  first-nearer e (yes p) (yes q) = absurd (omega (arith, e, ap (at far) p, ap (at far) q))
  first-nearer e (yes p) (no q) = rw (
    ne_eqb b v q,
    eq-eqb a v p,
    ne_eqb (at far b + 1) (at far v) (λ h. omega (arith, e, h, ap (at far) p)),
  ) refl
  first-nearer e (no p) (yes q) = rw (
    eq-eqb b v q,
    ne_eqb a v p,
    eq-eqb (at far a + 1) (at far v) (omega (arith, e, ap (at far) q)),
  ) refl
  first-nearer e (no p) (no q) = rw (ne_eqb b v q, ne_eqb a v p) refl

  second-nearer : at far b + 1 ≡ at far a → Dec (a ≡ v) → Dec (b ≡ v) → cond (a == v) y none ≡ given
  second-nearer e (yes p) (yes q) = absurd (omega (arith, e, ap (at far) p, ap (at far) q))
  second-nearer e (yes p) (no q) = rw (
    eq-eqb a v p,
    eq-eqb (at far b + 1) (at far v) (omega (arith, e, ap (at far) p)),
  ) refl
  second-nearer e (no p) (yes q) = rw (
    ne_eqb a v p,
    eq-eqb b v q,
    ne_eqb (at far a + 1) (at far v) (λ h. omega (arith, e, h, ap (at far) q)),
  ) refl
  second-nearer e (no p) (no q) = rw (ne_eqb a v p, ne_eqb b v q) refl

  neither-nearer : at far a + 1 ≢ at far b → at far b + 1 ≢ at far a → Dec (a ≡ v) → Dec (b ≡ v) → none ≡ given
  neither-nearer m n (yes p) (yes q) = rw (
    eq-eqb a v p,
    eq-eqb b v q,
    ne_eqb (at far b + 1) (at far v) (λ h. n (omega (arith, h, ap (at far) p))),
    ne_eqb (at far a + 1) (at far v) (λ h. m (omega (arith, h, ap (at far) q))),
  ) refl
  neither-nearer m n (yes p) (no q) = rw (
    eq-eqb a v p,
    ne_eqb b v q,
    ne_eqb (at far b + 1) (at far v) (λ h. n (omega (arith, h, ap (at far) p))),
  ) refl
  neither-nearer m n (no p) (yes q) = rw (
    ne_eqb a v p,
    eq-eqb b v q,
    ne_eqb (at far a + 1) (at far v) (λ h. m (omega (arith, h, ap (at far) q))),
  ) refl
  neither-nearer m n (no p) (no q) = rw (ne_eqb a v p, ne_eqb b v q) refl

-- what a link of level z leaves of the best neighbours: its further end is offered the nearer one
module _ (far : List ℕ) (z : ℤ) (a b : ℕ) (held held' : List ℤ) (best best' : List ℕ) where
  pub first-linked : b < max_units → at far a + 1 ≡ at far b
      → held' ≡ slice_set held b (prefer (neighbor_at held best b) z a).level →
      best' ≡ slice_set best b (prefer (neighbor_at held best b) z a).unit
      → Linked (one_nearer far) z a b held best held' best'
  first-linked l e p q f h =
      holds_cong held' best' (λ (v : ℕ). cond (b == v) (prefer (f v) z a) (f v))
      (λ (v : ℕ). over_link (one_nearer far v) z a b v (f v))
      (λ v m. first-nearer far a b v (prefer (f v) z a) (prefer (f v) z b) (f v) e (ℕ_discrete a v) (ℕ_discrete b v))
      (offered true z b a held held' best best' f l p q h)

  pub second-linked : a < max_units → at far b + 1 ≡ at far a
      → held' ≡ slice_set held a (prefer (neighbor_at held best a) z b).level →
      best' ≡ slice_set best a (prefer (neighbor_at held best a) z b).unit
      → Linked (one_nearer far) z a b held best held' best'
  second-linked l e p q f h =
      holds_cong held' best' (λ (v : ℕ). cond (a == v) (prefer (f v) z b) (f v))
      (λ (v : ℕ). over_link (one_nearer far v) z a b v (f v))
      (λ v m. second-nearer far a b v (prefer (f v) z a) (prefer (f v) z b) (f v) e (ℕ_discrete a v) (ℕ_discrete b v))
      (offered true z a b held held' best best' f l p q h)

pub neither-linked : (far : List ℕ) (z : ℤ) (a b : ℕ) (held : List ℤ) (best : List ℕ) → at far a + 1 ≢ at far b →
    at far b + 1 ≢ at far a
    → Linked (one_nearer far) z a b held best held best
neither-linked far z a b held best m n f h =
    holds_cong held best f (λ (v : ℕ). over_link (one_nearer far v) z a b v (f v))
    (λ v l. neither-nearer far a b v (prefer (f v) z a) (prefer (f v) z b) (f v) m n (ℕ_discrete a v) (ℕ_discrete b v))
    h

-- the whole table, by its entries
pub nearest-all : (m j : ℕ) (ends : List ℕ) (levels : List ℤ) (far : List ℕ) (held : List ℤ) (best : List ℕ)
    → Holds held best (λ (v : ℕ). best_neighbor (one_nearer far v) j ends levels v) → j ≤ m → m ≤ j → (v : ℕ) →
    v < max_units → at best v ≡ nearest m ends levels far v
unfolding nearest
nearest-all m j ends levels far held best h l g v k = best-all (one_nearer far) ends levels m j held best h l g v k

-- ---- unit by unit

-- a unit's distance f goes wrong, d being that in the table and u its best neighbour one nearer: known but not the
-- table's, or unknown to the rounds, or not to be reached
abbrev pub strays : ℕ → ℕ → ℕ → ℕ → ℕ → Bool
strays made last f u d = not (cond (nat_lt f made) (d == f)
    (d == ABSENT && (f == ABSENT || (nat_lt f last && not (u == ABSENT)))))

abbrev pub strays_at : ℕ → ℕ → List ℕ → List ℕ → List ℕ → ℕ → Bool
strays_at made last far cand dist v = strays made last (at far v) (at cand v) (at dist v)

module _ (made last f u d : ℕ) (right : strays made last f u d ≡ false) where
  passed : cond (nat_lt f made) (d == f) (d == ABSENT && (f == ABSENT || (nat_lt f last && not (u == ABSENT)))) ≡ true
  passed = not-false _ right

  known_by : d ≡ cond (nat_lt f made) f ABSENT
  known_by = go (either (nat_lt f made))
    where
      go : (nat_lt f made ≡ true) ⊎ (nat_lt f made ≡ false) → d ≡ cond (nat_lt f made) f ABSENT
      go (inl e) = let q : nat_eq d f ≡ true = rw e at passed in rw e (eqb-true d f q)
      go (inr e) = let q : (d == ABSENT && (f == ABSENT || (nat_lt f last && not (u == ABSENT)))) ≡ true =
          rw e at passed in rw e (eqb-true d ABSENT (and_left (d == ABSENT) _ q))

  led-by : made ≤ f → (f ≡ ABSENT) ⊎ ((f < last) × (u ≢ ABSENT))
  led-by l = go (or_cases (f == ABSENT) (nat_lt f last && not (u == ABSENT)) (and_right (d == ABSENT) _ later))
    where
      later : (d == ABSENT && (f == ABSENT || (nat_lt f last && not (u == ABSENT)))) ≡ true
      later = rw (le-ltb f made l) at passed

      go : ((f == ABSENT) ≡ true) ⊎ ((nat_lt f last && not (u == ABSENT)) ≡ true) →
          (f ≡ ABSENT) ⊎ ((f < last) × (u ≢ ABSENT))
      go (inl e) = inl (eqb-true f ABSENT e)
      go (inr e) = inr (
        ltb-true f last (and_left (nat_lt f last) _ e),
        eqb-false u ABSENT (not-true (u == ABSENT) (and_right (nat_lt f last) _ e)),
      )

-- at most one apart
beside-by : (x y : ℕ) → apart x y ≡ false → (x ≤ y + 1) × (y ≤ x + 1)
beside-by x y e = go (ℕ_discrete (x + 1) y) (ℕ_discrete (y + 1) x) (ℕ_discrete x y)
  where
    go : Dec (x + 1 ≡ y) → Dec (y + 1 ≡ x) → Dec (x ≡ y) → (x ≤ y + 1) × (y ≤ x + 1)
    go (yes p) q r = (omega (arith, p), omega (arith, p))
    go (no p) (yes q) r = (omega (arith, q), omega (arith, q))
    go (no p) (no q) (yes r) = (omega (arith, r), omega (arith, r))
    go (no p) (no q) (no r) = absurd (true≢false (rw (ne_eqb (x + 1) y p, ne_eqb (y + 1) x q, ne_eqb x y r) at e))

-- the distances are right where all tests pass
pub goal_tested : (n m made last tip : ℕ) (ends : List ℕ) (levels : List ℤ) (dist far cand : List ℕ) → n ≤ 256 →
    length dist ≡ 256 → EndsWithin n m ends
    → ((v : ℕ) → v < max_units → at cand v ≡ nearest m ends levels far v)
    → 1 ≤ made → made ≤ last → last ≤ n → tip < n → at far tip + 1 ≡ last
    → some m (apart_at ends far) ≡ false → some n (strays_at made last far cand dist) ≡ false →
    Goal n m made last ends levels dist far
goal_tested n m made last tip ends levels dist far cand few full within nearest-is begun to room under top near right =
    record {
      few = few;
      full = omega (arith, few, full);
      inside = λ j l. (within.1 (2 * j) (omega (arith, l)), within.1 (2 * j + 1) (omega (arith, l)));
      begun = begun;
      to = to;
      small = omega (arith, room, few);
      known = λ v h. known_by made last (at far v) (at cand v) (at dist v)
          (some-none n (strays_at made last far cand dist) right v h);
      beside = λ j l. beside-by (at far (end_a ends j)) (at far (end_b ends j))
          (some-none m (apart_at ends far) near j l);
      led = λ v h l. rw (← nearest-is v (omega (arith, h, few)))
          (led-by made last (at far v) (at cand v) (at dist v)
          (some-none n (strays_at made last far cand dist) right v h) l);
      tip = (tip, under, top);
    }

-- the tables of the tests, where all pass
pub leapt_tested : (n m made tip top : ℕ) (ends : List ℕ) (levels : List ℤ)
    (parent dist far cand new-parent new-dist : List ℕ) (wide stray right : Bool)
    → n ≤ 256 → length dist ≡ 256 → EndsWithin n m ends → tip < n → top < n → top ≡ at far tip
    → ((v : ℕ) → v < max_units → at cand v ≡ nearest m ends levels far v) → wide ≡ some m (apart_at ends far)
    → new-parent ≡ over n (parent_from made far cand parent) parent → new-dist ≡ over n (at far) dist →
    stray ≡ some n (strays_at made (top + 1) far cand dist)
    → right ≡ ((nat_le 1 made && nat_le made (top + 1)) && not (wide || stray)) → right ≡ true
    → Leapt n m made (top + 1) ends levels parent dist new-parent new-dist
leapt_tested n m made tip top ends levels parent dist far cand new-parent new-dist wide stray right few full within
    under room is nearest-is near parents dists at_home tests all =
    let tested : ((nat_le 1 made && nat_le made (top + 1)) && not (wide || stray)) ≡ true = sym tests ∙ all in
    let begun = and_left (nat_le 1 made && nat_le made (top + 1)) (not (wide || stray)) tested in
    let none = not-true (wide
    || stray) (and_right (nat_le 1 made && nat_le made (top + 1)) (not (wide || stray)) tested) in
    record {
      far = far;
      goal =
          goal_tested n m made (top + 1) tip ends levels dist far cand few full within nearest-is
          (leb-true 1 made (and_left (nat_le 1 made) (nat_le made (top + 1)) begun))
          (leb-true made (top + 1) (and_right (nat_le 1 made) (nat_le made (top + 1)) begun)) (omega (arith, room))
          under
          (omega (arith, is))
          (sym near ∙ or_false-left wide stray none) (sym at_home ∙ or_false-right wide stray none);
      room = omega (arith, room);
      parents =
          parents
          ∙ over_cong n (parent_from made far cand parent) (parent_left m made ends levels far parent) parent
          (λ (v : ℕ) (h : v < n). ap (λ (u : ℕ). cond (nat_le made (at far v) && not (at far v == ABSENT)) u
          (at parent v)) (nearest-is v (omega (arith, h, few))));
      dists = dists;
    }
