-- What stage 2 uses of the choice of a parent: it is a neighbour visited in the round before, and absent only where
-- there is none. Which of these neighbours it is no law of the stages after it asks; BestParent.antt says it.
use Rattle.std.specs.Prelude.{◌≡◌, Bool, false, cond, not, ◌&&◌, ◌⊎◌, ◌≢◌, List, eqb, ltb, ℤ, pos, negsuc}
use Rattle.std.proofs.Math.Path.{refl}
use Rattle.std.proofs.Common.{sym, ap, ◌∙◌, inl, inr, le_refl, le_antisymm, arith}
use Rattle.std.proofs.Math.Bool.{true}
use Rattle.std.proofs.lemmas.Bool.{false≢true}
use Prim.Native.Nat.{ℕ, zero, suc, ◌-◌, ◌≤◌, ◌<◌}
use Rattle.std.proofs.Math.Nat.{le_step, not-suc-le-zero}
use Rattle.std.specs.Int.Signed.{lt_z, le_z}
use borrow.Author.Tests.{eqb-true, eq-eqb, ne_eqb, ltb-true, ltb-false, leb-true, le-leb}
use Rattle.base_lists.specs.Below.{below_suc}
use Rattle.base_lists.specs.Tests.{either, and_left, and_right, and-true, or_cases, or_false-left, or_false-right}
use Rattle.base_lists.specs.Tests.{not_both}
use Rattle.table.specs.Table.{end_a, end_b}
use Rattle.spec_rules.specs.Basics.{ABSENT, at}
use Rattle.spec_rules.specs.Tree.{visited_before, level_at, better, Neighbor, prefer, over_link, best_neighbor}
use Rattle.spec_rules.specs.Tree.{chosen_parent, visits}

-- link j joins v and w
abbrev pub Joins : List ℕ → ℕ → ℕ → ℕ → Type 0
Joins ends j v w = ((end_a ends j ≡ v) × (end_b ends j ≡ w)) ⊎ ((end_a ends j ≡ w) × (end_b ends j ≡ v))

-- c is a neighbour of v one nearer, or absent where v has none
pub data Choice (m made : ℕ) (ends dist : List ℕ) (v c : ℕ) : Type 0 where
  nearer : c < ABSENT → (j : ℕ) → j < m → Joins ends j v c → at dist c ≡ made - 1 → Choice m made ends dist v c
  nobody : c ≡ ABSENT → ((j w : ℕ) → j < m → Joins ends j v w → at dist w ≡ made - 1 → ⊥) → Choice m made ends dist v c

-- ---- the order of signed numbers

pub le_z_refl : (z : ℤ) → le_z z z ≡ true
le_z_refl (pos a) = le-leb a a (le_refl a)
le_z_refl (negsuc a) = le-leb a a (le_refl a)

le_z_trans : (x y z : ℤ) → le_z x y ≡ true → le_z y z ≡ true → le_z x z ≡ true
le_z_trans (pos a) (pos b) (pos c) h k = le-leb a c (omega (arith, leb-true a b h, leb-true b c k))
le_z_trans (pos a) (pos b) (negsuc c) h k = k
le_z_trans (pos a) (negsuc b) z h k = absurd (false≢true h)
le_z_trans (negsuc a) y (pos c) h k = refl
le_z_trans (negsuc a) (pos b) (negsuc c) h k = absurd (false≢true k)
le_z_trans (negsuc a) (negsuc b) (negsuc c) h k = le-leb c a (omega (arith, leb-true b a h, leb-true c b k))

pub le_z_antisym : (x y : ℤ) → le_z x y ≡ true → le_z y x ≡ true → x ≡ y
le_z_antisym (pos a) (pos b) h k = ap pos (le_antisymm (leb-true a b h) (leb-true b a k))
le_z_antisym (pos a) (negsuc b) h k = absurd (false≢true h)
le_z_antisym (negsuc a) (pos b) h k = absurd (false≢true k)
le_z_antisym (negsuc a) (negsuc b) h k = ap negsuc (le_antisymm (leb-true a b k) (leb-true b a h))

lt_z_le_z : (x y : ℤ) → lt_z x y ≡ true → le_z x y ≡ true
lt_z_le_z (pos a) (pos b) h = le-leb a b (omega (arith, ltb-true a b h))
lt_z_le_z (pos a) (negsuc b) h = h
lt_z_le_z (negsuc a) (pos b) h = refl
lt_z_le_z (negsuc a) (negsuc b) h = le-leb b a (omega (arith, ltb-true b a h))

pub lt_z_apart : (x y : ℤ) → lt_z x y ≡ true → le_z y x ≡ true → ⊥
lt_z_apart (pos a) (pos b) h k = omega (arith, ltb-true a b h, leb-true b a k)
lt_z_apart (pos a) (negsuc b) h k = false≢true h
lt_z_apart (negsuc a) (pos b) h k = false≢true k
lt_z_apart (negsuc a) (negsuc b) h k = omega (arith, ltb-true b a h, leb-true a b k)

pub lt_z_not : (x y : ℤ) → lt_z x y ≡ false → le_z y x ≡ true
lt_z_not (pos a) (pos b) h = le-leb b a (ltb-false a b h)
lt_z_not (pos a) (negsuc b) h = refl
lt_z_not (negsuc a) (pos b) h = sym h
lt_z_not (negsuc a) (negsuc b) h = le-leb a b (ltb-false b a h)

-- ---- the better of two

-- a neighbour u over a link of level y is no better than w over one of level z
abbrev pub Behind : ℤ → ℕ → ℤ → ℕ → Type 0
Behind y u z w = (le_z y z ≡ true) × (y ≡ z → w ≤ u)

behind_refl : (z : ℤ) (w : ℕ) → Behind z w z w
behind_refl z w = (le_z_refl z, λ e. le_refl w)

behind_trans : (x y z : ℤ) (t u w : ℕ) → Behind x t y u → Behind y u z w → Behind x t z w
behind_trans x y z t u w h k = (le_z_trans x y z h.0 k.0, least)
  where
    least : x ≡ z → w ≤ t
    least e =
        let f : x ≡ y = le_z_antisym x y h.0 (rw e k.0) in
        omega (arith, h.1 f, k.1 (sym f ∙ e))

-- what is better leaves the other behind, and what is not is behind
pub better-behind : (z : ℤ) (w : ℕ) (y : ℤ) (u : ℕ) → better z w y u ≡ true → Behind y u z w
unfolding better
better-behind z w y u e = go (or_cases (lt_z y z) (le_z y z && ltb w u) e)
  where
    go : (lt_z y z ≡ true) ⊎ ((le_z y z && ltb w u) ≡ true) → Behind y u z w
    go (inl h) = (lt_z_le_z y z h, λ q. absurd (lt_z_apart y z h (rw q (le_z_refl z))))
    go (inr h) = (and_left (le_z y z) (ltb w u) h, λ q. omega (arith, ltb-true w u (and_right (le_z y z) (ltb w u) h)))

pub not_better : (z : ℤ) (w : ℕ) (y : ℤ) (u : ℕ) → better z w y u ≡ false → Behind z w y u
unfolding better
not_better z w y u e = (
  lt_z_not y z (or_false-left (lt_z y z) (le_z y z && ltb w u) e),
  λ q. least q (either (ltb w u)),
)
  where
    least : z ≡ y → (ltb w u ≡ true) ⊎ (ltb w u ≡ false) → u ≤ w
    least q (inl h) =
        absurd (not_both (le_z y z && ltb w u) (and-true (le_z y z) (ltb w u) (rw q (le_z_refl y)) h)
        (or_false-right (lt_z y z) (le_z y z && ltb w u) e))
    least q (inr h) = ltb-false w u h

-- ---- what a link gives

-- what a link of level z from a to b leaves v of the best so far
pub data Given (passes : ℕ → Bool) (z : ℤ) (a b v : ℕ) (best new : Neighbor) : Type 0 where
  second : a ≡ v → passes b ≡ true → new ≡ prefer best z b → Given passes z a b v best new
  first : b ≡ v → passes a ≡ true → new ≡ prefer best z a → Given passes z a b v best new
  none : new ≡ best → (a ≡ v → passes b ≡ true → ⊥) → (b ≡ v → passes a ≡ true → ⊥) → Given passes z a b v best new

pub given : (passes : ℕ → Bool) (z : ℤ) (a b v : ℕ) (best : Neighbor) →
    Given passes z a b v best (over_link passes z a b v best)
given passes z a b v best = go (either (eqb a v && passes b)) (either (eqb b v && passes a))
  where
    -- a test that fails says that its two parts do not both hold
    fails : (x y : ℕ) → (eqb x v && passes y) ≡ false → x ≡ v → passes y ≡ true → ⊥
    fails x y e f g = not_both (eqb x v && passes y) (and-true (eqb x v) (passes y) (eq-eqb x v f) g) e

    go : ((eqb a v && passes b) ≡ true) ⊎ ((eqb a v && passes b) ≡ false) →
        ((eqb b v && passes a) ≡ true) ⊎ ((eqb b v && passes a) ≡ false)
        → Given passes z a b v best (over_link passes z a b v best)
    go (inl p) q = second (eqb-true a v (and_left (eqb a v) (passes b) p)) (and_right (eqb a v) (passes b) p)
        (rw p refl)
    go (inr p) (inl q) = first (eqb-true b v (and_left (eqb b v) (passes a) q)) (and_right (eqb b v) (passes a) q)
        (rw (p, q) refl)
    go (inr p) (inr q) = none (rw (p, q) refl) (fails a b p) (fails b a q)

-- ---- what all links give

module _ (passes : ℕ → Bool) (ends : List ℕ) (levels : List ℤ) (v : ℕ) where
  -- link i joins v to w, which passes
  abbrev pub Offers : ℕ → ℕ → ℕ → Type 0
  Offers m i w = (i < m) × Joins ends i v w × (passes w ≡ true)

  -- the best is a neighbour that passes, by its link, and no other such is better; or there is no such neighbour
  pub data Found (m : ℕ) (best : Neighbor) : Type 0 where
    by : (j : ℕ) → Offers m j best.unit → best.unit < ABSENT → best.level ≡ level_at levels j
        → ((i x : ℕ) → Offers m i x → Behind (level_at levels i) x best.level best.unit) → Found m best
    lacking : best.unit ≡ ABSENT → ((i x : ℕ) → Offers m i x → ⊥) → Found m best

  -- one link more: what it offers is w alone, which is taken where it is better
  more-taken : (m : ℕ) (best : Neighbor) (w : ℕ) → Joins ends m v w → passes w ≡ true → w < ABSENT
      → ((x : ℕ) → Joins ends m v x → passes x ≡ true → x ≡ w) → Found m best →
      Found (suc m) (prefer best (level_at levels m) w)
  unfolding prefer
  more-taken m best w h g s alone (lacking e f) =
      rw (eq-eqb best.unit ABSENT e)
      (by m (le_refl (suc m), h, g) s refl
      (λ i x o.
      below_suc (λ (k : ℕ). Joins ends k v x → passes x ≡ true → Behind (level_at levels k) x (level_at levels m) w) m
      (λ k l j p. absurd (f k x (l, j, p)))
      (λ j p. rw (alone x j p) (behind_refl (level_at levels m) w)) i o.0 o.1 o.2))
  more-taken m best w h g s alone (by j o l e low) =
      rw (ne_eqb best.unit ABSENT (λ q. omega (arith, q, l)))
      (go (either (better (level_at levels m) w best.level best.unit)))
    where
      go : (better (level_at levels m) w best.level best.unit ≡ true)
          ⊎ (better (level_at levels m) w best.level best.unit ≡ false)
          → Found (suc m) (cond (better (level_at levels m) w best.level best.unit)
          (record { level = level_at levels m; unit = w }) best)
      go (inl t) = rw t
          (by m (le_refl (suc m), h, g) s refl
          (λ i x k.
          below_suc (λ (n : ℕ). Joins ends n v x → passes x ≡ true → Behind (level_at levels n) x (level_at levels m) w)
          m
          (λ n l j p. behind_trans (level_at levels n) best.level (level_at levels m) x best.unit w
          (low n x (l, j, p)) (better-behind (level_at levels m) w best.level best.unit t))
          (λ j p. rw (alone x j p) (behind_refl (level_at levels m) w)) i k.0 k.1 k.2))
      go (inr t) = rw t
          (by j (le_step o.0, o.1, o.2) l e
          (λ i x k.
          below_suc (λ (n : ℕ). Joins ends n v x → passes x ≡ true →
          Behind (level_at levels n) x best.level best.unit) m
          (λ n l j p. low n x (l, j, p))
          (λ j p. rw (alone x j p) (not_better (level_at levels m) w best.level best.unit t)) i k.0 k.1
          k.2))

  -- one that offers none
  more-none : (m : ℕ) (best : Neighbor) → ((x : ℕ) → Joins ends m v x → passes x ≡ true → ⊥) → Found m best →
      Found (suc m) best
  more-none m best without (lacking e f) =
      lacking e
      (λ i x o. below_suc (λ (k : ℕ). Joins ends k v x → passes x ≡ true →
      ⊥) m (λ k l j p. f k x (l, j, p)) (without x) i o.0 o.1 o.2)
  more-none m best without (by j o l e low) =
      by j (le_step o.0, o.1, o.2) l e
      (λ i x k.
      below_suc (λ (n : ℕ). Joins ends n v x → passes x ≡ true →
      Behind (level_at levels n) x best.level best.unit) m
      (λ n l j p. low n x (l, j, p)) (λ j p. absurd (without x j p)) i k.0 k.1 k.2)

  more : (m : ℕ) (best new : Neighbor) → end_a ends m < ABSENT → end_b ends m < ABSENT →
      Given passes (level_at levels m) (end_a ends m) (end_b ends m) v best new
      → Found m best → Found (suc m) new
  more m best new sa sb (second e p q) f = rw q (more-taken m best (end_b ends m) (inl (e, refl)) p sb alone f)
    where
      alone : (x : ℕ) → Joins ends m v x → passes x ≡ true → x ≡ end_b ends m
      alone x (inl h) g = sym h.1
      alone x (inr h) g = sym h.0 ∙ e ∙ sym h.1
  more m best new sa sb (first e p q) f = rw q (more-taken m best (end_a ends m) (inr (refl, e)) p sa alone f)
    where
      alone : (x : ℕ) → Joins ends m v x → passes x ≡ true → x ≡ end_a ends m
      alone x (inl h) g = sym h.1 ∙ e ∙ sym h.0
      alone x (inr h) g = sym h.0
  more m best new sa sb (none e p q) f = rw e (more-none m best without f)
    where
      without : (x : ℕ) → Joins ends m v x → passes x ≡ true → ⊥
      without x (inl h) g = p h.0 (rw h.1 g)
      without x (inr h) g = q h.1 (rw h.0 g)

  pub found : (m : ℕ) → ((j : ℕ) → j < m → end_a ends j < ABSENT) → ((j : ℕ) → j < m → end_b ends j < ABSENT) →
      Found m (best_neighbor passes m ends levels v)
  unfolding best_neighbor
  found zero sa sb = lacking refl (λ i x o. not-suc-le-zero o.0)
  found (suc m) sa sb =
      more m (best_neighbor passes m ends levels v) _ (sa m (le_refl (suc m))) (sb m (le_refl (suc m)))
      (given passes (level_at levels m) (end_a ends m) (end_b ends m) v (best_neighbor passes m ends levels v))
      (found m (λ j l. sa j (le_step l)) (λ j l. sb j (le_step l)))

  -- of those that pass the same tests the same is the best
  pub best_cong : (other : ℕ → Bool) (m : ℕ) →
      ((j : ℕ) → j < m → (passes (end_a ends j) ≡ other (end_a ends j))
      × (passes (end_b ends j) ≡ other (end_b ends j)))
      → best_neighbor passes m ends levels v ≡ best_neighbor other m ends levels v
  unfolding best_neighbor
  best_cong other zero h = refl
  best_cong other (suc m) h = rw (
    (h m (le_refl (suc m))).0,
    (h m (le_refl (suc m))).1,
    best_cong other m (λ j l. h j (le_step l)),
  ) refl

-- and over the same ends
pub best-ends : (passes : ℕ → Bool) (m : ℕ) (ends other : List ℕ) (levels : List ℤ) (v : ℕ)
    → ((j : ℕ) → j < m → (end_a ends j ≡ end_a other j) × (end_b ends j ≡ end_b other j)) →
    best_neighbor passes m ends levels v ≡ best_neighbor passes m other levels v
unfolding best_neighbor
best-ends passes zero ends other levels v h = refl
best-ends passes (suc m) ends other levels v h =
    rw (
      (h m (le_refl (suc m))).0,
      (h m (le_refl (suc m))).1,
      best-ends passes m ends other levels v (λ j l. h j (le_step l)),
    ) refl

-- ---- the parent

module _ (m made : ℕ) (ends : List ℕ) (levels : List ℤ) (dist : List ℕ)
    (small_a : (j : ℕ) → j < m → end_a ends j < ABSENT) (small_b : (j : ℕ) → j < m → end_b ends j
    < ABSENT) (v : ℕ) where
  pub chosen : Choice m made ends dist v (chosen_parent m made ends levels dist v)
  unfolding chosen_parent
  chosen = go (best_neighbor (visited_before made dist) m ends levels v)
      (found (visited_before made dist) ends levels v m small_a small_b)
    where
      go : (best : Neighbor) → Found (visited_before made dist) ends levels v m best →
          Choice m made ends dist v best.unit
      go best (by j o s e low) = nearer s j o.0 o.1 (eqb-true (at dist best.unit) (made - 1) o.2)
      go best (lacking e f) = nobody e (λ j w l h g. f j w (l, h, eq-eqb (at dist w) (made - 1) g))

-- later rounds visit the unvisited units for which there is a choice
pub visits-later : (m made : ℕ) (ends : List ℕ) (levels : List ℤ) (color dist : List ℕ) (v : ℕ) → 1 ≤ made
    → visits m made ends levels color dist v
    ≡ (eqb (at dist v) ABSENT && not (eqb (chosen_parent m made ends levels dist v) ABSENT))
unfolding visits
visits-later m made ends levels color dist v h = rw (ne_eqb made 0 (λ e. omega arith)) refl
