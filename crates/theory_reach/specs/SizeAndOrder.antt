-- Descendants and preorder numbers in any spanning forest. The children of v are taken in the cyclic order of v's tree
-- neighbours after v's own parent (a root's children: ascending): by key.
use Rattle.std.specs.Prelude.{◌≡◌, Bool, ◌&&◌, ◌||◌, ◌↔◌, ◌⊎◌, ◌≢◌, List, eqb}
use Rattle.std.proofs.Math.Path.{refl, sym}
use Rattle.std.proofs.Common.{ap, ◌∙◌, inl, inr}
use Rattle.std.proofs.Math.Bool.{true, false, cond}
use Prim.Native.Nat.{ℕ, zero, suc, ◌+◌, ◌≤◌, ◌<◌}
use Rattle.std.proofs.Math.Decide.{ℕ_discrete, dec_lt}
use native.Mathlib.Omega.{arith}
use Rattle.std.proofs.Math.Dec.{ltb}
use borrow.Author.Tests.{eqb-true, eq-eqb, ne_eqb, ltb-true, lt-ltb, le-ltb}
use Rattle.base_lists.specs.Folds.{sum, count}
use Rattle.base_lists.specs.Counts.{count_le}
use Rattle.base_lists.specs.Sums.{sum_cong, sum_zero, sum-add, sum_swap, sum_le, sum_more, sum_one}
use Rattle.base_lists.specs.Tests.{either, or_cases, or_left, or_right, and_left, and_right, and-true, cond_true}
use Rattle.base_lists.specs.Tests.{cond_false, refuted}
use Rattle.spec_rules.specs.Basics.{at}
use Rattle.spec_rules.specs.CyclicOrder.{turned, turned-low, turned-cases, turned-below, turned-one}
use Rattle.theory_graph.specs.Forest.{Anc, self, up}
use Rattle.theory_graph.specs.Ancestors.{anc_trans, anc_depth, anc_level, anc_order, anc_child, anc?, anc_of, top_anc}
use Rattle.theory_graph.specs.Ancestors.{root-up}
use Rattle.theory_reach.specs.Rooted.{Rooted, root_of}

-- v is w or above it, tested by climbing as far as w is deep
climbs : List ℕ → ℕ → ℕ → ℕ → Bool
climbs parent v zero w = eqb v w
climbs parent v (suc k) w = eqb v w || climbs parent v k (at parent w)

pub is_above : List ℕ → (ℕ → ℕ) → ℕ → ℕ → Bool
is_above parent d v w = climbs parent v (d w) w

-- the descendants of v, v included
unfoldable pub nd : ℕ → List ℕ → (ℕ → ℕ) → ℕ → ℕ
nd n parent d v = count n (is_above parent d v)

-- c is a child of v
abbrev pub Child : List ℕ → (ℕ → ℕ) → ℕ → ℕ → Type 0
Child parent d v c = (0 < d c) × (at parent c ≡ v)

is_child : List ℕ → (ℕ → ℕ) → ℕ → ℕ → Bool
is_child parent d v c = ltb 0 (d c) && eqb (at parent c) v

-- the cyclic order round v is cut open after its parent, at a root not at all
pub pivot : List ℕ → (ℕ → ℕ) → ℕ → ℕ
pivot parent d v = cond (ltb 0 (d v)) (suc (at parent v)) 0

abbrev pub key : ℕ → List ℕ → (ℕ → ℕ) → ℕ → ℕ → ℕ
key n parent d v w = turned n (pivot parent d v) w

-- the descendants of the children of v whose key is below k
pub earlier : ℕ → List ℕ → (ℕ → ℕ) → ℕ → ℕ → ℕ
earlier n parent d v k = sum n (λ (c : ℕ). cond (is_child parent d v c && ltb (key n parent d v c) k)
    (nd n parent d c) 0)

pre_at : ℕ → List ℕ → (ℕ → ℕ) → ℕ → ℕ → ℕ
pre_at n parent d zero v = 0
pre_at n parent d (suc k) v = pre_at n parent d k (at parent v) + 1
    + earlier n parent d (at parent v) (key n parent d (at parent v) v)

-- the preorder number of v in its component
pub pre : ℕ → List ℕ → (ℕ → ℕ) → ℕ → ℕ
pre n parent d v = pre_at n parent d (d v) v

-- a test and a number of tests
and_sum : (n : ℕ) (a : Bool) (b : ℕ → Bool) → sum n (λ (i : ℕ). cond (a && b i) 1 0) ≡ cond a (count n b) 0
and_sum n true b = refl
and_sum n false b = sum_zero n (λ (i : ℕ). 0) (λ (i : ℕ) (l : i < n). refl)

module _ {n m : ℕ} {ends color parent : List ℕ} {d : ℕ → ℕ} (rooted : Rooted n m ends color parent d) where
  -- what has a parent is a unit
  pub inside : (v : ℕ) → 0 < d v → v < n
  inside v h = go (dec_lt v n)
    where
      go : Dec (v < n) → v < n
      go (yes l) = l
      go (no l) = absurd (omega (arith, rooted.outside v (omega arith)))

  pub deeper : (v : ℕ) → 0 < d v → d v ≡ suc (d (at parent v))
  deeper v h = rooted.forest.deeper v h

  pub above-exact : (v w : ℕ) → (is_above parent d v w ≡ true) ↔ Anc (at parent) d v w
  unfolding is_above climbs
  above-exact v w = (to (d w) w refl, from (d w) w refl)
    where
      pick : (k y : ℕ) → d y ≡ suc k → (eqb v y ≡ true) ⊎ (climbs parent v k (at parent y) ≡ true)
          → (climbs parent v k (at parent y) ≡ true → Anc (at parent) d v (at parent y)) → Anc (at parent) d v y
      pick k y e (inl s) f = self (eqb-true v y s)
      pick k y e (inr s) f = up {x = y} (omega arith) (f s)

      to : (k y : ℕ) → d y ≡ k → climbs parent v k y ≡ true → Anc (at parent) d v y
      to zero y e t = self (eqb-true v y t)
      to (suc k) y e t =
          pick k y e (or_cases (eqb v y) (climbs parent v k (at parent y)) t)
          (to k (at parent y) (omega (arith, deeper y (omega arith))))

      from : (k y : ℕ) → d y ≡ k → Anc (at parent) d v y → climbs parent v k y ≡ true
      from zero y e (self s) = eq-eqb v y s
      from zero y e (up h a) = absurd (omega arith)
      from (suc k) y e (self s) = or_left (eqb v y) (climbs parent v k (at parent y)) (eq-eqb v y s)
      from (suc k) y e (up h a) = or_right (eqb v y) (climbs parent v k (at parent y))
          (from k (at parent y) (omega (arith, deeper y h)) a)

  child_true : (v c : ℕ) → Child parent d v c → is_child parent d v c ≡ true
  unfolding is_child
  child_true v c h = and-true (ltb 0 (d c)) (eqb (at parent c) v) (lt-ltb 0 (d c) h.0)
      (eq-eqb (at parent c) v h.1)

  child-of : (v c : ℕ) → is_child parent d v c ≡ true → Child parent d v c
  unfolding is_child
  child-of v c t = (
    ltb-true 0 (d c) (and_left (ltb 0 (d c)) (eqb (at parent c) v) t),
    eqb-true (at parent c) v (and_right (ltb 0 (d c)) (eqb (at parent c) v) t),
  )

  child-deeper : (v c : ℕ) → Child parent d v c → d c ≡ suc (d v)
  child-deeper v c h = deeper c h.0 ∙ ap (λ (x : ℕ). suc (d x)) h.1

  child-above : (v c : ℕ) → Child parent d v c → Anc (at parent) d v c
  child-above v c h = up h.0 (self (sym h.1))

  -- ---- descendants

  pub nd_le : (v : ℕ) → nd n parent d v ≤ n
  unfolding nd
  nd_le v = count_le n (is_above parent d v)

  -- w is v, or below one child of v, or not below v
  below_split : (v w : ℕ) → v < n
      → ◌≡◌ {A = ℕ} (cond (is_above parent d v w) 1 0)
      (cond (eqb v w) 1 0 + sum n (λ (c : ℕ). cond (is_child parent d v c && is_above parent d c w) 1 0))
  below_split v w l = go (ℕ_discrete v w) (anc? rooted.forest v w)
    where
      is_through : ℕ → Bool
      is_through c = is_child parent d v c && is_above parent d c w

      through : (c : ℕ) → is_through c ≡ true → Child parent d v c × Anc (at parent) d c w
      through c t = (
        child-of v c (and_left (is_child parent d v c) (is_above parent d c w) t),
        (above-exact c w).0 (and_right (is_child parent d v c) (is_above parent d c w) t),
      )

      none : ((c : ℕ) → Child parent d v c → Anc (at parent) d c w → ⊥) → sum n (λ (c : ℕ). cond (is_through c) 1 0) ≡ 0
      none h =
          sum_zero n (λ (c : ℕ). cond (is_through c) 1 0)
          (λ (c : ℕ) (k : c < n). cond_false (is_through c) 1 0
          (refuted (is_through c) (λ (t : is_through c ≡ true). h c (through c t).0 (through c t).1)))

      one : (c : ℕ) → Child parent d v c → Anc (at parent) d c w → sum n (λ (x : ℕ). cond (is_through x) 1 0) ≡ 1
      one c h a =
          sum_one n (λ (x : ℕ). cond (is_through x) 1 0) c (inside c h.0)
          (λ (x : ℕ) (k : x < n) (e : x ≢ c).
          cond_false (is_through x) 1 0
          (refuted (is_through x) (λ (t : is_through x ≡ true). e (same x (through x t).0 (through x t).1))))
          ∙ cond_true (is_through c) 1 0 (and-true (is_child parent d v c) (is_above parent d c w) (child_true v c h)
          ((above-exact c w).1 a))
        where
          same : (x : ℕ) → Child parent d v x → Anc (at parent) d x w → x ≡ c
          same x g b =
              anc_level rooted.forest
              (anc_order rooted.forest b a (omega (arith, child-deeper v x g, child-deeper v c h)))
              (omega (arith, child-deeper v x g, child-deeper v c h))

      yes_above : Anc (at parent) d v w → ◌≡◌ {A = ℕ} (cond (is_above parent d v w) 1 0) 1
      yes_above a = cond_true (is_above parent d v w) 1 0 ((above-exact v w).1 a)

      go : Dec (v ≡ w) → Dec (Anc (at parent) d v w)
          → ◌≡◌ {A = ℕ} (cond (is_above parent d v w) 1 0)
          (cond (eqb v w) 1 0 + sum n (λ (c : ℕ). cond (is_through c) 1 0))
      go (yes e) a =
          let s : ◌≡◌ {A = ℕ} (cond (eqb v w) 1 0) 1 = cond_true (eqb v w) 1 0 (eq-eqb v w e) in
          omega (
            arith,
            yes_above (self e),
            none (λ (c : ℕ) (h : Child parent d v c) (b : Anc (at parent) d c w). deep c h
                (anc_depth rooted.forest b)),
          )
        where
          deep : (c : ℕ) → Child parent d v c → d c ≤ d w → ⊥
          deep c h k = let j : d v ≡ d w = ap d e in omega (arith, child-deeper v c h)
      go (no e) (yes a) =
          let s : ◌≡◌ {A = ℕ} (cond (eqb v w) 1 0) 0 = cond_false (eqb v w) 1 0 (ne_eqb v w e) in
          let (c, h, g, b) = anc_child rooted.forest a e in
          omega (arith, yes_above a, one c (h, g) b)
      go (no e) (no a) =
          let s : ◌≡◌ {A = ℕ} (cond (eqb v w) 1 0) 0 = cond_false (eqb v w) 1 0 (ne_eqb v w e) in
          let t : ◌≡◌ {A = ℕ} (cond (is_above parent d v w) 1 0) 0 =
          cond_false (is_above parent d v w) 1 0 (refuted (is_above parent d v w) (λ b. a ((above-exact v w).0 b))) in
          omega (
            arith,
            none (λ (c : ℕ) (h : Child parent d v c) (b : Anc (at parent) d c w). a
                (anc_trans (child-above v c h) b)),
          )

  -- a unit and the descendants of its children
  nd_children : (v : ℕ) → v < n → nd n parent d v
      ≡ suc (sum n (λ (c : ℕ). cond (is_child parent d v c) (nd n parent d c) 0))
  unfolding nd
  nd_children v l =
      omega (
        arith,
        sum_cong n (λ (w : ℕ). cond (is_above parent d v w) 1 0) _ (λ (w : ℕ) (k : w < n). below_split v w l),
        sum-add n (λ (w : ℕ). cond (eqb v w) 1 0)
            (λ (w : ℕ). sum n (λ (c : ℕ). cond (is_child parent d v c && is_above parent d c w) 1 0)),
        itself,
        sum_swap n n (λ (w c : ℕ). cond (is_child parent d v c && is_above parent d c w) 1 0),
        sum_cong n (λ (c : ℕ). sum n (λ (w : ℕ). cond (is_child parent d v c && is_above parent d c w) 1 0))
            (λ (c : ℕ). cond (is_child parent d v c) (nd n parent d c) 0)
            (λ (c : ℕ) (k : c < n). and_sum n (is_child parent d v c) (is_above parent d c)),
      )
    where
      itself : sum n (λ (w : ℕ). cond (eqb v w) 1 0) ≡ 1
      itself =
          sum_one n (λ (w : ℕ). cond (eqb v w) 1 0) v l
          (λ (w : ℕ) (k : w < n) (e : w ≢ v). cond_false (eqb v w) 1 0 (ne_eqb v w (λ (s : v ≡ w). e (sym s))))
          ∙ cond_true (eqb v v) 1 0 (eq-eqb v v refl)

  pub nd-positive : (v : ℕ) → v < n → 1 ≤ nd n parent d v
  nd-positive v l = omega (arith, nd_children v l)

  -- ---- children in the order of their keys

  pub parent-unit : (v c : ℕ) → Child parent d v c → v < n
  parent-unit v c h = rw h.1 at (rooted.parent_below c (inside c h.0) h.0)

  pub pivot-parent : (v : ℕ) → 0 < d v → pivot parent d v ≡ suc (at parent v)
  unfolding pivot
  pivot-parent v h = cond_true (ltb 0 (d v)) (suc (at parent v)) 0 (lt-ltb 0 (d v) h)

  pub pivot-root : (v : ℕ) → d v ≡ 0 → pivot parent d v ≡ 0
  unfolding pivot
  pivot-root v h = cond_false (ltb 0 (d v)) (suc (at parent v)) 0 (le-ltb 0 (d v) (omega arith))

  -- where no child's key is from a up to b
  pub earlier_gap : (v a b : ℕ) → a ≤ b →
      ((c : ℕ) → Child parent d v c → a ≤ key n parent d v c → key n parent d v c < b → ⊥)
      → earlier n parent d v a ≡ earlier n parent d v b
  unfolding earlier
  earlier_gap v a b l h = sum_cong n _ _ (λ (c : ℕ) (k : c < n). here c (either (is_child parent d v c)))
    where
      same : (c : ℕ) → Child parent d v c → Dec (key n parent d v c < a) → Dec (key n parent d v c < b)
          → ltb (key n parent d v c) a ≡ ltb (key n parent d v c) b
      same c g (yes i) j = lt-ltb (key n parent d v c) a i ∙ sym (lt-ltb (key n parent d v c) b (omega arith))
      same c g (no i) (yes j) = absurd (h c g (omega arith) j)
      same c g (no i) (no j) = le-ltb (key n parent d v c) a (omega arith)
          ∙ sym (le-ltb (key n parent d v c) b (omega arith))

      here : (c : ℕ) → (is_child parent d v c ≡ true) ⊎ (is_child parent d v c ≡ false)
          → cond (is_child parent d v c && ltb (key n parent d v c) a) (nd n parent d c) 0
          ≡ cond (is_child parent d v c && ltb (key n parent d v c) b) (nd n parent d c) 0
      here c (inl t) = rw (same c (child-of v c t) (dec_lt (key n parent d v c) a) (dec_lt (key n parent d v c) b)) refl
      here c (inr f) = rw f refl

  earlier_mono : (v a b : ℕ) → a ≤ b → earlier n parent d v a ≤ earlier n parent d v b
  unfolding earlier
  earlier_mono v a b l = sum_le n _ _ (λ (c : ℕ) (k : c < n). here c (is_child parent d v c)
      (dec_lt (key n parent d v c) a))
    where
      here : (c : ℕ) (t : Bool) → Dec (key n parent d v c < a)
          → cond (t && ltb (key n parent d v c) a) (nd n parent d c) 0
          ≤ cond (t && ltb (key n parent d v c) b) (nd n parent d c) 0
      here c false i = omega arith
      here c true (yes i) = rw (
        lt-ltb (key n parent d v c) a i,
        lt-ltb (key n parent d v c) b (omega arith),
      ) (omega arith)
      here c true (no i) = rw (le-ltb (key n parent d v c) a (omega arith)) (omega arith)

  pub earlier-none : (v : ℕ) → earlier n parent d v 0 ≡ 0
  unfolding earlier
  earlier-none v = sum_zero n _ (λ (c : ℕ) (k : c < n). here c (is_child parent d v c))
    where
      here : (c : ℕ) (t : Bool) → cond (t && ltb (key n parent d v c) 0) (nd n parent d c) 0 ≡ 0
      here c false = refl
      here c true = rw (le-ltb (key n parent d v c) 0 (omega arith)) refl

  -- one child more
  pub earlier-child : (v c : ℕ) → Child parent d v c
      → earlier n parent d v (suc (key n parent d v c)) ≡ earlier n parent d v (key n parent d v c) + nd n parent d c
  unfolding earlier
  earlier-child v c h = sum_more n _ _ c (nd n parent d c) (inside c h.0) itself other
    where
      itself : cond (is_child parent d v c && ltb (key n parent d v c) (suc (key n parent d v c))) (nd n parent d c) 0
          ≡ cond (is_child parent d v c && ltb (key n parent d v c) (key n parent d v c)) (nd n parent d c) 0
          + nd n parent d c
      itself =
          rw (
            child_true v c h,
            lt-ltb (key n parent d v c) (suc (key n parent d v c)) (omega arith),
            le-ltb (key n parent d v c) (key n parent d v c) (omega arith),
          )
          (omega arith)

      less : (x y : ℕ) → x ≢ y → Dec (x < y) → ltb x (suc y) ≡ ltb x y
      less x y e (yes i) = lt-ltb x (suc y) (omega arith) ∙ sym (lt-ltb x y i)
      less x y e (no i) = le-ltb x (suc y) (omega arith) ∙ sym (le-ltb x y (omega arith))

      other : (x : ℕ) → x < n → x ≢ c
          → cond (is_child parent d v x && ltb (key n parent d v x) (suc (key n parent d v c))) (nd n parent d x) 0
          ≡ cond (is_child parent d v x && ltb (key n parent d v x) (key n parent d v c)) (nd n parent d x) 0
      other x l e =
          rw (less (key n parent d v x) (key n parent d v c)
          (λ s. e (turned-one n (pivot parent d v) x c l (inside c h.0) s))
          (dec_lt (key n parent d v x) (key n parent d v c))) refl

  -- all of them
  earlier-all : (v k : ℕ) → v < n → n + n ≤ k → suc (earlier n parent d v k) ≡ nd n parent d v
  unfolding earlier
  earlier-all v k l b = omega (
    arith,
    nd_children v l,
    sum_cong n _ _ (λ (c : ℕ) (i : c < n). here c i (is_child parent d v c)),
  )
    where
      here : (c : ℕ) → c < n → (t : Bool) →
          cond (t && ltb (key n parent d v c) k) (nd n parent d c) 0 ≡ cond t (nd n parent d c) 0
      here c i false = refl
      here c i true = rw (lt-ltb (key n parent d v c) k (omega (arith, turned-below n (pivot parent d v) c i))) refl

  -- the parent comes after all children
  pub earlier-parent : (v : ℕ) → 0 < d v → suc (earlier n parent d v (key n parent d v (at parent v))) ≡ nd n parent d v
  earlier-parent v h =
      let q : ℕ = at parent v in
      let l : q < n = rooted.parent_below v (inside v h) h in
      let e = earlier_gap v (key n parent d v q) (n + n) (omega (arith, turned-below n (pivot parent d v) q l)) last in
      omega (arith, earlier-all v (n + n) (inside v h) (omega arith))
    where
      other : (c : ℕ) → Child parent d v c → c ≢ at parent v
      other c g e = let j : d c ≡ d (at parent v) = ap d e in omega (arith, child-deeper v c g, deeper v h)

      last : (c : ℕ) → Child parent d v c → key n parent d v (at parent v) ≤ key n parent d v c →
          key n parent d v c < n + n → ⊥
      last c g a b =
          let j : turned n (suc (at parent v)) (at parent v) ≤ turned n (suc (at parent v)) c =
          rw (pivot-parent v h) at a in
          let k = turned-low n (suc (at parent v)) (at parent v) (omega arith) in
          turned-cases n (suc (at parent v)) c (λ i e. other c g (omega arith)) (λ i e. omega (arith, inside c g.0))

  -- ---- preorder numbers

  pub pre-root : (v : ℕ) → d v ≡ 0 → pre n parent d v ≡ 0
  unfolding pre pre_at
  pre-root v h = rw h refl

  pub pre-child : (v c : ℕ) → Child parent d v c →
      pre n parent d c ≡ pre n parent d v + 1 + earlier n parent d v (key n parent d v c)
  unfolding pre pre_at
  pre-child v c h = rw (deeper c h.0, h.1) refl

  pub pre-deep : (v : ℕ) → d v ≤ pre n parent d v
  pre-deep v = go (d v) v refl
    where
      go : (k y : ℕ) → d y ≡ k → d y ≤ pre n parent d y
      go zero y e = omega arith
      go (suc k) y e =
          let h : 0 < d y = omega arith in
          let s = deeper y h in
          omega (arith, pre-child (at parent y) y (h, refl), go k (at parent y) (omega arith))

  -- a child's interval lies within its parent's, past its start
  child-within : (v c : ℕ) → Child parent d v c
      → (pre n parent d v < pre n parent d c)
      × (pre n parent d c + nd n parent d c ≤ pre n parent d v + nd n parent d v)
  child-within v c h =
      let a = earlier_mono v (suc (key n parent d v c)) (n + n)
      (turned-below n (pivot parent d v) c (inside c h.0)) in
      let b = earlier-all v (n + n) (parent-unit v c h) (omega arith) in
      let e = pre-child v c h in
      let f = earlier-child v c h in
      (omega arith, omega arith)

  -- of two children the one with the lesser key ends before the other starts
  child-apart : (v c x : ℕ) → Child parent d v c → Child parent d v x → key n parent d v c < key n parent d v x
      → pre n parent d c + nd n parent d c ≤ pre n parent d x
  child-apart v c x h g l =
      omega (
        arith,
        earlier_mono v (suc (key n parent d v c)) (key n parent d v x) l,
        earlier-child v c h,
        pre-child v c h,
        pre-child v x g,
      )

  pub anc_within : {v w : ℕ} → Anc (at parent) d v w
      → (pre n parent d v ≤ pre n parent d w)
      × (pre n parent d w + nd n parent d w ≤ pre n parent d v + nd n parent d v)
  anc_within (self e) = rw e (omega arith)
  anc_within {v} {w} (up h a) =
      let r = anc_within a in
      let s = child-within (at parent w) w (h, refl) in
      (omega arith, omega arith)

  -- what is not below v in its component lies outside its interval
  pub pre-apart : (v w : ℕ) → root_of n color v ≡ root_of n color w → (Anc (at parent) d v w → ⊥)
      → (pre n parent d w < pre n parent d v) ⊎ (pre n parent d v + nd n parent d v ≤ pre n parent d w)
  pre-apart v w = go (d v) v refl
    where
      Outside : ℕ → Type 0
      Outside y = (pre n parent d w < pre n parent d y) ⊎ (pre n parent d y + nd n parent d y ≤ pre n parent d w)

      sibling : (y c : ℕ) → 0 < d y → Child parent d (at parent y) c → Anc (at parent) d c w → c ≢ y
          → Dec (key n parent d (at parent y) c < key n parent d (at parent y) y) → Outside y
      sibling y c h g a e (yes i) =
          let s = child-apart (at parent y) c y g (h, refl) i in
          let t = anc_within a in
          let b = anc_depth rooted.forest a in
          let z = nd-positive w (inside w (omega arith)) in
          inl (omega arith)
      sibling y c h g a e (no i) =
          let j : key n parent d (at parent y) y < key n parent d (at parent y) c =
          past (ℕ_discrete (key n parent d (at parent y) c) (key n parent d (at parent y) y)) in
          let s = child-apart (at parent y) y c (h, refl) g j in
          let t = anc_within a in
          inr (omega arith)
        where
          past : Dec (key n parent d (at parent y) c ≡ key n parent d (at parent y) y) →
              key n parent d (at parent y) y < key n parent d (at parent y) c
          past (yes q) = absurd (e (turned-one n (pivot parent d (at parent y)) c y (inside c g.0) (inside y h) q))
          past (no q) = omega arith

      below : (y : ℕ) → 0 < d y → (Anc (at parent) d y w → ⊥) → Anc (at parent) d (at parent y) w →
          Dec (at parent y ≡ w) → Outside y
      below y h not a (yes e) = let s = child-within (at parent y) y (h, refl) in inl (rw (← e) s.0)
      below y h not a (no e) =
          let (c, g, q, b) = anc_child rooted.forest a e in
          sibling y c h (g, q) b (λ (z : c ≡ y). not (anc_of z b))
          (dec_lt (key n parent d (at parent y) c) (key n parent d (at parent y) y))

      wider : (y : ℕ) → 0 < d y → Outside (at parent y) → Outside y
      wider y h (inl k) = let s = child-within (at parent y) y (h, refl) in inl (omega arith)
      wider y h (inr k) = let s = child-within (at parent y) y (h, refl) in inr (omega arith)

      either_way : (y : ℕ) → 0 < d y → (Anc (at parent) d y w → ⊥) → Dec (Anc (at parent) d (at parent y) w)
          → ((Anc (at parent) d (at parent y) w → ⊥) → Outside (at parent y)) → Outside y
      either_way y h not (yes a) f = below y h not a (ℕ_discrete (at parent y) w)
      either_way y h not (no a) f = wider y h (f a)

      go : (k y : ℕ) → d y ≡ k → root_of n color y ≡ root_of n color w → (Anc (at parent) d y w → ⊥) → Outside y
      go zero y e s not = absurd (not (top_anc rooted.forest s e))
      go (suc k) y e s not =
          let h : 0 < d y = omega arith in
          either_way y h not (anc? rooted.forest (at parent y) w)
          (go k (at parent y) (omega (arith, deeper y h)) (root-up rooted.forest y h ∙ s))
