-- Laws of stage 3's order round a unit: what the neighbour after another is, that each neighbour comes after one, and
-- what the cyclic order looks like when it is cut open at a neighbour of choice.
use Rattle.std.specs.Prelude.{◌≡◌, refl, Bool, true, false, cond, ◌&&◌, ◌⊎◌, ◌≢◌, List, ℕ, zero, suc, ◌+◌, ◌≤◌, ◌<◌}
use Rattle.std.specs.Prelude.{eqb, ltb}
use Rattle.std.proofs.Common.{◌∙◌, inl, inr, le_refl, arith, eqb-true, ltb-true, lt-ltb, le-ltb}
use Rattle.std.proofs.Math.Nat.{le_step}
use Rattle.std.proofs.Math.Decide.{ℕ_discrete, dec_lt}
use Rattle.std.proofs.lemmas.Bool.{eqb-false}
use Rattle.base_lists.specs.Folds.{least}
use Rattle.base_lists.specs.LeastLaws.{least_le, least-is}
use Rattle.base_lists.specs.Tests.{either, and_left, and_right, and-true, cond_true, cond_false, not_both}
use Rattle.spec_rules.specs.Basics.{ABSENT, at}
use Rattle.spec_rules.specs.Tour.{tree_neighbor, least_neighbor, greater_neighbor, neighbor_after}

-- ---- the least number that passes a test, absent where none does

abbrev pub least_passing : ℕ → (ℕ → Bool) → ℕ
least_passing n p = least n (λ (w : ℕ). cond (p w) w ABSENT) ABSENT

pub passing-least : (n : ℕ) (p : ℕ → Bool) (x : ℕ) → x < n → p x ≡ true → least_passing n p ≤ x
passing-least n p x l t = rw (cond_true (p x) x ABSENT t) at (least_le n (λ (w : ℕ). cond (p w) w ABSENT) ABSENT x l)

passing : (n : ℕ) (p : ℕ → Bool) → (least_passing n p ≡ ABSENT)
    ⊎ ((least_passing n p < n) × (p (least_passing n p) ≡ true))
passing n p = go (least-is n (λ (w : ℕ). cond (p w) w ABSENT) ABSENT)
  where
    at_one : (i : ℕ) → i < n → least_passing n p ≡ cond (p i) i ABSENT → (p i ≡ true) ⊎ (p i ≡ false)
        → (least_passing n p ≡ ABSENT) ⊎ ((least_passing n p < n) × (p (least_passing n p) ≡ true))
    at_one i l e (inl t) = let s : least_passing n p ≡ i = e ∙ cond_true (p i) i ABSENT t in inr (rw s l, rw s t)
    at_one i l e (inr f) = inl (e ∙ cond_false (p i) i ABSENT f)

    go : (least_passing n p ≡ ABSENT) ⊎ ((i : ℕ) × (i < n) × (least_passing n p ≡ cond (p i) i ABSENT))
        → (least_passing n p ≡ ABSENT) ⊎ ((least_passing n p < n) × (p (least_passing n p) ≡ true))
    go (inl e) = inl e
    go (inr (i, l, e)) = at_one i l e (either (p i))

-- where one passes, it is found
pub passing-found : (n : ℕ) (p : ℕ → Bool) (x : ℕ) → n ≤ ABSENT → x < n → p x ≡ true →
    (least_passing n p < n) × (p (least_passing n p) ≡ true)
passing-found n p x small l t = go (passing n p)
  where
    go : (least_passing n p ≡ ABSENT) ⊎ ((least_passing n p < n) × (p (least_passing n p) ≡ true)) →
        (least_passing n p < n) × (p (least_passing n p) ≡ true)
    go (inl e) = absurd (omega (arith, passing-least n p x l t))
    go (inr w) = w

-- the greatest number below b that passes, or none does
last-passing : (p : ℕ → Bool) (b : ℕ)
    → ((u : ℕ) × (u < b) × (p u ≡ true) × ((x : ℕ) → x < b → p x ≡ true → x ≤ u)) ⊎ ((x : ℕ) → x < b → p x ≡ true → ⊥)
last-passing p zero = inr (λ (x : ℕ) (l : x < 0) (t : p x ≡ true). omega arith)
last-passing p (suc b) = go (either (p b)) (last-passing p b)
  where
    Found : Type 0
    Found = (u : ℕ) × (u < b) × (p u ≡ true) × ((x : ℕ) → x < b → p x ≡ true → x ≤ u)

    lower : (x : ℕ) → x < suc b → p x ≡ true → p b ≡ false → x < b
    lower x l t f = at_most (ℕ_discrete x b)
      where
        at_most : Dec (x ≡ b) → x < b
        at_most (yes e) = absurd (not_both (p b) (rw e at t) f)
        at_most (no e) = omega arith

    go : (p b ≡ true) ⊎ (p b ≡ false) → Found ⊎ ((x : ℕ) → x < b → p x ≡ true → ⊥)
        → ((u : ℕ) × (u < suc b) × (p u ≡ true) × ((x : ℕ) → x < suc b → p x ≡ true → x ≤ u))
        ⊎ ((x : ℕ) → x < suc b → p x ≡ true → ⊥)
    go (inl t) r = inl (b, le_refl (suc b), t, λ (x : ℕ) (l : x < suc b) (s : p x ≡ true). omega arith)
    go (inr f) (inl (u, l, t, h)) = inl (
      u,
      le_step l,
      t,
      λ (x : ℕ) (k : x < suc b) (s : p x ≡ true). h x (lower x k s f) s,
    )
    go (inr f) (inr h) = inr (λ (x : ℕ) (k : x < suc b) (s : p x ≡ true). h x (lower x k s f) s)

-- ---- the next in cyclic order among the numbers below n that pass a test

pub data Next (nb : ℕ → Bool) (n u w : ℕ) : Type 0 where
  greater : u < w → ((x : ℕ) → x < n → nb x ≡ true → u < x → w ≤ x) → Next nb n u w
  wrapped : ((x : ℕ) → x < n → nb x ≡ true → x ≤ u) → ((x : ℕ) → x < n → nb x ≡ true → w ≤ x) → Next nb n u w

next_unique : {nb : ℕ → Bool} {n u w z : ℕ} → w < n → nb w ≡ true → z < n → nb z ≡ true → Next nb n u w →
    Next nb n u z → w ≡ z
next_unique {u = u} {w = w} {z = z} lw tw lz tz (greater a f) (greater b g) = omega (arith, f z lz tz b, g w lw tw a)
next_unique {u = u} {w = w} {z = z} lw tw lz tz (greater a f) (wrapped b g) = absurd (omega (arith, b w lw tw))
next_unique {u = u} {w = w} {z = z} lw tw lz tz (wrapped a f) (greater b g) = absurd (omega (arith, a z lz tz))
next_unique {u = u} {w = w} {z = z} lw tw lz tz (wrapped a f) (wrapped b g) = omega (arith, f z lz tz, g w lw tw)

-- each comes after one
pub next-onto : (nb : ℕ → Bool) (n w : ℕ) → w < n → nb w ≡ true → (u : ℕ) × (u < n) × (nb u ≡ true) × Next nb n u w
next-onto nb n w l t = go (last-passing nb w) (last-passing nb n)
  where
    go : ((u : ℕ) × (u < w) × (nb u ≡ true) × ((x : ℕ) → x < w → nb x ≡ true → x ≤ u))
        ⊎ ((x : ℕ) → x < w → nb x ≡ true → ⊥)
        → ((u : ℕ) × (u < n) × (nb u ≡ true) × ((x : ℕ) → x < n → nb x ≡ true → x ≤ u))
        ⊎ ((x : ℕ) → x < n → nb x ≡ true → ⊥)
        → (u : ℕ) × (u < n) × (nb u ≡ true) × Next nb n u w
    go (inl (u, b, s, h)) r = (
      u,
      omega arith,
      s,
      greater b (λ (x : ℕ) (k : x < n) (q : nb x ≡ true) (j : u < x). from x q j (dec_lt x w)),
    )
      where
        from : (x : ℕ) → nb x ≡ true → u < x → Dec (x < w) → w ≤ x
        from x q j (yes i) = absurd (omega (arith, h x i q))
        from x q j (no i) = omega arith
    go (inr h) (inl (u, b, s, g)) =
        (u, b, s, wrapped g (λ (x : ℕ) (k : x < n) (q : nb x ≡ true). from x q (dec_lt x w)))
      where
        from : (x : ℕ) → nb x ≡ true → Dec (x < w) → w ≤ x
        from x q (yes i) = absurd (h x i q)
        from x q (no i) = omega arith
    go (inr h) (inr g) = absurd (g w l t)

-- what neighbor_after finds
pub after_next : (n : ℕ) (parent : List ℕ) (v u : ℕ) → n ≤ ABSENT → u < n → tree_neighbor parent v u ≡ true
    → (neighbor_after n parent v u < n) × (tree_neighbor parent v (neighbor_after n parent v u) ≡ true)
    × Next (tree_neighbor parent v) n u (neighbor_after n parent v u)
unfolding neighbor_after least_neighbor greater_neighbor
after_next n parent v u small l t = go (either (eqb g ABSENT)) (passing n above)
  where
    nb : ℕ → Bool
    nb w = tree_neighbor parent v w

    above : ℕ → Bool
    above w = tree_neighbor parent v w && ltb u w

    g : ℕ
    g = least_passing n (λ (w : ℕ). tree_neighbor parent v w && ltb u w)

    low : ℕ
    low = least_passing n (λ (w : ℕ). tree_neighbor parent v w)

    is-above : (x : ℕ) → nb x ≡ true → u < x → above x ≡ true
    is-above x s k = and-true (nb x) (ltb u x) s (lt-ltb u x k)

    Found : ℕ → Type 0
    Found w = (w < n) × (nb w ≡ true) × Next nb n u w

    none : g ≡ ABSENT → Found low
    none e =
        let f = passing-found n nb u small l t in
        (f.0, f.1, wrapped (λ (x : ℕ) (k : x < n) (s : nb x ≡ true). under x k s (dec_lt u x)) (passing-least n nb))
      where
        under : (x : ℕ) → x < n → nb x ≡ true → Dec (u < x) → x ≤ u
        under x k s (yes j) = absurd (omega (arith, passing-least n above x k (is-above x s j)))
        under x k s (no j) = omega arith

    go : (eqb g ABSENT ≡ true) ⊎ (eqb g ABSENT ≡ false) → (g ≡ ABSENT) ⊎ ((g < n) × (above g ≡ true)) →
        Found (cond (eqb g ABSENT) low g)
    go (inl e) r = rw e (none (eqb-true g ABSENT e))
    go (inr e) (inl r) = absurd (eqb-false g ABSENT e r)
    go (inr e) (inr (b, s)) =
        rw e (
          b,
          and_left (nb g) (ltb u g) s,
          greater (ltb-true u g (and_right (nb g) (ltb u g) s))
              (λ (x : ℕ) (k : x < n) (q : nb x ≡ true) (j : u < x). passing-least n above x k (is-above x q j)),
        )

-- so it is any that is next
pub after_is : (n : ℕ) (parent : List ℕ) (v u w : ℕ) → n ≤ ABSENT → u < n → tree_neighbor parent v u ≡ true → w < n →
    tree_neighbor parent v w ≡ true
    → Next (tree_neighbor parent v) n u w → neighbor_after n parent v u ≡ w
after_is n parent v u w small l t k s h = let r =
    after_next n parent v u small l t in next_unique r.0 r.1 k s r.2 h

-- ---- the order cut open

-- numbers from the pivot on come first, then those below it
unfoldable pub turned : ℕ → ℕ → ℕ → ℕ
turned n pivot w = w + cond (ltb w pivot) n 0

pub turned-low : (n pivot w : ℕ) → w < pivot → turned n pivot w ≡ w + n
unfolding turned
turned-low n pivot w l = rw (lt-ltb w pivot l) refl

pub turned-high : (n pivot w : ℕ) → pivot ≤ w → turned n pivot w ≡ w
unfolding turned
turned-high n pivot w l = rw (le-ltb w pivot l) (omega arith)

-- a number is below the pivot or not
pub turned-cases : {G : Type 0} (n pivot w : ℕ) → (w < pivot → turned n pivot w ≡ w + n → G) →
    (pivot ≤ w → turned n pivot w ≡ w → G) → G
turned-cases {G} n pivot w f g = go (dec_lt w pivot)
  where
    go : Dec (w < pivot) → G
    go (yes l) = f l (turned-low n pivot w l)
    go (no l) = let k : pivot ≤ w = omega arith in g k (turned-high n pivot w k)

pub turned-below : (n pivot w : ℕ) → w < n → turned n pivot w < n + n
turned-below n pivot w l = turned-cases n pivot w (λ k e. omega arith) (λ k e. omega arith)

pub turned-one : (n pivot w x : ℕ) → w < n → x < n → turned n pivot w ≡ turned n pivot x → w ≡ x
turned-one n pivot w x l k h =
    turned-cases n pivot w
    (λ a e. turned-cases n pivot x (λ b g. omega arith) (λ b g. omega arith))
    (λ a e. turned-cases n pivot x (λ b g. omega arith) (λ b g. omega arith))

-- w is the next after u, by key
abbrev NextBy : (ℕ → ℕ) → (ℕ → Bool) → ℕ → ℕ → ℕ → Type 0
NextBy key nb n u w = (key u < key w) × ((x : ℕ) → x < n → nb x ≡ true → key u < key x → key w ≤ key x)

module _ {nb : ℕ → Bool} {n u w : ℕ} (lw : w < n) (tw : nb w ≡ true) where
  -- cut after u, the next comes first
  pub turned-first : Next nb n u w → (x : ℕ) → x < n → nb x ≡ true → turned n (suc u) w ≤ turned n (suc u) x
  turned-first (greater a f) x l t =
      let kw = turned-high n (suc u) w a in
      turned-cases n (suc u) x (λ k e. omega arith) (λ k e. omega (arith, f x l t k))
  turned-first (wrapped a f) x l t =
      let bx = a x l t in
      let bw = a w lw tw in
      omega (arith, f x l t, turned-low n (suc u) x (omega arith), turned-low n (suc u) w (omega arith))

  -- cut after another one q, the next is the next by key, and u is not the last
  pub turned-next : (q : ℕ) → q < n → nb q ≡ true → u ≢ q → u < n → Next nb n u w → NextBy (turned n (suc q)) nb n u w
  turned-next q lq tq d lu (greater a f) =
      turned-cases n (suc q) u
      (λ k ku.
      let b = f q lq tq (omega arith) in
      let kw = turned-low n (suc q) w (omega arith) in (
        omega arith,
        λ x l t j. turned-cases n (suc q) x (λ i e. omega (arith, f x l t (omega arith)))
            (λ i e. omega arith),
      ))
      (λ k ku.
      let kw = turned-high n (suc q) w (omega arith) in (
        omega arith,
        λ x l t j. turned-cases n (suc q) x (λ i e. omega arith)
            (λ i e. omega (arith, f x l t (omega arith))),
      ))
  turned-next q lq tq d lu (wrapped a f) =
      let b = a q lq tq in
      let c = f q lq tq in
      let ku = turned-high n (suc q) u (omega arith) in
      let kw = turned-low n (suc q) w (omega arith) in
      (omega arith, λ x l t j. turned-cases n (suc q) x (λ i e. omega (arith, f x l t)) (λ i e. omega (arith, a x l t)))
