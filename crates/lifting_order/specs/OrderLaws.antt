-- The tests of the lifting order decide what they say, and what is built from unit 0 comes to all units exactly where
-- an order exists.
use Rattle.std.specs.Prelude.{◌≡◌, refl, true, false, cond, not, ◌&&◌, ◌⊎◌, ◌≢◌, ◌↔◌, List, [], ◌∷◌, eqb, ltb}
use Rattle.std.proofs.Common.{sym, ap, ◌∙◌, arith}
use Rattle.std.proofs.Math.Logic.{inl, inr}
use Prim.Native.Nat.{ℕ, zero, suc, ◌+◌, ◌≤◌, ◌<◌}
use Rattle.std.proofs.Math.ListN.{length}
use borrow.Author.Tests.{eqb-true, eq-eqb, ltb-true, ltb-false}
use Rattle.base_lists.specs.Counts.{count_le}
use Rattle.base_lists.specs.Folds.{some}
use Rattle.base_lists.specs.LeastLaws.{least-is, least_le}
use Rattle.base_lists.specs.Members.{Mem, Distinct, mem?}
use Rattle.base_lists.specs.Parts.{memb, memb_mem, mem_memb}
use Rattle.base_lists.specs.Pigeonhole.{Picked, pigeonhole}
use Rattle.base_lists.specs.Some.{some-exact}
use Rattle.base_lists.specs.Tests.{either, and_exact, or_exact, not_exact}
use Rattle.theory_graph.specs.Rings.{SameLink}
use Rattle.table.specs.Table.{link_count, end_a, end_b}
use Rattle.lifting_order.specs.Lifts.{Lifts, MayStand, LeastEach}
use Rattle.lifting_order.specs.Order.{Joins, Pair, reaches, held, blocks, free, may_stand, next_up, grow}
use Rattle.lifting_order.specs.Building.{built_once, built_units, built_lifts, each_built, not_stuck}

-- ---- the tests

stands-exact : (s : List ℕ) (v : ℕ) → (memb s v ≡ true) ↔ Mem v s
stands-exact s v = (memb_mem s v, mem_memb s v)

same-exact : (a b : ℕ) → (eqb a b ≡ true) ↔ (a ≡ b)
same-exact a b = (eqb-true a b, eq-eqb a b)

held-exact : (t s : List ℕ) (v : ℕ) → (held t s v ≡ true) ↔ ((v ≡ 0) ⊎ ((u : ℕ) × Mem u s × Joins t v u))
held-exact t s v = or_exact (eqb v 0) (some (link_count t) (reaches t s v)) (same-exact v 0) (to, from)
  where
    Reaches : ℕ → Type 0
    Reaches j = ((end_a t j ≡ v) × Mem (end_b t j) s) ⊎ ((end_b t j ≡ v) × Mem (end_a t j) s)

    test : (j : ℕ) → (reaches t s v j ≡ true) ↔ Reaches j
    test j =
        or_exact (eqb (end_a t j) v && memb s (end_b t j)) (eqb (end_b t j) v && memb s (end_a t j))
        (and_exact (eqb (end_a t j) v) (memb s (end_b t j)) (same-exact (end_a t j) v) (stands-exact s (end_b t j)))
        (and_exact (eqb (end_b t j) v) (memb s (end_a t j)) (same-exact (end_b t j) v) (stands-exact s (end_a t j)))

    to : some (link_count t) (reaches t s v) ≡ true → (u : ℕ) × Mem u s × Joins t v u
    to e = let (j, h, q) = (some-exact (link_count t) (reaches t s v)).0 e in by j h ((test j).0 q)
      where
        by : (j : ℕ) → j < link_count t → Reaches j → (u : ℕ) × Mem u s × Joins t v u
        by j h (inl (q, k)) = (end_b t j, k, (j, h, inl (q, refl)))
        by j h (inr (q, k)) = (end_a t j, k, (j, h, inr (refl, q)))

    from : (u : ℕ) × Mem u s × Joins t v u → some (link_count t) (reaches t s v) ≡ true
    from (u, k, (j, h, e)) = (some-exact (link_count t) (reaches t s v)).1 (j, h, (test j).1 (by e))
      where
        by : SameLink (end_a t j) (end_b t j) v u → Reaches j
        by (inl (a, b)) = inl (a, rw b k)
        by (inr (a, b)) = inr (b, rw a k)

free-exact : (p s : List ℕ) (v : ℕ) → (free p s v ≡ true) ↔ ((y : ℕ) → Pair p v y → Mem y s)
free-exact p s v = (to, from)
  where
    none : (free p s v ≡ true) ↔ ((k : ℕ) × (k < link_count p) × (blocks p s v k ≡ true) → ⊥)
    none = not_exact (some (link_count p) (blocks p s v)) (some-exact (link_count p) (blocks p s v))

    test : (k : ℕ) → (blocks p s v k ≡ true) ↔ ((end_a p k ≡ v) × (Mem (end_b p k) s → ⊥))
    test k =
        and_exact (eqb (end_a p k) v) (not (memb s (end_b p k))) (same-exact (end_a p k) v)
        (not_exact (memb s (end_b p k)) (stands-exact s (end_b p k)))

    to : free p s v ≡ true → (y : ℕ) → Pair p v y → Mem y s
    to e y (k, h, a, b) = go (mem? y s)
      where
        go : Dec (Mem y s) → Mem y s
        go (yes m) = m
        go (no m) = absurd (none.0 e (k, h, (test k).1 (a, rw b m)))

    from : ((y : ℕ) → Pair p v y → Mem y s) → free p s v ≡ true
    from f = none.1 (λ c. let (k, h, q) = c in let r = (test k).0 q in r.1 (f (end_b p k) (k, h, r.0, refl)))

pub may-exact : (n : ℕ) (t p s : List ℕ) (v : ℕ) → v < n
    → (may_stand t p s v ≡ true) ↔ MayStand n (Joins t) (Pair p) s v
may-exact n t p s v l = (
  λ e. let r = all.0 e in record { unit = l; down = r.0; held = r.1.0; free = r.1.1 },
  λ q. all.1 (q.down, (q.held, q.free)),
)
  where
    all : (may_stand t p s v ≡ true) ↔ ((Mem v s → ⊥)
        × (((v ≡ 0) ⊎ ((u : ℕ) × Mem u s × Joins t v u)) × ((y : ℕ) → Pair p v y → Mem y s)))
    all =
        and_exact (not (memb s v)) (held t s v && free p s v) (not_exact (memb s v) (stands-exact s v))
        (and_exact (held t s v) (free p s v) (held-exact t s v) (free-exact p s v))

-- ---- counting

-- n numbers below n, all in the list, are at most as many
whole : (n : ℕ) (l : List ℕ) → ((v : ℕ) → v < n → Mem v l) → n ≤ length l
whole zero l h = omega arith
whole (suc n) l h =
    let r = without n l (h n (omega arith)) in
    omega (arith, r.1, whole n r.0 (λ v b. r.2 v (h v (omega arith)) (λ e. omega arith)))
  where
    without : (x : ℕ) (l : List ℕ) → Mem x l →
        (k : List ℕ) × (length l ≡ suc (length k)) × ((v : ℕ) → Mem v l → v ≢ x → Mem v k)
    without x [] m = absurd m
    without x (y ∷ l) (inl e) = (l, refl, keep)
      where
        keep : (v : ℕ) → Mem v (y ∷ l) → v ≢ x → Mem v l
        keep v (inl q) k = absurd (k (q ∙ sym e))
        keep v (inr q) k = q
    without x (y ∷ l) (inr m) = let r = without x l m in (y ∷ r.0, ap suc r.1, keep r.0 r.2)
      where
        keep : (k : List ℕ) → ((v : ℕ) → Mem v l → v ≢ x → Mem v k) → (v : ℕ) → Mem v (y ∷ l) → v ≢ x → Mem v (y ∷ k)
        keep k f v (inl q) d = inl q
        keep k f v (inr q) d = inr (f v q d)

-- n different units are all of them
full : (n : ℕ) (s : List ℕ) → Distinct s → ((v : ℕ) → Mem v s → v < n) → n ≤ length s → (v : ℕ) → v < n → Mem v s
full n s d units e v h = go (mem? v s)
  where
    go : Dec (Mem v s) → Mem v s
    go (yes m) = m
    go (no m) = absurd (omega (arith, pigeonhole (λ i. true) n (v ∷ s) (m, d) picked, count_le n (λ i. true)))
      where
        picked : (z : ℕ) → Mem z (v ∷ s) → Picked (λ i. true) n z
        picked z (inl q) = record { below = rw q h; passes = refl }
        picked z (inr q) = record { below = units z q; passes = refl }

-- different units are at most n
few : (n : ℕ) (s : List ℕ) → Distinct s → ((v : ℕ) → Mem v s → v < n) → length s ≤ n
few n s d units = omega (
  arith,
  pigeonhole (λ i. true) n s d (λ z m. record { below = units z m; passes = refl }),
  count_le n (λ i. true),
)

-- every unit once makes n
pub as_many : (n : ℕ) (s : List ℕ) → Distinct s → ((v : ℕ) → (v < n) ↔ Mem v s) → length s ≡ n
as_many n s d all = omega (arith, few n s d (λ v. (all v).1), whole n s (λ v. (all v).0))

-- ---- the building

module _ (n : ℕ) (t p : List ℕ) where
  abbrev next : List ℕ → ℕ
  next s = next_up n (may_stand t p s)

  next-may : (s : List ℕ) → next s < n → MayStand n (Joins t) (Pair p) s (next s)
  next-may s l = go (least-is n (λ v. cond (may_stand t p s v) v n) n)
    where
      go : (next s ≡ n) ⊎ ((i : ℕ) × (i < n) × (next s ≡ cond (may_stand t p s i) i n)) →
          MayStand n (Joins t) (Pair p) s (next s)
      go (inl e) = absurd (omega arith)
      go (inr (i, h, e)) = by (either (may_stand t p s i))
        where
          by : (may_stand t p s i ≡ true) ⊎ (may_stand t p s i ≡ false) → MayStand n (Joins t) (Pair p) s (next s)
          by (inl b) = let q : next s ≡ i = rw b at e in rw q ((may-exact n t p s i h).0 b)
          by (inr b) = let q : next s ≡ n = rw b at e in absurd (omega arith)

  next-least : (s : List ℕ) (w : ℕ) → MayStand n (Joins t) (Pair p) s w → next s ≤ w
  next-least s w m =
      let b : may_stand t p s w ≡ true = (may-exact n t p s w m.unit).1 m in
      let q : next s ≤ cond (may_stand t p s w) w n = least_le n (λ v. cond (may_stand t p s v) v n) n w m.unit in
      rw b at q

  -- r is grown from s by at most k: by k, or until none may stand next
  pub record Grown (k : ℕ) (s r : List ℕ) : Type 0 where
    pub each : LeastEach n (Joins t) (Pair p) r
    pub stops : (length s + k ≤ length r) ⊎ ((v : ℕ) → MayStand n (Joins t) (Pair p) r v → ⊥)

  pub grown : (k : ℕ) (s : List ℕ) → LeastEach n (Joins t) (Pair p) s → Grown k s (grow n t p k s)
  unfolding grow
  grown zero s l = record { each = l; stops = inl (omega arith) }
  grown (suc k) s l = go (either (ltb (next s) n)) (grown k (next s ∷ s))
    where
      go : (ltb (next s) n ≡ true) ⊎ (ltb (next s) n ≡ false)
          → (LeastEach n (Joins t) (Pair p) (next s ∷ s) → Grown k (next s ∷ s) (grow n t p k (next s ∷ s)))
          → Grown (suc k) s (cond (ltb (next s) n) (grow n t p k (next s ∷ s)) s)
      go (inl b) later =
          let g = later ((next-may s (ltb-true (next s) n b), next-least s), l) in
          rw b (record { each = g.each; stops = stop g.stops })
        where
          stop : (length (next s ∷ s) + k ≤ length (grow n t p k (next s ∷ s)))
              ⊎ ((v : ℕ) → MayStand n (Joins t) (Pair p) (grow n t p k (next s ∷ s)) v → ⊥)
              → (length s + suc k ≤ length (grow n t p k (next s ∷ s)))
              ⊎ ((v : ℕ) → MayStand n (Joins t) (Pair p) (grow n t p k (next s ∷ s)) v → ⊥)
          stop (inl e) = inl (omega arith)
          stop (inr h) = inr h
      go (inr b) later =
          rw b (record {
            each = l;
            stops = inr
                (λ v m. omega (arith, ltb-false (next s) n b, next-least s v m, m.unit));
          })

  -- what is grown as far as it goes is whole exactly where an order exists
  module _ (r : List ℕ) (g : Grown n [] r) (one : 0 < n) (names : (x y : ℕ) → Pair p x y → x < n) where
    pub whole-lifts : length r ≡ n → Lifts n (Joins t) (Pair p) r
    whole-lifts e =
        let b = each_built n (Joins t) (Pair p) r g.each in
        built_lifts n (Joins t) (Pair p) r one names b
        (full n r (built_once n (Joins t) (Pair p) r b) (built_units n (Joins t) (Pair p) r b) (omega arith))

    pub lifts-whole : (o : List ℕ) → Lifts n (Joins t) (Pair p) o → length r ≡ n
    lifts-whole o L = go g.stops (not_stuck n (Joins t) (Pair p) o L r)
      where
        once : Distinct r
        once = built_once n (Joins t) (Pair p) r (each_built n (Joins t) (Pair p) r g.each)

        units : (v : ℕ) → Mem v r → v < n
        units = built_units n (Joins t) (Pair p) r (each_built n (Joins t) (Pair p) r g.each)

        go : (0 + n ≤ length r) ⊎ ((v : ℕ) → MayStand n (Joins t) (Pair p) r v → ⊥)
            → ((v : ℕ) → v < n → Mem v r) ⊎ ((v : ℕ) × MayStand n (Joins t) (Pair p) r v) → length r ≡ n
        go (inl e) s = omega (arith, few n r once units)
        go (inr stuck) (inr (v, m)) = absurd (stuck v m)
        go (inr stuck) (inl all) = as_many n r once (λ v. (all v, units v))
