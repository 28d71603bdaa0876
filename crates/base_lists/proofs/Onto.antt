-- A map of 0 .. n − 1 into itself that takes no two numbers to one takes some number to each.
use Rattle.std.specs.Prelude.{◌≡◌, refl, true, List, [], ◌∷◌, ℕ, zero, suc, ◌<◌, length}
use Rattle.std.proofs.Common.{sym, ap, inl, inr, arith}
use Rattle.std.proofs.Math.Decide.{ℕ_discrete}
use Rattle.base_lists.specs.Members.{Mem, Distinct}
use Rattle.base_lists.specs.Counts.{count_true}
use Rattle.base_lists.specs.Pigeonhole.{Picked, pigeonhole}

-- f (n − 1), .., f 0
images : (ℕ → ℕ) → ℕ → List ℕ
images f zero = []
images f (suc n) = f n ∷ images f n

length-images : (f : ℕ → ℕ) (n : ℕ) → length (images f n) ≡ n
unfolding images
length-images f zero = refl
length-images f (suc n) = ap suc (length-images f n)

mem_images : (f : ℕ → ℕ) (n z : ℕ) → Mem z (images f n) → (i : ℕ) × (i < n) × (z ≡ f i)
unfolding images
mem_images f zero z m = absurd m
mem_images f (suc n) z (inl e) = (n, omega arith, e)
mem_images f (suc n) z (inr m) = let r = mem_images f n z m in let h : r.0 < n = r.1 in (r.0, omega arith, r.2)

distinct_images : (f : ℕ → ℕ) (n : ℕ) → ((i j : ℕ) → i < n → j < n → f i ≡ f j → i ≡ j) → Distinct (images f n)
unfolding images
distinct_images f zero inj = tt
distinct_images f (suc n) inj = (fresh, distinct_images f n (λ i j h k. inj i j (omega arith) (omega arith)))
  where
    fresh : Mem (f n) (images f n) → ⊥
    fresh m =
        let r = mem_images f n (f n) m in
        let i = r.0 in
        let h : i < n = r.1 in
        let e : n ≡ i = inj n i (omega arith) (omega arith) r.2 in
        omega arith

-- some number below m that f takes to v, or none
find : (f : ℕ → ℕ) (v m : ℕ) → Dec ((i : ℕ) × (i < m) × (f i ≡ v))
find f v zero = no (λ k. let h : k.0 < 0 = k.1 in omega arith)
find f v (suc m) = go (ℕ_discrete (f m) v) (find f v m)
  where
    go : Dec (f m ≡ v) → Dec ((i : ℕ) × (i < m) × (f i ≡ v)) → Dec ((i : ℕ) × (i < suc m) × (f i ≡ v))
    go (yes e) d = yes (m, omega arith, e)
    go (no e) (yes k) = let h : k.0 < m = k.1 in yes (k.0, omega arith, k.2)
    go (no e) (no k) = no (λ t. other t (ℕ_discrete t.0 m))
      where
        other : (t : (i : ℕ) × (i < suc m) × (f i ≡ v)) → Dec (t.0 ≡ m) → ⊥
        other t (yes x) = e (rw x at t.2)
        other t (no x) = let h : t.0 < suc m = t.1 in k (t.0, omega arith, t.2)

-- a map of 0 .. n − 1 into itself that takes no two numbers to one takes some number to each
pub onto : (f : ℕ → ℕ) (n : ℕ) → ((i : ℕ) → i < n → f i < n) → ((i j : ℕ) → i < n → j < n → f i ≡ f j → i ≡ j)
    → (v : ℕ) → v < n → (i : ℕ) × (i < n) × (f i ≡ v)
onto f n into inj v b = go (find f v n)
  where
    go : Dec ((i : ℕ) × (i < n) × (f i ≡ v)) → (i : ℕ) × (i < n) × (f i ≡ v)
    go (yes k) = k
    go (no k) = absurd (omega (
      arith,
      pigeonhole (λ i. true) n (v ∷ images f n) (fresh, distinct_images f n inj) all,
      length-images f n,
      count_true n,
    ))
      where
        fresh : Mem v (images f n) → ⊥
        fresh m = let r = mem_images f n v m in k (r.0, r.1, sym r.2)

        all : (z : ℕ) → Mem z (v ∷ images f n) → Picked (λ i. true) n z
        all z (inl e) = record { below = rw e b; passes = refl }
        all z (inr m) = let r = mem_images f n z m in record { below = rw r.2 (into r.0 r.1); passes = refl }
