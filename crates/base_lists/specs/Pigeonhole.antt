-- Different numbers, each picked among 0 .. n − 1 by a test, are at most as many as the test picks.
use Rattle.std.specs.Prelude.{◌≡◌, refl, ◌≢◌, Bool, true, List, [], ◌∷◌, ℕ, zero, suc, ◌≤◌, ◌<◌, length}
use Rattle.std.proofs.Common.{sym, ap, subst, ◌∙◌, inl, inr, arith}
use Rattle.base_lists.specs.Members.{Mem, Distinct, mem?}
use Rattle.base_lists.specs.Folds.{count}

-- v is picked among 0 .. n − 1
pub record Picked (p : ℕ → Bool) (n v : ℕ) : Type 0 where
  pub below : v < n
  pub passes : p v ≡ true

-- a member taken out of a list without repeats
remove : (x : ℕ) (l : List ℕ) → Distinct l → Mem x l
    → (k : List ℕ) × (length l ≡ suc (length k)) × Distinct k × ((z : ℕ) → Mem z k → Mem z l × (z ≢ x))
remove x [] d m = absurd m
remove x (y ∷ l) d (inl e) = (l, refl, d.1, λ z m. (inr m, λ h. d.0 (subst (λ (w : ℕ). Mem w l) (h ∙ e) m)))
remove x (y ∷ l) d (inr m) =
    let r = remove x l d.1 m in
    let k = r.0 in
    let both : (z : ℕ) → Mem z k → Mem z l × (z ≢ x) = r.3 in
    (y ∷ k, ap suc r.1, (λ h. d.0 (both y h).0, r.2), go k both)
  where
    go : (k : List ℕ) → ((z : ℕ) → Mem z k → Mem z l × (z ≢ x)) → (z : ℕ) → Mem z (y ∷ k) → Mem z (y ∷ l) × (z ≢ x)
    go k both z (inl e) = (inl e, λ h. d.0 (subst (λ (w : ℕ). Mem w l) (sym h ∙ e) m))
    go k both z (inr h) = (inr (both z h).0, (both z h).1)

pub pigeonhole : (p : ℕ → Bool) (n : ℕ) (l : List ℕ) → Distinct l → ((z : ℕ) → Mem z l → Picked p n z) →
    length l ≤ count n p
pigeonhole p zero [] d h = omega arith
pigeonhole p zero (y ∷ l) d h = let k = (h y (inl refl)).below in omega arith
pigeonhole p (suc n) l d h = go (pigeonhole p n) (mem? n l)
  where
    lower : (z : ℕ) → Picked p (suc n) z → z ≢ n → Picked p n z
    lower z k e = let b = k.below in record { below = omega arith; passes = k.passes }

    go : ((k : List ℕ) → Distinct k → ((z : ℕ) → Mem z k → Picked p n z) → length k ≤ count n p) → Dec (Mem n l) →
        length l ≤ count (suc n) p
    go ih (yes m) =
        let r = remove n l d m in
        let a = ih r.0 r.2 (λ z k. lower z (h z (r.3 z k).0) (r.3 z k).1) in
        let e : p n ≡ true = (h n m).passes in
        rw e (omega (arith, r.1))
    go ih (no m) =
        let a = ih l d (λ z k. lower z (h z k) (λ e. m (subst (λ (w : ℕ). Mem w l) e k))) in
        omega arith
