-- The proof of EachOnce: a number is the list of its bits, and no pair stands twice among the pairs of n units.
use Rattle.std.specs.Prelude.{◌≡◌, refl, Bool, true, false, cond, ◌⊎◌, ◌↔◌, List, [], ◌∷◌, ◌++◌, ℕ, zero, suc, ◌+◌, ◌*◌}
use Rattle.std.specs.Prelude.{◌/◌, ◌%◌, ◌^◌, ◌≤◌, ◌<◌, eqb, length}
use Rattle.std.proofs.Common.{sym, ap, ◌∙◌, inl, inr, arith, eqb-true, eq-eqb}
use Rattle.std.proofs.lemmas.Bool.{eqb-false}
use Rattle.base_lists.specs.Tests.{either}
use Rattle.small_tables.specs.Small.{pairs_with, pairs_from, pairs_of, chosen}
use Rattle.small_tables.specs.EachOnce.{Listed, EachOnce}

-- ---- the pairs of n units

listed-left : (a b : ℕ) (ps qs : List (ℕ × ℕ)) → Listed a b ps → Listed a b (ps ++ qs)
listed-left a b [] qs h = absurd h
listed-left a b (p ∷ ps) qs (inl e) = inl e
listed-left a b (p ∷ ps) qs (inr h) = inr (listed-left a b ps qs h)

listed-right : (a b : ℕ) (ps qs : List (ℕ × ℕ)) → Listed a b qs → Listed a b (ps ++ qs)
listed-right a b [] qs h = h
listed-right a b (p ∷ ps) qs h = inr (listed-right a b ps qs h)

listed-cases : (a b : ℕ) (ps qs : List (ℕ × ℕ)) → Listed a b (ps ++ qs) → Listed a b ps ⊎ Listed a b qs
listed-cases a b [] qs h = inr h
listed-cases a b (p ∷ ps) qs (inl e) = inl (inl e)
listed-cases a b (p ∷ ps) qs (inr h) = go (listed-cases a b ps qs h)
  where
    go : Listed a b ps ⊎ Listed a b qs → Listed a b (p ∷ ps) ⊎ Listed a b qs
    go (inl k) = inl (inr k)
    go (inr k) = inr k

with_of : (x y a b k : ℕ) → Listed x y (pairs_with a b k) → (x ≡ a) × (b ≤ y) × (y < b + k)
with_of x y a b zero h = absurd h
with_of x y a b (suc k) (inl e) = (e.0, omega (arith, e.1), omega (arith, e.1))
with_of x y a b (suc k) (inr h) = let w = with_of x y a (suc b) k h in (w.0, omega (arith, w.1), omega (arith, w.2))

of_with : (y a b k : ℕ) → b ≤ y → y < b + k → Listed a y (pairs_with a b k)
of_with y a b zero l h = absurd (omega arith)
of_with y a b (suc k) l h = go (either (eqb y b)) (λ m. of_with y a (suc b) k m (omega arith))
  where
    go : (eqb y b ≡ true) ⊎ (eqb y b ≡ false) → (suc b ≤ y → Listed a y (pairs_with a (suc b) k)) →
        Listed a y (pairs_with a b (suc k))
    go (inl e) ih = inl (refl, eqb-true y b e)
    go (inr e) ih = inr (ih (omega (arith, eqb-false y b e)))

pub from-of : (x y a k : ℕ) → Listed x y (pairs_from a k) → (a ≤ x) × (x < y) × (y < a + k)
from-of x y a zero h = absurd h
from-of x y a (suc k) h =
    go (listed-cases x y (pairs_with a (suc a) k) (pairs_from (suc a) k) h) (from-of x y (suc a) k)
  where
    go : Listed x y (pairs_with a (suc a) k) ⊎ Listed x y (pairs_from (suc a) k)
        → (Listed x y (pairs_from (suc a) k) → (suc a ≤ x) × (x < y) × (y < suc a + k)) →
        (a ≤ x) × (x < y) × (y < a + suc k)
    go (inl w) ih = let v = with_of x y a (suc a) k w in (
      omega (arith, v.0),
      omega (arith, v.0, v.1),
      omega (arith, v.2),
    )
    go (inr w) ih = let v = ih w in (omega (arith, v.0), v.1, omega (arith, v.2))

of-from : (x y a k : ℕ) → a ≤ x → x < y → y < a + k → Listed x y (pairs_from a k)
of-from x y a zero l h u = absurd (omega arith)
of-from x y a (suc k) l h u = go (either (eqb x a)) (λ m. of-from x y (suc a) k m h (omega arith))
  where
    go : (eqb x a ≡ true) ⊎ (eqb x a ≡ false) → (suc a ≤ x → Listed x y (pairs_from (suc a) k)) →
        Listed x y (pairs_from a (suc k))
    go (inl e) ih =
        let q = eqb-true x a e in
        listed-left x y (pairs_with a (suc a) k) (pairs_from (suc a) k)
        (rw q (of_with y a (suc a) k (omega arith) (omega arith)))
    go (inr e) ih = listed-right x y (pairs_with a (suc a) k) (pairs_from (suc a) k)
        (ih (omega (arith, eqb-false x a e)))

-- no pair stands twice
unfoldable pub Apart : List (ℕ × ℕ) → Type 0
Apart [] = Unit {0}
Apart (p ∷ ps) = (Listed p.0 p.1 ps → ⊥) × Apart ps

apart-join : (ps qs : List (ℕ × ℕ)) → Apart ps → Apart qs → ((a b : ℕ) → Listed a b ps → Listed a b qs → ⊥) →
    Apart (ps ++ qs)
unfolding Apart
apart-join [] qs u v h = v
apart-join (p ∷ ps) qs u v h = (
  λ m. go (listed-cases p.0 p.1 ps qs m),
  apart-join ps qs u.1 v (λ a b k l. h a b (inr k) l),
)
  where
    go : Listed p.0 p.1 ps ⊎ Listed p.0 p.1 qs → ⊥
    go (inl m) = u.0 m
    go (inr m) = h p.0 p.1 (inl (refl, refl)) m

apart_with : (a b k : ℕ) → Apart (pairs_with a b k)
unfolding Apart
apart_with a b zero = tt
apart_with a b (suc k) = (λ m. let w = with_of a b a (suc b) k m in omega (arith, w.1), apart_with a (suc b) k)

pub apart_from : (a k : ℕ) → Apart (pairs_from a k)
unfolding Apart
apart_from a zero = tt
apart_from a (suc k) =
    apart-join (pairs_with a (suc a) k) (pairs_from (suc a) k) (apart_with a (suc a) k) (apart_from (suc a) k)
    (λ x y m l. let v = with_of x y a (suc a) k m in let w = from-of x y (suc a) k l in omega (arith, v.0, w.0))

-- ---- numbers and their bits

-- a pair that is chosen is one of the list
pub chosen_of : (a b : ℕ) (ps : List (ℕ × ℕ)) (k : ℕ) → Listed a b (chosen ps k) → Listed a b ps
chosen_of a b [] k h = absurd h
chosen_of a b (p ∷ ps) k h = go (eqb (k % 2) 1) (chosen_of a b ps (k / 2)) h
  where
    go : (t : Bool) → (Listed a b (chosen ps (k / 2)) → Listed a b ps) →
        Listed a b (cond t (p ∷ chosen ps (k / 2)) (chosen ps (k / 2))) → Listed a b (p ∷ ps)
    go true ih (inl e) = inl e
    go true ih (inr m) = inr (ih m)
    go false ih m = inr (ih m)

-- the first pair, if its bit is set, and those chosen later
chosen-first : (p : ℕ × ℕ) (ps : List (ℕ × ℕ)) (k a b : ℕ) → Listed a b (chosen (p ∷ ps) k)
    → ((k % 2 ≡ 1) × (a ≡ p.0) × (b ≡ p.1)) ⊎ Listed a b (chosen ps (k / 2))
chosen-first p ps k a b h = go (either (eqb (k % 2) 1)) h
  where
    go : (eqb (k % 2) 1 ≡ true) ⊎ (eqb (k % 2) 1 ≡ false) → Listed a b (chosen (p ∷ ps) k)
        → ((k % 2 ≡ 1) × (a ≡ p.0) × (b ≡ p.1)) ⊎ Listed a b (chosen ps (k / 2))
    go (inl e) m = by (rw e at m)
      where
        by : Listed a b (p ∷ chosen ps (k / 2)) →
            ((k % 2 ≡ 1) × (a ≡ p.0) × (b ≡ p.1)) ⊎ Listed a b (chosen ps (k / 2))
        by (inl q) = inl (eqb-true (k % 2) 1 e, q.0, q.1)
        by (inr q) = inr q
    go (inr e) m = inr (rw e at m)

first-chosen : (p : ℕ × ℕ) (ps : List (ℕ × ℕ)) (k : ℕ) → k % 2 ≡ 1 → Listed p.0 p.1 (chosen (p ∷ ps) k)
first-chosen p ps k e = rw (eq-eqb (k % 2) 1 e) (inl (refl, refl))

later-chosen : (p : ℕ × ℕ) (ps : List (ℕ × ℕ)) (k a b : ℕ) → Listed a b (chosen ps (k / 2)) →
    Listed a b (chosen (p ∷ ps) k)
later-chosen p ps k a b m = go (eqb (k % 2) 1)
  where
    go : (t : Bool) → Listed a b (cond t (p ∷ chosen ps (k / 2)) (chosen ps (k / 2)))
    go true = inr m
    go false = m

-- the number of a set of pairs
number_by : (ℕ → ℕ → Bool) → List (ℕ × ℕ) → ℕ
number_by set [] = 0
number_by set (p ∷ ps) = cond (set p.0 p.1) 1 0 + 2 * number_by set ps

number-below : (set : ℕ → ℕ → Bool) (ps : List (ℕ × ℕ)) → number_by set ps < 2 ^ length ps
unfolding number_by
number-below set [] = omega arith
number-below set (p ∷ ps) = go (set p.0 p.1) (number-below set ps)
  where
    go : (t : Bool) → number_by set ps < 2 ^ length ps → cond t 1 0 + 2 * number_by set ps < 2 ^ suc (length ps)
    go true l = omega arith
    go false l = omega arith

number-bits : (t : Bool) (x : ℕ) → ((cond t 1 0 + 2 * x) % 2 ≡ cond t 1 0) × ((cond t 1 0 + 2 * x) / 2 ≡ x)
number-bits true x = (omega arith, omega arith)
number-bits false x = (omega arith, omega arith)

number_chooses : (set : ℕ → ℕ → Bool) (ps : List (ℕ × ℕ)) (a b : ℕ) → Listed a b ps → set a b ≡ true →
    Listed a b (chosen ps (number_by set ps))
unfolding number_by
number_chooses set [] a b h e = absurd h
number_chooses set (p ∷ ps) a b (inl q) e =
    let f : set p.0 p.1 ≡ true = rw (q.0, q.1) at e in
    let k = cond (set p.0 p.1) 1 0 + 2 * number_by set ps in
    let odd : k % 2 ≡ 1 = (number-bits (set p.0 p.1) (number_by set ps)).0 ∙ ap (λ (t : Bool). cond t 1 0) f in
    rw (q.0, q.1) (first-chosen p ps k odd)
number_chooses set (p ∷ ps) a b (inr h) e =
    later-chosen p ps (cond (set p.0 p.1) 1 0 + 2 * number_by set ps) a b
    (rw (number-bits (set p.0 p.1) (number_by set ps)).1 (number_chooses set ps a b h e))

number-chose : (set : ℕ → ℕ → Bool) (ps : List (ℕ × ℕ)) (a b : ℕ) → Listed a b (chosen ps (number_by set ps)) →
    set a b ≡ true
unfolding number_by
number-chose set [] a b h = absurd h
number-chose set (p ∷ ps) a b h = go (number-chose set ps a b)
    (chosen-first p ps (cond (set p.0 p.1) 1 0 + 2 * number_by set ps) a b h)
  where
    yes_of : (s : Bool) → ◌≡◌ {A = ℕ} (cond s 1 0) 1 → s ≡ true
    yes_of true e = refl
    yes_of false e = absurd (omega arith)

    go : (Listed a b (chosen ps (number_by set ps)) → set a b ≡ true) →
        (((cond (set p.0 p.1) 1 0 + 2 * number_by set ps) % 2 ≡ 1) × (a ≡ p.0) × (b ≡ p.1))
        ⊎ Listed a b (chosen ps ((cond (set p.0 p.1) 1 0 + 2 * number_by set ps) / 2)) → set a b ≡ true
    go ih (inl (o, e, f)) = rw (e, f) (yes_of (set p.0 p.1)
        (sym (number-bits (set p.0 p.1) (number_by set ps)).0 ∙ o))
    go ih (inr m) = ih (rw (number-bits (set p.0 p.1) (number_by set ps)).1 at m)

-- two numbers that choose the same pairs are one
number-once : (ps : List (ℕ × ℕ)) → Apart ps → (k l : ℕ) → k < 2 ^ length ps → l < 2 ^ length ps
    → ((a b : ℕ) → Listed a b ps → Listed a b (chosen ps k) ↔ Listed a b (chosen ps l)) → k ≡ l
unfolding Apart
number-once [] u k l hk hl same = omega arith
number-once (p ∷ ps) u k l hk hl same =
    let k-below : k < 2 ^ suc (length ps) = hk in
    let l-below : l < 2 ^ suc (length ps) = hl in
    let halves : k / 2 ≡ l / 2 = number-once ps u.1 (k / 2) (l / 2) (omega arith) (omega arith)
    (λ a b m. (along k l a b m (λ h. (same a b (inr m)).0 h), along l k a b m (λ h. (same a b (inr m)).1 h))) in
    let bits : k % 2 ≡ l % 2 = go (either (eqb (k % 2) 1)) (either (eqb (l % 2) 1)) in
    omega arith
  where
    -- a later pair that k chooses, l chooses too
    along : (i j a b : ℕ) → Listed a b ps → (Listed a b (chosen (p ∷ ps) i) → Listed a b (chosen (p ∷ ps) j))
        → Listed a b (chosen ps (i / 2)) → Listed a b (chosen ps (j / 2))
    along i j a b m f h = by (chosen-first p ps j a b (f (later-chosen p ps i a b h)))
      where
        by : ((j % 2 ≡ 1) × (a ≡ p.0) × (b ≡ p.1)) ⊎ Listed a b (chosen ps (j / 2)) → Listed a b (chosen ps (j / 2))
        by (inl (o, e, q)) = absurd (u.0 (rw (e, q) at m))
        by (inr c) = c

    -- and the first
    odd_too : (i j : ℕ) → i % 2 ≡ 1 → (Listed p.0 p.1 (chosen (p ∷ ps) i) →
        Listed p.0 p.1 (chosen (p ∷ ps) j)) → j % 2 ≡ 1
    odd_too i j o f = by (chosen-first p ps j p.0 p.1 (f (first-chosen p ps i o)))
      where
        by : ((j % 2 ≡ 1) × (p.0 ≡ p.0) × (p.1 ≡ p.1)) ⊎ Listed p.0 p.1 (chosen ps (j / 2)) → j % 2 ≡ 1
        by (inl (q, e, f)) = q
        by (inr c) = absurd (u.0 (chosen_of p.0 p.1 ps (j / 2) c))

    go : (eqb (k % 2) 1 ≡ true) ⊎ (eqb (k % 2) 1 ≡ false) → (eqb (l % 2) 1 ≡ true) ⊎ (eqb (l % 2) 1 ≡ false) →
        k % 2 ≡ l % 2
    go (inl e) q = let o = eqb-true (k % 2) 1 e in omega (
      arith,
      o,
      odd_too k l o (λ h. (same p.0 p.1 (inl (refl, refl))).0 h),
    )
    go (inr e) (inl f) = let o = eqb-true (l % 2) 1 f in omega (
      arith,
      o,
      odd_too l k o (λ h. (same p.0 p.1 (inl (refl, refl))).1 h),
    )
    go (inr e) (inr f) = omega (arith, eqb-false (k % 2) 1 e, eqb-false (l % 2) 1 f)

pub each-once : (n : ℕ) → EachOnce n
each-once n =
    record {
      among = λ k a b h. let w = from-of a b 0 n (chosen_of a b (pairs_of n) k h) in (w.1, omega (arith, w.2));
      each =
          λ set. (
            number_by set (pairs_of n),
            number-below set (pairs_of n),
            λ a b l h. (
              number-chose set (pairs_of n) a b,
              λ e. number_chooses set (pairs_of n) a b (of-from a b 0 n (omega arith) l (omega arith)) e,
            ),
          );
      once =
          λ k l hk hl same.
          number-once (pairs_of n) (apart_from 0 n) k l hk hl
          (λ a b m. let w = from-of a b 0 n m in same a b w.1 (omega (arith, w.2)));
    }
