-- The ring's units in a table: the way up read back, then the way down.
use Rattle.std.specs.Prelude.{◌≡◌, refl, true, false, ℕ, zero, suc, ◌+◌, ◌-◌, ◌≤◌, ◌<◌, min, eqb, length, get_or, set}
use Rattle.std.specs.Prelude.{take}
use Rattle.std.proofs.Common.{sym, ap, ap₂, ◌∙◌, arith, length-append, length-set, get_or-set_same, get_or-set_other}
use mathlib.Core.List.{List, [], ◌∷◌, ◌++◌, reverse, reverse-cons, append_assoc}
use Rattle.spec_rules.specs.Basics.{at}
use Rattle.theory_ears.specs.Lists.{length-reverse}
use Rattle.theory_ears.specs.Steps.{laid, onward, climb}
use Rattle.theory_ears.specs.Upright.{chain, ring_through}
use Rattle.theory_ears.specs.Weaving.{chain-climb, laid-up}

-- the units of a list in a row, at places i, i − 1, .. and at places i, i + 1, ..
abbrev row_down : ℕ → List ℕ → List ℕ → List ℕ
row_down i l out = laid false (onward false) i l out

abbrev row_up : ℕ → List ℕ → List ℕ → List ℕ
row_up i l out = laid false suc i l out

-- ---- what stands in front

-- the first i places, and one more
front-more : (out : List ℕ) (i : ℕ) → i < length out → take (suc i) out ≡ take i out ++ at out i ∷ []
front-more [] i h = absurd (omega arith)
front-more (x ∷ out) zero h = refl
front-more (x ∷ out) (suc i) h = ap (λ (l : List ℕ). x ∷ l) (front-more out i (omega arith))

-- a store past the front
front-set : (out : List ℕ) (i k z : ℕ) → i ≤ k → take i (set out k z) ≡ take i out
front-set out zero k z h = refl
front-set [] (suc i) k z h = refl
front-set (x ∷ out) (suc i) zero z h = absurd (omega arith)
front-set (x ∷ out) (suc i) (suc k) z h = ap (λ (l : List ℕ). x ∷ l) (front-set out i k z (omega arith))

row_up-front : (i : ℕ) (l out : List ℕ) → i + length l ≤ length out →
    take (i + length l) (row_up i l out) ≡ take i out ++ l
row_up-front i [] out h = let e : i + 0 ≡ i = omega arith in rw e (sym (end (take i out)))
  where
    end : (s : List ℕ) → s ++ [] ≡ s
    end [] = refl
    end (x ∷ s) = ap (λ (l : List ℕ). x ∷ l) (end s)
row_up-front i (z ∷ l) out h =
    let e : i + suc (length l) ≡ suc i + length l = omega arith in
    let one : take (suc i) (set out i z) ≡ take i out ++ z ∷ [] =
    front-more (set out i z) i (omega (arith, length-set out i z))
    ∙ ap₂ (λ (s : List ℕ) (x : ℕ). s ++ x ∷ []) (front-set out i i z (omega arith))
    (get_or-set_same out i z 0 (omega arith)) in
    ap (λ (k : ℕ). take k (row_up (suc i) l (set out i z))) e
    ∙ row_up-front (suc i) l (set out i z) (omega (arith, length-set out i z))
    ∙ ap (λ (s : List ℕ). s ++ l) one
    ∙ append_assoc (take i out) (z ∷ []) l

row_down-length : (i : ℕ) (l out : List ℕ) → length (row_down i l out) ≡ length out
row_down-length i [] out = refl
row_down-length i (z ∷ l) out = row_down-length (i - 1) l (set out i z) ∙ length-set out i z

row_down-past : (i : ℕ) (l out : List ℕ) (k : ℕ) → i < k → at (row_down i l out) k ≡ at out k
row_down-past i [] out k h = refl
row_down-past i (z ∷ l) out k h = row_down-past (i - 1) l (set out i z) k (omega arith)
    ∙ get_or-set_other out i k z 0 (λ e. omega arith)

-- to places from i on, the last of the list in front
row_down-front : (i : ℕ) (l out : List ℕ) → 1 ≤ i → i + length l ≤ length out →
    take (i + length l) (row_down (i + length l - 1) l out) ≡ take i out ++ reverse l
row_down-front i [] out p h = let e : i + 0 ≡ i = omega arith in rw e (sym (end (take i out)))
  where
    end : (s : List ℕ) → s ++ [] ≡ s
    end [] = refl
    end (x ∷ s) = ap (λ (l : List ℕ). x ∷ l) (end s)
row_down-front i (z ∷ l) out p h =
    let e : i + suc (length l) - 1 ≡ i + length l = omega arith in
    let f : i + suc (length l) ≡ suc (i + length l) = omega arith in
    let new = set out (i + length l) z in
    let long : length (row_down (i + length l - 1) l new) ≡ length out =
    row_down-length (i + length l - 1) l new ∙ length-set out (i + length l) z in
    rw (e, f)
    (front-more (row_down (i + length l - 1) l new) (i + length l) (omega (arith, long))
    ∙ rw (
      row_down-front i l new p (omega (arith, length-set out (i + length l) z)),
      row_down-past (i + length l - 1) l new (i + length l) (omega arith),
      get_or-set_same out (i + length l) z 0 (omega arith),
      front-set out i (i + length l) z (omega arith),
    ) (append_assoc (take i out) (reverse l) (z ∷ []) ∙ ap (λ (s : List ℕ). take i out ++ s) (sym (reverse-cons z l))))

-- ---- the ring

abbrev pub Closed : ℕ → List ℕ → List ℕ → ℕ → ℕ → ℕ → ℕ → List ℕ → List ℕ → ℕ → Type 0
Closed n low high a b c d out out' r =
    length out ≡ 256 → length (ring_through (at low) (at high) n a b c d) ≤ 256
    → (r ≡ length (ring_through (at low) (at high) n a b c d))
    × (take r out' ≡ ring_through (at low) (at high) n a b c d)

pub closed-row : (n : ℕ) (low high : List ℕ) (a b c d : ℕ) (out o₁ o₂ o₃ o₄ : List ℕ) (s t top i r : ℕ)
    → s ≡ length (chain (at high) (λ (z : ℕ). eqb z b) n d) → t ≡ length (chain (at low) (λ (z : ℕ). eqb z a) n c) →
    o₁ ≡ set out 0 a → o₂ ≡ set o₁ 1 b
    → top ≡ min (s + 1) 2048 → o₃ ≡ laid false (onward false) top (climb high s d) o₂ → i ≡ min (s + 2) 2048 →
    o₄ ≡ laid false (onward true) i (climb low t c) o₃ → r ≡ min (i + t) 2048
    → Closed n low high a b c d out o₄ r
closed-row n low high a b c d out o₁ o₂ o₃ o₄ s t top i r es et e₁ e₂ etop e₃ ei e₄ er long few = (r-is, front)
  where
    u : List ℕ
    u = chain (at high) (λ (z : ℕ). eqb z b) n d

    w : List ℕ
    w = chain (at low) (λ (z : ℕ). eqb z a) n c

    all : length (ring_through (at low) (at high) n a b c d) ≡ suc (suc (s + t))
    all = ap (λ (k : ℕ). suc (suc k)) (length-append (reverse u) w ∙ omega (arith, length-reverse u, es, et))

    i_is : i ≡ 2 + s
    i_is = omega (arith, all)

    top-is : top ≡ 2 + s - 1
    top-is = omega (arith, all)

    r-is : r ≡ length (ring_through (at low) (at high) n a b c d)
    r-is = omega (arith, all, i_is)

    climb-u : climb high s d ≡ u
    climb-u = ap (λ (k : ℕ). climb high k d) es ∙ sym (chain-climb high (λ (z : ℕ). eqb z b) n d)

    climb-w : climb low t c ≡ w
    climb-w = ap (λ (k : ℕ). climb low k c) et ∙ sym (chain-climb low (λ (z : ℕ). eqb z a) n c)

    long₂ : length o₂ ≡ 256
    long₂ = rw (e₂, e₁) (length-set (set out 0 a) 1 b ∙ length-set out 0 a ∙ long)

    first_two : take 2 o₂ ≡ a ∷ (b ∷ [])
    first_two = rw (e₂, e₁) (go out long)
      where
        go : (l : List ℕ) → length l ≡ 256 → take 2 (set (set l 0 a) 1 b) ≡ a ∷ (b ∷ [])
        go [] h = absurd (omega arith)
        go (x ∷ []) h = absurd (omega arith)
        go (x ∷ (y ∷ l)) h = refl

    down : take (2 + s) o₃ ≡ take 2 o₂ ++ reverse u
    down =
        let e : o₃ ≡ row_down (2 + length u - 1) u o₂ = e₃ ∙ rw (climb-u, top-is, es) refl in
        ap (λ (k : ℕ). take (2 + k) o₃) es ∙ ap (λ (o : List ℕ). take (2 + length u) o) e
        ∙ row_down-front 2 u o₂ (omega arith) (omega (arith, long₂, all, few, es))

    long₃ : length o₃ ≡ 256
    long₃ = rw e₃ (row_down-length top (climb high s d) o₂ ∙ long₂)

    front : take r o₄ ≡ ring_through (at low) (at high) n a b c d
    front =
        let e : o₄ ≡ row_up (2 + s) w o₃ =
        e₄ ∙ rw (climb-w, i_is) (laid-up false (2 + s) w o₃ (omega (arith, all, et))) in
        let f : r ≡ 2 + s + length w = omega (arith, r-is, all, et) in
        ap (λ (k : ℕ). take k o₄) f ∙ ap (λ (o : List ℕ). take (2 + s + length w) o) e
        ∙ row_up-front (2 + s) w o₃ (omega (arith, long₃, all, few, et))
        ∙ ap (λ (l : List ℕ). l ++ w) (down ∙ ap (λ (l : List ℕ). l ++ reverse u) first_two)
