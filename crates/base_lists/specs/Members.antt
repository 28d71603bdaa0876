-- Members of a list of numbers, lists without repeats, and what parts, turns and reversal keep of both.
use Rattle.std.specs.Prelude.{◌≡◌, refl, ◌⊎◌, ℕ}
use Rattle.std.proofs.Common.{sym, ap, subst, inl, inr}
use mathlib.Core.List.{List, [], ◌∷◌, ◌++◌, reverse, reverse-cons}
use Rattle.std.proofs.Math.Decide.{ℕ_discrete}

-- x stands in the list
abbrev pub Mem : ℕ → List ℕ → Type 0
Mem x [] = ⊥
Mem x (y ∷ l) = (x ≡ y) ⊎ Mem x l

-- the elements are all different
abbrev pub Distinct : List ℕ → Type 0
Distinct [] = Unit {0}
Distinct (x ∷ l) = (Mem x l → ⊥) × Distinct l

-- no element of the one stands in the other
abbrev pub Disjoint : List ℕ → List ℕ → Type 0
Disjoint s t = (x : ℕ) → Mem x s → Mem x t → ⊥

pub mem? : (x : ℕ) (l : List ℕ) → Dec (Mem x l)
mem? x [] = no (λ m. m)
mem? x (y ∷ l) = go (ℕ_discrete x y) (mem? x l)
  where
    go : Dec (x ≡ y) → Dec (Mem x l) → Dec ((x ≡ y) ⊎ Mem x l)
    go (yes e) d = yes (inl e)
    go (no e) (yes m) = yes (inr m)
    go (no e) (no m) = no (elim [ inl h ↦ e h | inr h ↦ m h ])

pub mem_left : (x : ℕ) (s t : List ℕ) → Mem x s → Mem x (s ++ t)
mem_left x [] t m = absurd m
mem_left x (y ∷ s) t (inl e) = inl e
mem_left x (y ∷ s) t (inr m) = inr (mem_left x s t m)

pub mem_right : (x : ℕ) (s t : List ℕ) → Mem x t → Mem x (s ++ t)
mem_right x [] t m = m
mem_right x (y ∷ s) t m = inr (mem_right x s t m)

pub mem_cases : (x : ℕ) (s t : List ℕ) → Mem x (s ++ t) → Mem x s ⊎ Mem x t
mem_cases x [] t m = inr m
mem_cases x (y ∷ s) t (inl e) = inl (inl e)
mem_cases x (y ∷ s) t (inr m) = go (mem_cases x s t m)
  where
    go : Mem x s ⊎ Mem x t → Mem x (y ∷ s) ⊎ Mem x t
    go (inl h) = inl (inr h)
    go (inr h) = inr h

pub mem_swap : (x : ℕ) (s t : List ℕ) → Mem x (s ++ t) → Mem x (t ++ s)
mem_swap x s t m = go (mem_cases x s t m)
  where
    go : Mem x s ⊎ Mem x t → Mem x (t ++ s)
    go (inl h) = mem_right x t s h
    go (inr h) = mem_left x t s h

-- the parts before and after a member
pub mem_split : (x : ℕ) (l : List ℕ) → Mem x l → (s : List ℕ) × (t : List ℕ) × (l ≡ s ++ x ∷ t)
mem_split x [] m = absurd m
mem_split x (y ∷ l) (inl e) = ([], l, ap (λ (z : ℕ). z ∷ l) (sym e))
mem_split x (y ∷ l) (inr m) = let r = mem_split x l m in (y ∷ r.0, r.1, ap (λ (k : List ℕ). y ∷ k) r.2)

pub mem_reverse : (x : ℕ) (l : List ℕ) → Mem x (reverse l) → Mem x l
mem_reverse x [] m = m
mem_reverse x (y ∷ l) m = go (mem_reverse x l) (mem_cases x (reverse l) (y ∷ []) (rw reverse-cons at m))
  where
    go : (Mem x (reverse l) → Mem x l) → Mem x (reverse l) ⊎ Mem x (y ∷ []) → Mem x (y ∷ l)
    go f (inl h) = inr (f h)
    go f (inr (inl e)) = inl e
    go f (inr (inr h)) = absurd h

pub distinct_left : (s t : List ℕ) → Distinct (s ++ t) → Distinct s
distinct_left [] t d = tt
distinct_left (x ∷ s) t d = (λ m. d.0 (mem_left x s t m), distinct_left s t d.1)

pub distinct_right : (s t : List ℕ) → Distinct (s ++ t) → Distinct t
distinct_right [] t d = d
distinct_right (x ∷ s) t d = distinct_right s t d.1

pub distinct_apart : (s t : List ℕ) → Distinct (s ++ t) → Disjoint s t
distinct_apart [] t d x m h = m
distinct_apart (y ∷ s) t d x (inl e) h = d.0 (mem_right y s t (subst (λ (z : ℕ). Mem z t) e h))
distinct_apart (y ∷ s) t d x (inr m) h = distinct_apart s t d.1 x m h

pub distinct_join : (s t : List ℕ) → Distinct s → Distinct t → Disjoint s t → Distinct (s ++ t)
distinct_join [] t ds dt h = dt
distinct_join (x ∷ s) t ds dt h = (λ m. go (mem_cases x s t m), distinct_join s t ds.1 dt (λ y m k. h y (inr m) k))
  where
    go : Mem x s ⊎ Mem x t → ⊥
    go (inl m) = ds.0 m
    go (inr m) = h x (inl refl) m

pub distinct_swap : (s t : List ℕ) → Distinct (s ++ t) → Distinct (t ++ s)
distinct_swap s t d = distinct_join t s (distinct_right s t d) (distinct_left s t d)
    (λ x m h. distinct_apart s t d x h m)

pub distinct_reverse : (l : List ℕ) → Distinct l → Distinct (reverse l)
distinct_reverse [] d = tt
distinct_reverse (x ∷ l) d = rw reverse-cons
    (distinct_join (reverse l) (x ∷ []) (distinct_reverse l d.1) (λ m. m, tt) apart)
  where
    apart : Disjoint (reverse l) (x ∷ [])
    apart y m (inl e) = d.0 (subst (λ (z : ℕ). Mem z l) e (mem_reverse y l m))
    apart y m (inr h) = h
