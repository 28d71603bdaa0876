-- Laws on lists for the ring (T-04): places laid down over a list, and the units that a list adds to a count.
use Rattle.std.specs.Prelude.{◌≡◌, refl, Bool, true, false, ◌||◌, ◌⊎◌, ◌≢◌, ℕ, zero, suc, ◌+◌, ◌-◌, ◌≤◌, ◌<◌, eqb}
use Rattle.std.specs.Prelude.{length, set}
use Rattle.std.proofs.Common.{sym, ap, subst, ◌∙◌, inl, inr, arith, length-append, length-set, get_or-set_same}
use Rattle.std.proofs.Common.{get_or-set_other, eqb-true, eq-eqb, ne_eqb}
use Rattle.std.proofs.lemmas.Bool.{false≢true}
use mathlib.Core.List.{List, [], ◌∷◌, ◌++◌, reverse, reverse-cons, append_assoc}
use Rattle.base_lists.specs.Members.{Mem, Distinct, mem_right}
use Rattle.base_lists.specs.Folds.{count}
use Rattle.base_lists.specs.Counts.{count_next, count-apart}
use Rattle.base_lists.specs.Tests.{or_cases}
use Rattle.spec_rules.specs.Basics.{at}
use Rattle.theory_ears.specs.Steps.{up_from, down_from}

-- ---- lists

pub length-reverse : (l : List ℕ) → length (reverse l) ≡ length l
length-reverse [] = refl
length-reverse (x ∷ l) = ap length (reverse-cons x l)
    ∙ omega (arith, length-append (reverse l) (x ∷ []), length-reverse l)

pub reverse-split : (s : List ℕ) (z : ℕ) (t : List ℕ) → reverse (s ++ z ∷ t) ≡ reverse t ++ z ∷ reverse s
reverse-split [] z t = reverse-cons z t
reverse-split (x ∷ s) z t =
    reverse-cons x (s ++ z ∷ t) ∙ ap (λ (q : List ℕ). q ++ x ∷ []) (reverse-split s z t)
    ∙ append_assoc (reverse t) (z ∷ reverse s) (x ∷ [])
    ∙ ap (λ (q : List ℕ). reverse t ++ z ∷ q) (sym (reverse-cons x s))

tail_of : List ℕ → List ℕ
tail_of [] = []
tail_of (x ∷ l) = l

head_of : List ℕ → ℕ
head_of [] = 0
head_of (x ∷ l) = x

-- an element stands at one place of a list without repeats
pub one_place : (s : List ℕ) (z : ℕ) (t p r : List ℕ) → Distinct (s ++ z ∷ t) → s ++ z ∷ t ≡ p ++ z ∷ r →
    length s ≡ length p
unfolding tail_of head_of
one_place [] z t [] r d e = refl
one_place [] z t (y ∷ p) r d e = absurd (d.0
    (subst (λ (q : List ℕ). Mem z q) (sym (ap tail_of e)) (mem_right z p (z ∷ r) (inl refl))))
one_place (x ∷ s) z t [] r d e = absurd (d.0
    (subst (λ (q : ℕ). Mem q (s ++ z ∷ t)) (sym (ap head_of e)) (mem_right z s (z ∷ t) (inl refl))))
one_place (x ∷ s) z t (y ∷ p) r d e = ap suc (one_place s z t p r d.1 (ap tail_of e))

-- ---- places over a list

pub up-length : (i : ℕ) (l pos : List ℕ) → length (up_from i l pos) ≡ length pos
up-length i [] pos = refl
up-length i (z ∷ l) pos = up-length (suc i) l (set pos z i) ∙ length-set pos z i

pub down-length : (i : ℕ) (l pos : List ℕ) → length (down_from i l pos) ≡ length pos
down-length i [] pos = refl
down-length i (z ∷ l) pos = down-length (i - 1) l (set pos z i) ∙ length-set pos z i

pub up-other : (i : ℕ) (l pos : List ℕ) (z : ℕ) → (Mem z l → ⊥) → at (up_from i l pos) z ≡ at pos z
up-other i [] pos z n = refl
up-other i (y ∷ l) pos z n = up-other (suc i) l (set pos y i) z (λ m. n (inr m))
    ∙ get_or-set_other pos y z i 0 (λ e. n (inl e))

pub down-other : (i : ℕ) (l pos : List ℕ) (z : ℕ) → (Mem z l → ⊥) → at (down_from i l pos) z ≡ at pos z
down-other i [] pos z n = refl
down-other i (y ∷ l) pos z n = down-other (i - 1) l (set pos y i) z (λ m. n (inr m))
    ∙ get_or-set_other pos y z i 0 (λ e. n (inl e))

pub up_at : (i : ℕ) (s : List ℕ) (z : ℕ) (t pos : List ℕ) → Distinct (s ++ z ∷ t) → z < length pos →
    at (up_from i (s ++ z ∷ t) pos) z ≡ i + length s
up_at i [] z t pos d l = up-other (suc i) t (set pos z i) z d.0 ∙ get_or-set_same pos z i 0 l ∙ omega arith
up_at i (y ∷ s) z t pos d l = up_at (suc i) s z t (set pos y i) d.1 (omega (arith, length-set pos y i)) ∙ omega arith

pub down-at : (i : ℕ) (s : List ℕ) (z : ℕ) (t pos : List ℕ) → Distinct (s ++ z ∷ t) → z < length pos →
    at (down_from i (s ++ z ∷ t) pos) z ≡ i - length s
down-at i [] z t pos d l = down-other (i - 1) t (set pos z i) z d.0 ∙ get_or-set_same pos z i 0 l ∙ omega arith
down-at i (y ∷ s) z t pos d l = down-at (i - 1) s z t (set pos y i) d.1 (omega (arith, length-set pos y i))
    ∙ omega arith

-- ---- counts

-- different units that the one test misses and the other has, and all that the one has
pub count_list : (n : ℕ) (l : List ℕ) (p q : ℕ → Bool) → Distinct l →
    ((z : ℕ) → Mem z l → (z < n) × (p z ≡ false) × (q z ≡ true))
    → ((z : ℕ) → p z ≡ true → q z ≡ true) → count n p + length l ≤ count n q
count_list n [] p q d h k = omega (
  arith,
  count-apart n (λ i. false) p q (λ i l e. absurd (false≢true e)) (λ i l e. k i e),
)
count_list n (x ∷ l) p q d h k =
    let x-in = h x (inl refl) in
    let one : count n with_x ≡ suc (count n p) =
    count_next n with_x p x x-in.0 (rw x-in.1 (eq-eqb x x refl)) x-in.1 (λ i b e. same i (p i) e) in
    omega (
      arith,
      one,
      count_list n l with_x q d.1
          (λ z m. (
            (h z (inr m)).0,
            rw (h z (inr m)).1 (ne_eqb z x (λ e. d.0 (subst (λ (w : ℕ). Mem w l) e m))),
            (h z (inr m)).2,
          )) more,
    )
  where
    with_x : ℕ → Bool
    with_x z = p z || eqb z x

    same : (i : ℕ) (b : Bool) → i ≢ x → (b || eqb i x) ≡ b
    same i true e = refl
    same i false e = ne_eqb i x e

    more : (z : ℕ) → with_x z ≡ true → q z ≡ true
    more z t = by (or_cases (p z) (eqb z x) t)
      where
        by : (p z ≡ true) ⊎ (eqb z x ≡ true) → q z ≡ true
        by (inl e) = k z e
        by (inr e) = rw (eqb-true z x e) (h x (inl refl)).2
