-- The ring through two links at the front of a slice of any length.
use Rattle.std.specs.Prelude.{◌≡◌, refl, Bool, true, false, not, ◌⊎◌, List, [], ◌∷◌, ◌++◌, ℕ, zero, suc, ◌≤◌, ◌<◌}
use Rattle.std.specs.Prelude.{length, get_or, take, drop, eqb}
use Rattle.std.proofs.Common.{sym, ap, subst, ◌∙◌, inl, inr, arith, length-take, take_at, eq-eqb, ne_eqb}
use Rattle.std.proofs.lemmas.Bool.{false≢true}
use Rattle.base_lists.specs.Tables.{over}
use Rattle.theory_reach.specs.Site.{Site}
use Rattle.theory_ears.specs.Closing.{shows-short}
use Rattle.theory_ears.specs.Found.{RingTold}
use Rattle.theory_ears.specs.Present.{Ringed, Shows}

-- T-04 on the tables of any site and a slice with a place for each unit: r is 0 and no ring holds both links, or the
-- first r words are such a ring that starts with the ends of link i
abbrev pub RingFront : (ℕ → Bool) → ℕ → ℕ → List ℕ → ℕ → ℕ → List ℕ → List ℕ → ℕ → Type 0
RingFront ok n m ends i j out new r =
    Site n m ends → i < m → j < m → n ≤ length out
    → ((r ≡ 0) × (Ringed ok m ends i j → ⊥)) ⊎ (Shows ok m ends i j (take r new) × (r ≡ length (take r new)))

-- the front of a table over a slice
front-over : (r : ℕ) (t out : List ℕ) → r ≤ length t → r ≤ length out →
    over r (λ (i : ℕ). get_or t i 0) out ≡ take r t ++ drop r out
front-over zero t out h g = refl
front-over (suc r) [] out h g = absurd (omega arith)
front-over (suc r) (x ∷ t) [] h g = absurd (omega arith)
front-over (suc r) (x ∷ t) (y ∷ out) h g = ap (λ (l : List ℕ). x ∷ l) (front-over r t out (omega arith) (omega arith))

-- words past them stay, whatever the table is
pub over-past : (r : ℕ) (t out new : List ℕ) → new ≡ over r (λ (k : ℕ). get_or t k 0) out → drop r new ≡ drop r out
over-past r t out new e = ap (λ (l : List ℕ). drop r l) e ∙ go r (λ (k : ℕ). get_or t k 0) out
  where
    go : (r : ℕ) (f : ℕ → ℕ) (out : List ℕ) → drop r (over r f out) ≡ drop r out
    go zero f out = refl
    go (suc r) f [] = refl
    go (suc r) f (x ∷ out) = go r (λ (k : ℕ). f (suc k)) out

-- what was found, laid at the front
pub ring-front : (ok : ℕ → Bool) (n m : ℕ) (ends : List ℕ) (i j : ℕ) (blank found : List ℕ) (r : ℕ) →
    length blank ≡ 256 → RingTold ok n m ends i j blank found r
    → (out new : List ℕ) → new ≡ over r (λ (k : ℕ). get_or found k 0) out → RingFront ok n m ends i j out new r
ring-front ok n m ends i j blank found r long T out new e site hi hj room = go (T site hi hj long)
  where
    go : ((r ≡ 0) × (Ringed ok m ends i j → ⊥)) ⊎ (Shows ok m ends i j (take r found) × (r ≡ length (take r found)))
        → ((r ≡ 0) × (Ringed ok m ends i j → ⊥)) ⊎ (Shows ok m ends i j (take r new) × (r ≡ length (take r new)))
    go (inl none) = inl none
    go (inr (S, q)) =
        let short : length (take r found) ≤ n = shows-short site S in
        let laid : new ≡ take r found ++ drop r out =
        e ∙ front-over r found out (omega (arith, q, length-take r found)) (omega (arith, q, short, room)) in
        let same : take r new ≡ take r found =
        ap (λ (l : List ℕ). take r l) laid ∙ take_at (take r found) (drop r out) r (sym q) in
        inr (subst (Shows ok m ends i j) (sym same) S, q ∙ ap length (sym same))

-- ---- whether there is one

-- on the tables of any site: told exactly where a ring of the links that count holds both
abbrev pub RingedTold : ℕ → ℕ → List ℕ → ℕ → ℕ → (ℕ → Bool) → Bool → Type 0
RingedTold n m ends i j ok told =
    Site n m ends → i < m → j < m → (told ≡ true → Ringed ok m ends i j) × (told ≡ false → Ringed ok m ends i j → ⊥)

-- by the number of its units
pub ringed_told : (n m : ℕ) (ends : List ℕ) (i j : ℕ) (ok : ℕ → Bool) (blank found : List ℕ) (r : ℕ) →
    length blank ≡ 256 → RingTold ok n m ends i j blank found r → RingedTold n m ends i j ok (not (eqb r 0))
ringed_told n m ends i j ok blank found r long T site hi hj = go (T site hi hj long)
  where
    go : ((r ≡ 0) × (Ringed ok m ends i j → ⊥)) ⊎ (Shows ok m ends i j (take r found) × (r ≡ length (take r found)))
        → (not (eqb r 0) ≡ true → Ringed ok m ends i j) × (not (eqb r 0) ≡ false → Ringed ok m ends i j → ⊥)
    go (inl (z, h)) = (λ k. absurd (false≢true (rw (eq-eqb r 0 z) at k)), λ q. h)
    go (inr (S, q)) = (
      λ k. (take r found, S.ring, S.first, S.second),
      λ k. absurd (false≢true (sym (rw (ne_eqb r 0 (λ z. omega (arith, S.ring.three))) at k))),
    )
