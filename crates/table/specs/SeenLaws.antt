-- The search by marks finds a unit without a link exactly where there is one, for marks that start blank.
use Rattle.std.specs.Prelude.{◌≡◌, refl, Bool, true, false, not, ◌&&◌, ◌||◌, List, [], ◌∷◌, ℕ, zero, suc, ◌+◌, ◌≤◌, ◌<◌}
use Rattle.std.specs.Prelude.{eqb, length, get_or, set, drop, replicate}
use Rattle.std.proofs.Common.{◌∙◌, add-one, arith, length-drop, length-set, get_or-set_same, get_or-set_other, eq-eqb}
use Rattle.std.proofs.Common.{ne_eqb, le-leb}
use Rattle.std.proofs.Math.Decide.{ℕ_discrete}
use Rattle.std.proofs.lemmas.List.{length-replicate}
use Rattle.std.proofs.lemmas.Bool.{lt-leb}
use Rattle.base_lists.specs.Rests.{rest-two}
use Rattle.table.specs.Table.{is_end, unlinked_below, unlinked_unit}
use Rattle.table.specs.Seen.{ends_seen, some_blank}

-- ---- the marks from a place on

pub seen_next : (m t : List ℕ) (i : ℕ) → i + 1 < length t
    → ends_seen m (drop i t) ≡ ends_seen (set (set m (get_or t i 0) 1) (get_or t (i + 1) 0) 1) (drop (i + 2) t)
unfolding ends_seen
seen_next m t i h = rw (rest-two t i 0 h)

seen-short : (m t : List ℕ) → length t ≤ 1 → ends_seen m t ≡ m
unfolding ends_seen
seen-short m [] h = refl
seen-short m (a ∷ []) h = refl
seen-short m (a ∷ b ∷ t) h = absurd (omega arith)

pub seen_end : (m t : List ℕ) (i : ℕ) → length t ≤ i + 1 → ends_seen m (drop i t) ≡ m
seen_end m t i h = seen-short m (drop i t) (omega (arith, length-drop i t))

-- one mark more is looked at
pub blank-next : (k : ℕ) (m : List ℕ) → some_blank (k + 1) m ≡ (some_blank k m || eqb (get_or m k 0) 0)
unfolding some_blank
blank-next k m = rw (add-one k) refl

-- ---- what the marks say

and_never : (b : Bool) → false ≡ (b && false)
and_never true = refl
and_never false = refl

and_always : (b : Bool) → b ≡ (b && true)
and_always true = refl
and_always false = refl

-- a mark set: it is blank that was blank, and is not the one set
blank-set : (m : List ℕ) (a v : ℕ) → v < length m → eqb (get_or (set m a 1) v 0) 0
    ≡ (eqb (get_or m v 0) 0 && not (eqb v a))
blank-set m a v l = go (ℕ_discrete v a)
  where
    go : Dec (v ≡ a) → eqb (get_or (set m a 1) v 0) 0 ≡ (eqb (get_or m v 0) 0 && not (eqb v a))
    go (yes e) = rw (eq-eqb v a e, e, get_or-set_same m a 1 0 (omega (arith, e))) (and_never (eqb (get_or m a 0) 0))
    go (no n) = rw (ne_eqb v a n, get_or-set_other m a v 1 0 n) (and_always (eqb (get_or m v 0) 0))

none_of : (x p q r : Bool) → (((x && not p) && not q) && not r) ≡ (x && not (p || (q || r)))
none_of false p q r = refl
none_of true true q r = refl
none_of true false true r = refl
none_of true false false r = refl

-- after all links a mark is blank that was blank before, and where no link ends
blank-seen : (t m : List ℕ) (v : ℕ) → v < length m →
    eqb (get_or (ends_seen m t) v 0) 0 ≡ (eqb (get_or m v 0) 0 && not (is_end v t))
unfolding ends_seen is_end
blank-seen [] m v l = and_always (eqb (get_or m v 0) 0)
blank-seen (a ∷ []) m v l = and_always (eqb (get_or m v 0) 0)
blank-seen (a ∷ b ∷ t) m v l =
    let one : length (set m a 1) ≡ length m = length-set m a 1 in
    let two : length (set (set m a 1) b 1) ≡ length (set m a 1) = length-set (set m a 1) b 1 in
    blank-seen t (set (set m a 1) b 1) v (omega arith)
    ∙ rw (blank-set (set m a 1) b v (omega arith), blank-set m a v l)
    (none_of (eqb (get_or m v 0) 0) (eqb v a) (eqb v b) (is_end v t))

blank-below : (k : ℕ) (t m : List ℕ) → k ≤ length m → ((i : ℕ) → get_or m i 0 ≡ 0) →
    some_blank k (ends_seen m t) ≡ unlinked_below k t
unfolding some_blank unlinked_below
blank-below zero t m l z = refl
blank-below (suc k) t m l z = rw (blank-below k t m (omega arith) z, blank-seen t m k (omega arith), z k) refl

get_d_blank : (n i : ℕ) → ◌≡◌ {A = ℕ} (get_or (replicate n 0) i 0) 0
get_d_blank zero i = refl
get_d_blank (suc n) zero = refl
get_d_blank (suc n) (suc i) = get_d_blank n i

-- ---- the search

-- from blank marks it finds exactly a unit without a link
pub blank_unlinked : (n size : ℕ) (t : List ℕ) → n ≤ size → 2 ≤ n →
    some_blank n (ends_seen (replicate size 0) t) ≡ unlinked_unit n t
blank_unlinked n size t l h =
    blank-below n t (replicate size 0) (omega (arith, length-replicate {A = ℕ} size 0)) (get_d_blank size)
    ∙ rw (le-leb 2 n h) refl

-- a single unit passes
pub alone-linked : (n : ℕ) (t : List ℕ) → n < 2 → false ≡ unlinked_unit n t
alone-linked n t h = rw (lt-leb 2 n h) refl
