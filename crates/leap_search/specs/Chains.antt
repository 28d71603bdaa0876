-- Chains of places that fall.
use Rattle.std.specs.Prelude.{◌≡◌, refl, List, ℕ, zero, suc, ◌+◌, ◌*◌, ◌≤◌, ◌<◌, length, get_or, set, replicate}
use Rattle.std.proofs.Math.Decide.{ℕ_discrete, dec_lt}
use Rattle.std.proofs.Common.{arith, length-set, get_or-set_same, get_or-set_other}
use Rattle.std.proofs.Math.Seq.{set_out}

-- chains among k places begin there and fall, 0 for none
abbrev pub Chained : ℕ → List ℕ → List ℕ → Type 0
Chained k first next = ((u : ℕ) → get_or first u 0 ≤ k) × ((i : ℕ) → i < k → get_or next i 0 ≤ i)

pub chains_none : (first next : List ℕ) → ((u : ℕ) → get_or first u 0 ≡ 0) → Chained 0 first next
chains_none first next none = (λ u. rw (none u) (omega arith), λ i h. absurd (omega arith))

-- one place more
pub chains_more : (k u : ℕ) (first next first' next' : List ℕ) → Chained k first next → k < length next →
    first' ≡ set first u (k + 1)
    → next' ≡ set next k (get_or first u 0) → Chained (k + 1) first' next'
chains_more k u first next first' next' c room is is' =
    (λ w. rw is (begins w (ℕ_discrete w u) (dec_lt u (length first))), λ i h. rw is' (falls i h (ℕ_discrete i k)))
  where
    begins : (w : ℕ) → Dec (w ≡ u) → Dec (u < length first) → get_or (set first u (k + 1)) w 0 ≤ k + 1
    begins w (yes e) (yes l) = rw (e, get_or-set_same first u (k + 1) 0 l) (omega arith)
    begins w (yes e) (no l) = rw (set_out first u (k + 1) (omega arith)) (omega (arith, c.0 w))
    begins w (no e) l = rw (get_or-set_other first u w (k + 1) 0 e) (omega (arith, c.0 w))

    falls : (i : ℕ) → i < k + 1 → Dec (i ≡ k) → get_or (set next k (get_or first u 0)) i 0 ≤ i
    falls i h (yes e) = rw (e, get_or-set_same next k (get_or first u 0) 0 room) (c.0 u)
    falls i h (no e) = rw (get_or-set_other next k i (get_or first u 0) 0 e) (c.1 i (omega arith))

-- the two places of a pair
pub chains_pair : (j a b : ℕ) (first next first' next' first'' next'' : List ℕ) → Chained (2 * j) first next →
    2 * j + 2 ≤ length next
    → first' ≡ set first b (2 * j + 1) → next' ≡ set next (2 * j) (get_or first b 0)
    → first'' ≡ set first' a (2 * j + 1 + 1) → next'' ≡ set next' (2 * j + 1) (get_or first' a 0) →
    Chained (2 * (j + 1)) first'' next''
chains_pair j a b first next first' next' first'' next'' c room f n f' n' =
    let more : 2 * (j + 1) ≡ 2 * j + 1 + 1 = omega arith in
    let long : length next' ≡ length next = rw n (length-set next (2 * j) (get_or first b 0)) in
    rw more
    (chains_more (2 * j + 1) a first' next' first'' next''
    (chains_more (2 * j) b first next first' next' c (omega (arith, room)) f n) (omega (arith, room, long)) f' n')

-- cleared memory
pub zeros-at : (k u : ℕ) → ◌≡◌ {A = ℕ} (get_or (replicate k 0) u 0) 0
zeros-at zero u = refl
zeros-at (suc k) zero = refl
zeros-at (suc k) (suc u) = zeros-at k u
