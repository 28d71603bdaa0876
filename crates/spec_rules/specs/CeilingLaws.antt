-- Laws of the ceilings and the countdown: it falls with each round, is zero only past stage 10, and is at most 804.
use Rattle.std.specs.Prelude.{◌≡◌, List, ℕ, zero, suc, ◌+◌, ◌*◌, ◌-◌, ◌≤◌, ◌<◌, max, length, get_or, drop}
use Rattle.std.proofs.Common.{arith, drop-cons}
use Rattle.base_log2.specs.Lg.{lg}
use Rattle.base_log2.specs.LgLaws.{lg-least}
use Rattle.spec_rules.specs.Ceilings.{ranking_ceiling, ceilings, ceiling, total, countdown}

-- ---- each ceiling, 1 to 10

-- a property of the ten ceilings holds of each
each : (P : ℕ → Type 0) (n : ℕ) → P (max 2 n) → P (n + 1) → P 2 → P (ranking_ceiling n) → P (1 + lg n) → P 1 →
    P (max 2 (n - 1))
    → (i : ℕ) → i < 10 → P (get_or (ceilings n) i 0)
each P n a b c d e f g zero l = a
each P n a b c d e f g (suc zero) l = b
each P n a b c d e f g (suc (suc zero)) l = c
each P n a b c d e f g (suc (suc (suc zero))) l = d
each P n a b c d e f g (suc (suc (suc (suc zero)))) l = c
each P n a b c d e f g (suc (suc (suc (suc (suc zero))))) l = d
each P n a b c d e f g (suc (suc (suc (suc (suc (suc zero)))))) l = e
each P n a b c d e f g (suc (suc (suc (suc (suc (suc (suc zero))))))) l = f
each P n a b c d e f g (suc (suc (suc (suc (suc (suc (suc (suc zero)))))))) l = g
each P n a b c d e f g (suc (suc (suc (suc (suc (suc (suc (suc (suc zero))))))))) l = c
each P n a b c d e f g (suc (suc (suc (suc (suc (suc (suc (suc (suc (suc i)))))))))) l = absurd (omega arith)

-- every stage has a round
pub ceiling-positive : (n stage : ℕ) → 1 ≤ stage → stage ≤ 10 → 1 ≤ ceiling n stage
ceiling-positive n stage h l =
    each (λ (c : ℕ). 1 ≤ c) n (omega arith) (omega arith) (omega arith) (omega arith) (omega arith) (omega arith)
    (omega arith) (stage - 1)
    (omega arith)

-- and at most 257, for a site of at most 256 units
pub ceiling-small : (n stage : ℕ) → n ≤ 256 → 1 ≤ stage → stage ≤ 10 → ceiling n stage ≤ 257
ceiling-small n stage small h l =
    each (λ (c : ℕ). c ≤ 257) n (omega arith) (omega arith) (omega arith)
    (omega (arith, lg-least (2 * n - 2) 9 (omega arith)))
    (omega (arith, lg-least n 8 small)) (omega arith) (omega arith) (stage - 1) (omega arith)

-- ---- the countdown

total-drop : (cs : List ℕ) (i : ℕ) → i < length cs → total (drop i cs) ≡ get_or cs i 0 + total (drop (suc i) cs)
total-drop cs i l = rw (drop-cons cs i 0 l)

-- the later ceilings, from this stage's on
at_stage : (n stage : ℕ) → 1 ≤ stage → stage ≤ 10
    → total (drop (stage - 1) (ceilings n)) ≡ ceiling n stage + total (drop (stage + 1 - 1) (ceilings n))
at_stage n stage h l =
    let e : stage + 1 - 1 ≡ suc (stage - 1) = omega arith in
    rw e (total-drop (ceilings n) (stage - 1) (omega arith))

-- a round within the stage takes one off
pub countdown-round : (n stage made : ℕ) → 1 ≤ stage → stage ≤ 10 → made < ceiling n stage
    → countdown n stage (made + 1) < countdown n stage made
unfolding countdown
countdown-round n stage made h l m = omega (arith, at_stage n stage h l)

-- a stage's last round takes off what is left of its ceiling
pub countdown-stage : (n stage made : ℕ) → 1 ≤ stage → stage ≤ 10 → made < ceiling n stage
    → countdown n (stage + 1) 0 < countdown n stage made
unfolding countdown
countdown-stage n stage made h l m = omega (arith, at_stage n stage h l)

pub countdown-positive : (n stage made : ℕ) → 1 ≤ stage → stage ≤ 10 → made < ceiling n stage →
    0 < countdown n stage made
unfolding countdown
countdown-positive n stage made h l m = omega (arith, at_stage n stage h l)

pub countdown-finished : (n made : ℕ) → countdown n 11 made ≡ 0
unfolding countdown
countdown-finished n made = omega arith

-- ---- the first countdown

-- the ceilings of at most 256 units add up to at most 804
pub total-small : (n : ℕ) → n ≤ 256 → total (ceilings n) ≤ 804
total-small n h = omega (arith, lg-least (2 * n - 2) 9 (omega arith), lg-least n 8 h)
