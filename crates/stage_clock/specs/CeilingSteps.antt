-- Laws of the ceilings by which the clock's code goes.
use Rattle.std.specs.Prelude.{◌≡◌, refl, ◌⊎◌, ℕ, suc, ◌+◌, ◌-◌, ◌≤◌, ◌<◌, max, drop}
use Rattle.std.proofs.Common.{inl, inr, arith, drop_of_length-le, drop-cons}
use Rattle.std.proofs.Math.Decide.{dec_le, ℕ_discrete}
use Rattle.spec_rules.specs.Ceilings.{ranking_ceiling, ceilings, ceiling, total}

-- the two rankings
pub ceiling-ranking : (n stage : ℕ) → (stage ≡ 4) ⊎ (stage ≡ 6) → ceiling n stage ≡ ranking_ceiling n
ceiling-ranking n stage (inl e) = rw e refl
ceiling-ranking n stage (inr e) = rw e refl

-- the stages left have two rounds: 3, 5 and 10
low-left : (k : ℕ) → 1 ≤ k → k ≤ 6 → (k ≡ 1 → ⊥) → (k ≡ 2 → ⊥) → (k ≡ 4 → ⊥) → (k ≡ 6 → ⊥) → Dec (k ≡ 3) →
    (k ≡ 3) ⊎ (k ≡ 5)
low-left k f t not1 not2 not4 not6 (yes e) = inl e
low-left k f t not1 not2 not4 not6 (no h) = inr (omega arith)

high-left : (k : ℕ) → 6 < k → k ≤ 10 → (k ≡ 7 → ⊥) → (k ≡ 8 → ⊥) → (k ≡ 9 → ⊥) → k ≡ 10
high-left k f t not7 not8 not9 = omega arith

pub ceiling-two : (n k : ℕ) → 1 ≤ k → k ≤ 10
    → (k ≡ 1 → ⊥) → (k ≡ 2 → ⊥) → ((k ≡ 4) ⊎ (k ≡ 6) → ⊥) → (k ≡ 7 → ⊥) → (k ≡ 8 → ⊥) → (k ≡ 9 → ⊥) → ceiling n k ≡ 2
ceiling-two n k f t not1 not2 not46 not7 not8 not9 = go (dec_le k 6)
  where
    low : (k ≡ 3) ⊎ (k ≡ 5) → ceiling n k ≡ 2
    low (inl e) = rw e refl
    low (inr e) = rw e refl

    go : Dec (k ≤ 6) → ceiling n k ≡ 2
    go (yes l) = low (low-left k f l not1 not2 (λ (e : k ≡ 4). not46 (inl e)) (λ (e : k ≡ 6). not46 (inr e))
        (ℕ_discrete k 3))
    go (no h) = rw (high-left k (gt h) t not7 not8 not9) refl
      where
        gt : (k ≤ 6 → ⊥) → 6 < k
        gt h = omega arith

-- past the tenth there is none
pub ceiling-past : (n k : ℕ) → 10 < k → ceiling n k ≡ 0
ceiling-past n k h =
    let e : k - 1 ≡ suc (suc (suc (suc (suc (suc (suc (suc (suc (suc (k - 11)))))))))) = omega arith in
    rw e refl

-- the ceilings from stage k on
abbrev pub left : ℕ → ℕ → ℕ
left n k = total (drop (k - 1) (ceilings n))

pub left-stage : (n k : ℕ) → 1 ≤ k → k ≤ 10 → left n k ≡ ceiling n k + left n (k + 1)
left-stage n k h l =
    let e : k + 1 - 1 ≡ suc (k - 1) = omega arith in
    rw (e, drop-cons (ceilings n) (k - 1) 0 (omega arith)) refl

pub left_end : (n k : ℕ) → 10 < k → left n k ≡ 0
left_end n k h = rw (drop_of_length-le (ceilings n) {i = k - 1} (omega arith)) refl

-- the stages are counted from the first
pub left-from : (n k : ℕ) → left n (max k 1) ≡ left n k
left-from n k =
    let e : max k 1 - 1 ≡ k - 1 = omega arith in
    rw e refl
