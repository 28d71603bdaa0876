-- The seat that is picked is the next that waits.
use Rattle.std.specs.Prelude.{◌≡◌, Bool, true, false, ◌⊎◌, ℕ, zero, suc, ◌+◌, ◌-◌, ◌%◌, ◌≤◌, ◌<◌}
use Rattle.std.proofs.Math.Path.{refl}
use Rattle.std.proofs.Common.{sym, ◌∙◌, inl, inr, arith}
use Rattle.std.proofs.Math.Bool.{cond}
use Rattle.std.proofs.Math.Decide.{dec_lt}
use borrow.Author.Tests.{lt-ltb}
use Rattle.base_lists.specs.Folds.{least}
use Rattle.base_lists.specs.LeastLaws.{least-is, least_le}
use Rattle.base_lists.specs.Tests.{either, not_both}
use Rattle.spec_channel.specs.Turns.{seat_after, distance, picked, Next}

-- ---- the first number below n that passes

-- one number more that does not
pub one_more : (p : ℕ → Bool) (d : ℕ) → ((j : ℕ) → j < d → p j ≡ false) → p d ≡ false → (j : ℕ) → j < d + 1 →
    p j ≡ false
one_more p d h e j l = go (dec_lt j d)
  where
    go : Dec (j < d) → p j ≡ false
    go (yes k) = h j k
    go (no k) = let q : j ≡ d = omega arith in rw q e

-- d passes, and none before it
abbrev First : (ℕ → Bool) → ℕ → ℕ → Type 0
First p n d = (d < n) × (p d ≡ true) × ((j : ℕ) → j < d → p j ≡ false)

first_below : (n : ℕ) (p : ℕ → Bool) → ((d : ℕ) × First p n d) ⊎ ((j : ℕ) → j < n → p j ≡ false)
first_below zero p = inr (λ j l. absurd (omega arith))
first_below (suc n) p = go (first_below n p) (either (p n))
  where
    go : ((d : ℕ) × First p n d) ⊎ ((j : ℕ) → j < n → p j ≡ false) → (p n ≡ true) ⊎ (p n ≡ false)
        → ((d : ℕ) × First p (suc n) d) ⊎ ((j : ℕ) → j < suc n → p j ≡ false)
    go (inl (d, (l, t, h))) e = inl (d, (omega arith, t, h))
    go (inr h) (inl e) = inl (n, (omega arith, e, h))
    go (inr h) (inr e) = inr (λ j l. one_more p n h e j (omega arith))

least_first : (n : ℕ) (p : ℕ → Bool) (d : ℕ) → First p n d → least n (λ (j : ℕ). cond (p j) j n) n ≡ d
least_first n p d (h, t, none) = go (least-is n (λ (j : ℕ). cond (p j) j n) n)
  where
    low : least n (λ (j : ℕ). cond (p j) j n) n ≤ d
    low = let q : least n (λ (j : ℕ). cond (p j) j n) n ≤ cond (p d) d n =
        least_le n (λ (j : ℕ). cond (p j) j n) n d h in rw t at q

    go : (least n (λ (j : ℕ). cond (p j) j n) n ≡ n)
        ⊎ ((i : ℕ) × (i < n) × (least n (λ (j : ℕ). cond (p j) j n) n ≡ cond (p i) i n))
        → least n (λ (j : ℕ). cond (p j) j n) n ≡ d
    go (inl e) = absurd (omega (arith, low))
    go (inr (i, k, e)) = by (either (p i))
      where
        same : least n (λ (j : ℕ). cond (p j) j n) n ≡ i → p i ≡ true → Dec (i < d) →
            least n (λ (j : ℕ). cond (p j) j n) n ≡ d
        same r q (yes l) = absurd (not_both (p i) q (none i l))
        same r q (no l) = omega (arith, low)

        by : (p i ≡ true) ⊎ (p i ≡ false) → least n (λ (j : ℕ). cond (p j) j n) n ≡ d
        by (inl q) = same (rw q at e) q (dec_lt i d)
        by (inr q) = let r : least n (λ (j : ℕ). cond (p j) j n) n ≡ n = rw q at e in absurd (omega (arith, low))

least-none : (n : ℕ) (p : ℕ → Bool) → ((j : ℕ) → j < n → p j ≡ false) → least n (λ (j : ℕ). cond (p j) j n) n ≡ n
least-none n p none = go (least-is n (λ (j : ℕ). cond (p j) j n) n)
  where
    go : (least n (λ (j : ℕ). cond (p j) j n) n ≡ n)
        ⊎ ((i : ℕ) × (i < n) × (least n (λ (j : ℕ). cond (p j) j n) n ≡ cond (p i) i n))
        → least n (λ (j : ℕ). cond (p j) j n) n ≡ n
    go (inl e) = e
    go (inr (i, k, e)) = e ∙ rw (none i k) refl

-- ---- the seat picked

module _ (last : ℕ) (waits : ℕ → Bool) where
  pub picked-found : (d : ℕ) → d < 8 → waits (seat_after last d) ≡ true →
      ((j : ℕ) → j < d → waits (seat_after last j) ≡ false)
      → seat_after last d ≡ picked last waits
  unfolding picked distance
  picked-found d h t none =
      let e : least 8 (λ (j : ℕ). cond (waits (seat_after last j)) j 8) 8 ≡ d =
      least_first 8 (λ (j : ℕ). waits (seat_after last j)) d (h, t, none) in
      rw (e, lt-ltb d 8 h) refl

  pub picked_none : ((j : ℕ) → j < 8 → waits (seat_after last j) ≡ false) → 8 ≡ picked last waits
  unfolding picked distance
  picked_none none =
      let e : least 8 (λ (j : ℕ). cond (waits (seat_after last j)) j 8) 8 ≡ 8 =
      least-none 8 (λ (j : ℕ). waits (seat_after last j)) none in
      rw e refl

  -- every seat is looked at
  all-seats : (i : ℕ) → i < 8 → ((i + 7 - last % 8) % 8 < 8) × (seat_after last ((i + 7 - last % 8) % 8) ≡ i)
  all-seats i h = (omega arith, omega arith)

  -- it is the next that waits, or none does
  pub picked-either : Next last waits (picked last waits)
      ⊎ ((picked last waits ≡ 8) × ((i : ℕ) → i < 8 → waits i ≡ false))
  picked-either = go (first_below 8 (λ (j : ℕ). waits (seat_after last j)))
    where
      go : ((d : ℕ) × First (λ (j : ℕ). waits (seat_after last j)) 8 d)
          ⊎ ((j : ℕ) → j < 8 → waits (seat_after last j) ≡ false)
          → Next last waits (picked last waits) ⊎ ((picked last waits ≡ 8) × ((i : ℕ) → i < 8 → waits i ≡ false))
      go (inl (d, (l, t, none))) =
          let q : seat_after last d ≡ picked last waits = picked-found d l t none in
          inl (record { far = d; near = l; place = sym q; due = rw (sym q) t; none = none })
      go (inr none) = inr (
        sym (picked_none none),
        λ i h. let (l, q) = all-seats i h in rw q at (none ((i + 7 - last % 8) % 8) l),
      )

  pub picked_next : (i : ℕ) → i < 8 → waits i ≡ true → Next last waits (picked last waits)
  picked_next i h e = go picked-either
    where
      go : Next last waits (picked last waits) ⊎ ((picked last waits ≡ 8) × ((j : ℕ) → j < 8 → waits j ≡ false)) →
          Next last waits (picked last waits)
      go (inl n) = n
      go (inr none) = absurd (not_both (waits i) e (none.1 i h))

-- the same flags give the same seat
pub picked_same : (last : ℕ) (p q : ℕ → Bool) → ((i : ℕ) → i < 8 → p i ≡ q i) → picked last p ≡ picked last q
picked_same last p q h = go (first_below 8 (λ (j : ℕ). p (seat_after last j)))
  where
    at : (j : ℕ) (b : Bool) → p (seat_after last j) ≡ b → q (seat_after last j) ≡ b
    at j b e = sym (h (seat_after last j) (omega arith)) ∙ e

    go : ((d : ℕ) × First (λ (j : ℕ). p (seat_after last j)) 8 d) ⊎ ((j : ℕ) → j < 8 → p (seat_after last j) ≡ false) →
        picked last p ≡ picked last q
    go (inl (d, (l, t, none))) =
        sym (picked-found last p d l t none) ∙ picked-found last q d l (at d true t) (λ j k. at j false (none j k))
    go (inr none) = sym (picked_none last p none) ∙ picked_none last q (λ j k. at j false (none j k))
