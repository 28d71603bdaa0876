-- Stage 7's segments, whose length doubles each round, once for low and high: the choice between two values is min or
-- max, and `le` its order.
use Rattle.std.specs.Prelude.{◌≡◌, true, false, cond, ◌⊎◌, List, ℕ, suc, ◌+◌, ◌-◌, ◌%◌, ◌≤◌, ◌<◌, ◌^◌, length}
use Rattle.std.proofs.Common.{◌∙◌, inl, inr, le_refl, arith}
use Rattle.std.proofs.Math.Decide.{dec_lt}
use Rattle.base_lists.specs.Tests.{either, cond_true, cond_false}
use Rattle.base_lists.specs.Multiples.{Multiple, multiple_one, multiple_up, multiple_down, multiple_step, multiple_zero}
use Rattle.base_lists.specs.Multiples.{multiple_half, multiple_remainder, no_remainder, odd_multiple}
use Rattle.base_log2.specs.Lg.{lg}
use Rattle.base_log2.specs.LgLaws.{lg-reaches}
use Rattle.spec_rules.specs.Basics.{MAX-NUMBER, at, bounded}
use Rattle.base_lists.specs.FoldLaws.{Choice}
use Rattle.spec_rules.specs.Range.{odd, local_of, local_at, moves_little, moves_big, with_little, with_big}
use Rattle.spec_rules.specs.Range.{global_first}
use Rattle.spec_rules.specs.Range.{range_first, little_first, big_first, range_later, little_later, big_later}
use Rattle.spec_rules.specs.Range.{global_later}
use Rattle.spec_rules.specs.RangeEntries.{unit-at, local-at, global-first, range-first, little-first, big-first}
use Rattle.spec_rules.specs.RangeEntries.{even_multiple, odd_remainder, little-rests, big-rests, little-moves}
use Rattle.spec_rules.specs.RangeEntries.{big-moves, little-entry, big-entry, range-entry, little-takes, little-passes}
use Rattle.spec_rules.specs.RangeEntries.{big-takes, big-passes, global_doubles, global-stays, length-global_first}
use Rattle.spec_rules.specs.RangeEntries.{length-range_first, length-little_first, length-big_first}
use Rattle.spec_rules.specs.RangeEntries.{length-global_later, length-range_later, length-little_later}
use Rattle.spec_rules.specs.RangeEntries.{length-big_later}

-- ---- the extreme of the local values over some places

-- x is before every local value over the places of P, and is one of them
abbrev Extreme : (ℕ → ℕ → Type 0) → (ℕ → ℕ) → (ℕ → Type 0) → ℕ → Type 0
Extreme le local P x = ((q : ℕ) → P q → le x (local q)) × ((q : ℕ) × P q × (x ≡ local q))

-- the w places from q on that exist
abbrev Within : ℕ → ℕ → ℕ → ℕ → Type 0
Within n q w p = (q ≤ p) × (p < q + w) × (p < n)

-- the places from first to last outside little .. big
abbrev Taken : ℕ → ℕ → ℕ → ℕ → ℕ → Type 0
Taken first little big last p = ((first ≤ p) × (p < little)) ⊎ ((big ≤ p) × (p ≤ last))

extreme_over : (le : ℕ → ℕ → Type 0) (local : ℕ → ℕ) (P T : ℕ → Type 0) (x : ℕ) → ((q : ℕ) → T q → P q) →
    ((q : ℕ) → P q → T q)
    → Extreme le local P x → Extreme le local T x
extreme_over le local P T x to from e = (
  λ (q : ℕ) (t : T q). e.0 q (to q t),
  (e.1.0, from e.1.0 e.1.1, e.1.2),
)

-- the choice of two extremes is the extreme over both
extreme_join : (op : ℕ → ℕ → ℕ) (le : ℕ → ℕ → Type 0) → Choice op le → (local : ℕ → ℕ) (P Q T : ℕ → Type 0) (x y : ℕ)
    → ((q : ℕ) → T q → P q ⊎ Q q) → ((q : ℕ) → P q → T q) → ((q : ℕ) → Q q → T q)
    → Extreme le local P x → Extreme le local Q y → Extreme le local T (op x y)
extreme_join op le choice local P Q T x y split fromP fromQ e f =
    (λ (q : ℕ) (t : T q). before q (split q t), found (choice.picks x y))
  where
    before : (q : ℕ) → P q ⊎ Q q → le (op x y) (local q)
    before q (inl p) = choice.through (op x y) x (local q) (choice.left x y) (e.0 q p)
    before q (inr p) = choice.through (op x y) y (local q) (choice.right x y) (f.0 q p)

    found : (op x y ≡ x) ⊎ (op x y ≡ y) → (q : ℕ) × T q × (op x y ≡ local q)
    found (inl w) = (e.1.0, fromP e.1.0 e.1.1, w ∙ e.1.2)
    found (inr w) = (f.1.0, fromQ f.1.0 f.1.1, w ∙ f.1.2)

-- ---- the invariant

-- the places of each unit's descendants
pub record Spans (n : ℕ) (first last : ℕ → ℕ) : Type 0 where
  pub few_places : n ≤ MAX-NUMBER
  pub forward : (v : ℕ) → v < n → first v ≤ last v
  pub last_below : (v : ℕ) → v < n → last v < n

-- at the start of round i, from 0: what is left for each unit lies between little and big
pub record SegmentsAt (le : ℕ → ℕ → Type 0) (n : ℕ) (local first last : ℕ →
    ℕ) (global range little big : List ℕ) (i : ℕ) : Type 0 where
  pub many_global : n ≤ length global
  pub many_range : n ≤ length range
  pub many_little : n ≤ length little
  pub many_big : n ≤ length big
  pub segment_of : (q : ℕ) → q < n → Multiple (2 ^ i) q → Extreme le local (Within n q (2 ^ i)) (at global q)
  pub first_little : (v : ℕ) → v < n → first v ≤ at little v
  pub little_big : (v : ℕ) → v < n → at little v ≤ at big v
  pub big_last : (v : ℕ) → v < n → at big v ≤ last v
  pub aligned : (v : ℕ) → v < n → (at little v ≡ at big v)
      ⊎ (Multiple (2 ^ i) (at little v) × Multiple (2 ^ i) (at big v))
  pub range_of : (v : ℕ) → v < n → Extreme le local (Taken (first v) (at little v) (at big v) (last v)) (at range v)

-- after the first round of the stage
start : {op : ℕ → ℕ → ℕ} {le : ℕ → ℕ → Type 0} → Choice op le → {n : ℕ} {first last : ℕ → ℕ} → Spans n first last
    → (local : ℕ → ℕ) (global range little big : List ℕ) → n ≤ length global → n ≤ length range → n ≤ length little →
    n ≤ length big
    → ((q : ℕ) → q < n → at global q ≡ local q) → ((v : ℕ) → v < n → at range v ≡ local (last v))
    → ((v : ℕ) → v < n → at little v ≡ first v) → ((v : ℕ) → v < n → at big v ≡ last v)
    → SegmentsAt le n local first last global range little big 0
start {op} {le} choice {n} {first} {last} spans local global range little big a b c d g r s t = record {
  many_global = a;
  many_range = b;
  many_little = c;
  many_big = d;
  segment_of = segment_of;
  first_little = λ (v : ℕ) (l : v < n). omega (arith, s v l);
  little_big = λ (v : ℕ) (l : v < n). omega (arith, s v l, t v l, spans.forward v l);
  big_last = λ (v : ℕ) (l : v < n). omega (arith, t v l);
  aligned = λ (v : ℕ) (l : v < n). inr (multiple_one (at little v), multiple_one (at big v));
  range_of = range_of;
}
  where
    segment_of : (q : ℕ) → q < n → Multiple (2 ^ 0) q → Extreme le local (Within n q (2 ^ 0)) (at global q)
    segment_of q l w = (
      λ (p : ℕ) (h : Within n q 1 p).
          let e : p ≡ q = omega (arith, h.0, h.1) in
          rw (e, g q l) (choice.same (local q)),
      (q, (le_refl q, omega arith, l), g q l),
    )

    range_of : (v : ℕ) → v < n → Extreme le local (Taken (first v) (at little v) (at big v) (last v)) (at range v)
    range_of v l = (before, (last v, inr (omega (arith, t v l), le_refl (last v)), r v l))
      where
        before : (p : ℕ) → Taken (first v) (at little v) (at big v) (last v) p → le (at range v) (local p)
        before p (inl h) = absurd (omega (arith, h.0, h.1, s v l))
        before p (inr h) = let e : p ≡ last v =
            omega (arith, h.0, h.1, t v l) in rw (e, r v l) (choice.same (local (last v)))

-- ---- a round

module _ {op : ℕ → ℕ → ℕ} {le : ℕ → ℕ → Type 0} (choice : Choice op le) {n : ℕ} {local first last : ℕ →
    ℕ} (spans : Spans n first last)
    {global range little big : List ℕ} {i : ℕ} (now : SegmentsAt le n local first last global range little big i) where
  -- two segments of 2 ^ i places make one of twice the length
  segment-next : (q : ℕ) → q < n → Multiple (2 ^ suc i) q →
      Extreme le local (Within n q (2 ^ suc i)) (at (global_later op i n global) q)
  segment-next q l w = go (dec_lt (q + 2 ^ i) n)
    where
      none : q % 2 ^ suc i ≡ 0
      none = multiple_remainder (2 ^ suc i) q w

      half : Multiple (2 ^ i) q
      half = multiple_half i q w

      split : (p : ℕ) → Within n q (2 ^ suc i) p → Within n q (2 ^ i) p ⊎ Within n (q + 2 ^ i) (2 ^ i) p
      split p h = pick (dec_lt p (q + 2 ^ i))
        where
          pick : Dec (p < q + 2 ^ i) → Within n q (2 ^ i) p ⊎ Within n (q + 2 ^ i) (2 ^ i) p
          pick (yes k) = inl (h.0, k, h.2)
          pick (no k) = inr (omega arith, omega (arith, h.1), h.2)

      go : Dec (q + 2 ^ i < n) → Extreme le local (Within n q (2 ^ suc i)) (at (global_later op i n global) q)
      go (yes k) =
          rw (global_doubles op i n global q l now.many_global none k)
          (extreme_join op le choice local (Within n q (2 ^ i)) (Within n (q + 2 ^ i) (2 ^ i)) (Within n q (2 ^ suc i))
          (at global q) (at global (q + 2 ^ i))
          split
          (λ (p : ℕ) (h : Within n q (2 ^ i) p). (h.0, omega (arith, h.1), h.2))
          (λ (p : ℕ) (h : Within n (q + 2 ^ i) (2 ^ i) p). (omega (arith, h.0), omega (arith, h.1), h.2))
          (now.segment_of q l half)
          (now.segment_of (q + 2 ^ i) k (multiple_up (2 ^ i) q half)))
      go (no k) =
          rw (global-stays op i n global q l now.many_global none (omega arith))
          (extreme_over le local (Within n q (2 ^ i)) (Within n q (2 ^ suc i)) (at global q)
          (λ (p : ℕ) (h : Within n q (2 ^ suc i) p). (h.0, omega (arith, h.2), h.2))
          (λ (p : ℕ) (h : Within n q (2 ^ i) p). (h.0, omega (arith, h.1), h.2))
          (now.segment_of q l half))

  -- little before it meets big: it moves over one segment, or stays; then it is a multiple of 2 ^ (i + 1)
  abbrev LittleNext : ℕ → Type 0
  LittleNext v =
      Multiple (2 ^ suc i) (at (little_later i n big little) v)
      × (at little v ≤ at (little_later i n big little) v)
      × (at (little_later i n big little) v ≤ at little v + 2 ^ i)
      × Extreme le local (Taken (first v) (at (little_later i n big little) v) (at big v) (last v))
      (with_little op i n global little big v (at range v))

  little-next : (v : ℕ) → v < n → at little v < at big v → Multiple (2 ^ i) (at little v) →
      Multiple (2 ^ i) (at big v) → LittleNext v
  little-next v l apart a b = go (either (odd i (at little v)))
    where
      entry : at (little_later i n big little) v
          ≡ cond (moves_little i little big v) (bounded (at little v + 2 ^ i)) (at little v)
      entry = little-entry i n big little v l now.many_little

      room : at little v + 2 ^ i ≤ at big v
      room = multiple_step (2 ^ i) (at little v) (at big v) a b apart

      split : (p : ℕ) → Taken (first v) (at little v + 2 ^ i) (at big v) (last v) p
          → Taken (first v) (at little v) (at big v) (last v) p ⊎ Within n (at little v) (2 ^ i) p
      split p (inr h) = inl (inr h)
      split p (inl h) = pick (dec_lt p (at little v))
        where
          pick : Dec (p < at little v) →
              Taken (first v) (at little v) (at big v) (last v) p ⊎ Within n (at little v) (2 ^ i) p
          pick (yes k) = inl (inl (h.0, k))
          pick (no k) = inr (omega arith, h.1, omega (arith, h.1, room, now.big_last v l, spans.last_below v l))

      more : (p : ℕ) → Taken (first v) (at little v) (at big v) (last v) p →
          Taken (first v) (at little v + 2 ^ i) (at big v) (last v) p
      more p (inl h) = inl (h.0, omega (arith, h.1))
      more p (inr h) = inr h

      go : (odd i (at little v) ≡ true) ⊎ (odd i (at little v) ≡ false) → LittleNext v
      go (inl e) =
          let moves : moves_little i little big v ≡ true = little-moves i little big v apart ∙ e in
          let after : at (little_later i n big little) v ≡ bounded (at little v + 2 ^ i) =
          entry ∙ cond_true (moves_little i little big v) (bounded (at little v + 2 ^ i)) (at little v) moves in
          let moved : at (little_later i n big little) v ≡ at little v + 2 ^ i =
          omega (arith, after, room, now.big_last v l, spans.last_below v l, spans.few_places) in
          let exists : at little v < n = omega (arith, now.big_last v l, spans.last_below v l) in
          rw (moved, little-takes op i n global little big v (at range v) moves exists) (
            (odd_multiple i (at little v) a (odd_remainder i (at little v) e)).1,
            omega arith,
            le_refl (at little v + 2 ^ i),
            extreme_join op le choice local (Taken (first v) (at little v) (at big v) (last v))
                (Within n (at little v) (2 ^ i))
                (Taken (first v) (at little v + 2 ^ i) (at big v) (last v)) (at range v) (at global (at little v))
                split more
                (λ (p : ℕ) (h : Within n (at little v) (2 ^ i) p). inl (
                  omega (arith, h.0, now.first_little v l),
                  h.1,
                ))
                (now.range_of v l)
                (now.segment_of (at little v) exists a),
          )
      go (inr e) =
          let stays : moves_little i little big v ≡ false = little-moves i little big v apart ∙ e in
          let kept : at (little_later i n big little) v ≡ at little v =
          entry ∙ cond_false (moves_little i little big v) (bounded (at little v + 2 ^ i)) (at little v) stays in
          rw (kept, little-passes op i n global little big v (at range v) stays) (
            no_remainder (2 ^ suc i) (at little v) (even_multiple i (at little v) e),
            le_refl (at little v),
            omega arith,
            now.range_of v l,
          )

  -- big likewise, downwards, from any value that little left
  abbrev BigNext : ℕ → ℕ → ℕ → Type 0
  BigNext v end x =
      Multiple (2 ^ suc i) (at (big_later i n little big) v)
      × (at (big_later i n little big) v ≤ at big v)
      × (at big v ≤ at (big_later i n little big) v + 2 ^ i)
      × Extreme le local (Taken (first v) end (at (big_later i n little big) v) (last v))
      (with_big op i n global little big v x)

  big-next : (v : ℕ) → v < n → at little v < at big v → Multiple (2 ^ i) (at big v)
      → (end x : ℕ) → Extreme le local (Taken (first v) end (at big v) (last v)) x → BigNext v end x
  big-next v l apart b end x before = go (either (odd i (at big v)))
    where
      entry : at (big_later i n little big) v ≡ cond (moves_big i little big v) (at big v - 2 ^ i) (at big v)
      entry = big-entry i n little big v l now.many_big

      split : (p : ℕ) → 2 ^ i ≤ at big v → Taken (first v) end (at big v - 2 ^ i) (last v) p
          → Taken (first v) end (at big v) (last v) p ⊎ Within n (at big v - 2 ^ i) (2 ^ i) p
      split p fits (inl h) = inl (inl h)
      split p fits (inr h) = pick (dec_lt p (at big v))
        where
          pick : Dec (p < at big v) → Taken (first v) end (at big v) (last v) p ⊎ Within n (at big v - 2 ^ i) (2 ^ i) p
          pick (yes k) = inr (h.0, omega arith, omega (arith, now.big_last v l, spans.last_below v l))
          pick (no k) = inl (inr (omega arith, h.1))

      more : (p : ℕ) → Taken (first v) end (at big v) (last v) p → Taken (first v) end (at big v - 2 ^ i) (last v) p
      more p (inl h) = inl h
      more p (inr h) = inr (omega (arith, h.0), h.1)

      go : (odd i (at big v) ≡ true) ⊎ (odd i (at big v) ≡ false) → BigNext v end x
      go (inl e) =
          let moves : moves_big i little big v ≡ true = big-moves i little big v apart ∙ e in
          let moved : at (big_later i n little big) v ≡ at big v - 2 ^ i =
          entry ∙ cond_true (moves_big i little big v) (at big v - 2 ^ i) (at big v) moves in
          let w = odd_multiple i (at big v) b (odd_remainder i (at big v) e) in
          let fits : 2 ^ i ≤ at big v = w.0 in
          let exists : at big v - 2 ^ i < n = omega (arith, now.big_last v l, spans.last_below v l) in
          rw (moved, big-takes op i n global little big v x moves fits exists) (
            w.2,
            omega arith,
            omega arith,
            extreme_join op le choice local (Taken (first v) end (at big v) (last v))
                (Within n (at big v - 2 ^ i) (2 ^ i))
                (Taken (first v) end (at big v - 2 ^ i) (last v)) x (at global (at big v - 2 ^ i))
                (λ (p : ℕ) (h : Taken (first v) end (at big v - 2 ^ i) (last v) p). split p fits h) more
                (λ (p : ℕ) (h : Within n (at big v - 2 ^ i) (2 ^ i) p). inr (
                  h.0,
                  omega (arith, h.1, now.big_last v l),
                ))
                before
                (now.segment_of (at big v - 2 ^ i) exists (multiple_down (2 ^ i) (at big v) b)),
          )
      go (inr e) =
          let stays : moves_big i little big v ≡ false = big-moves i little big v apart ∙ e in
          let kept : at (big_later i n little big) v ≡ at big v =
          entry ∙ cond_false (moves_big i little big v) (at big v - 2 ^ i) (at big v) stays in
          rw (kept, big-passes op i n global little big v x stays)
          (no_remainder (2 ^ suc i) (at big v) (even_multiple i (at big v) e), le_refl (at big v), omega arith, before)

  -- both ends of one unit after the round
  abbrev UnitNext : ℕ → Type 0
  UnitNext v =
      (first v ≤ at (little_later i n big little) v)
      × (at (little_later i n big little) v ≤ at (big_later i n little big) v)
      × (at (big_later i n little big) v ≤ last v)
      × ((at (little_later i n big little) v ≡ at (big_later i n little big) v)
      ⊎ (Multiple (2 ^ suc i) (at (little_later i n big little) v)
      × Multiple (2 ^ suc i) (at (big_later i n little big) v)))
      × Extreme le local (Taken (first v) (at (little_later i n big little) v) (at (big_later i n little big) v)
      (last v))
      (at (range_later op i n global little big range) v)

  unit-next : (v : ℕ) → v < n → UnitNext v
  unit-next v l = go (dec_lt (at little v) (at big v)) (now.aligned v l)
    where
      entry : at (range_later op i n global little big range) v
          ≡ with_big op i n global little big v (with_little op i n global little big v (at range v))
      entry = range-entry op i n global little big range v l now.many_range

      met : at little v ≡ at big v → UnitNext v
      met e =
          let stays : moves_little i little big v ≡ false = little-rests i little big v e in
          let rests : moves_big i little big v ≡ false = big-rests i little big v e in
          let littleKept : at (little_later i n big little) v ≡ at little v =
          little-entry i n big little v l now.many_little
          ∙ cond_false (moves_little i little big v) (bounded (at little v + 2 ^ i)) (at little v) stays in
          let bigKept : at (big_later i n little big) v ≡ at big v =
          big-entry i n little big v l now.many_big
          ∙ cond_false (moves_big i little big v) (at big v - 2 ^ i) (at big v) rests in
          let rangeKept : at (range_later op i n global little big range) v ≡ at range v =
          entry
          ∙ big-passes op i n global little big v (with_little op i n global little big v (at range v)) rests
          ∙ little-passes op i n global little big v (at range v) stays in
          rw (littleKept, bigKept, rangeKept) (
            now.first_little v l,
            now.little_big v l,
            now.big_last v l,
            inl e,
            now.range_of v l,
          )

      apart : at little v < at big v → Multiple (2 ^ i) (at little v) → Multiple (2 ^ i) (at big v) → UnitNext v
      apart h a b =
          let low : LittleNext v = little-next v l h a b in
          let high : BigNext v (at (little_later i n big little) v)
          (with_little op i n global little big v (at range v)) =
          big-next v l h b (at (little_later i n big little) v) (with_little op i n global little big v (at range v))
          low.3 in
          let near : at (little_later i n big little) v < at (big_later i n little big) v + 2 ^ suc i =
          omega (arith, low.2, high.2) in
          let step : at (little_later i n big little) v + 2 ^ suc i ≤ at (big_later i n little big) v + 2 ^ suc i =
          multiple_step (2 ^ suc i) (at (little_later i n big little) v) (at (big_later i n little big) v + 2 ^ suc i)
          low.0
          (multiple_up (2 ^ suc i) (at (big_later i n little big) v) high.0) near in
          rw entry (
            omega (arith, low.1, now.first_little v l),
            omega arith,
            omega (arith, high.1, now.big_last v l),
            inr (low.0, high.0),
            high.3,
          )

      go : Dec (at little v < at big v) →
          (at little v ≡ at big v) ⊎ (Multiple (2 ^ i) (at little v) × Multiple (2 ^ i) (at big v)) → UnitNext v
      go (no h) w = met (omega (arith, now.little_big v l))
      go (yes h) (inl e) = met e
      go (yes h) (inr w) = apart h w.0 w.1

  pub next : SegmentsAt le n local first last (global_later op i n global) (range_later op i n global little big range)
      (little_later i n big little)
      (big_later i n little big) (suc i)
  next = record {
    many_global = omega (arith, now.many_global, length-global_later op i n global);
    many_range = omega (arith, now.many_range, length-range_later op i n global little big range);
    many_little = omega (arith, now.many_little, length-little_later i n big little);
    many_big = omega (arith, now.many_big, length-big_later i n little big);
    segment_of = segment-next;
    first_little = λ (v : ℕ) (l : v < n). (unit-next v l).0;
    little_big = λ (v : ℕ) (l : v < n). (unit-next v l).1;
    big_last = λ (v : ℕ) (l : v < n). (unit-next v l).2;
    aligned = λ (v : ℕ) (l : v < n). (unit-next v l).3;
    range_of = λ (v : ℕ) (l : v < n). (unit-next v l).4;
  }

-- ---- the end

-- after lg(n) rounds little has met big,
met : {le : ℕ → ℕ → Type 0} {n : ℕ} {local first last : ℕ → ℕ} {global range little big : List ℕ} → Spans n first last
    → SegmentsAt le n local first last global range little big (lg n) → (v : ℕ) → v < n → at little v ≡ at big v
met {n = n} {little = little} {big = big} spans now v l = go (now.aligned v l)
  where
    go : (at little v ≡ at big v) ⊎ (Multiple (2 ^ lg n) (at little v) × Multiple (2 ^ lg n) (at big v)) →
        at little v ≡ at big v
    go (inl e) = e
    go (inr w) =
        let below : at big v < 2 ^ lg n = omega (arith, now.big_last v l, spans.last_below v l, lg-reaches n) in
        let none : at big v ≡ 0 = multiple_zero (2 ^ lg n) (at big v) w.1 below in
        omega (arith, now.little_big v l)

-- and the value of each unit is the extreme over all places of its descendants
done : {le : ℕ → ℕ → Type 0} {n : ℕ} {local first last : ℕ → ℕ} {global range little big : List ℕ} → Spans n first last
    → SegmentsAt le n local first last global range little big (lg n) → (v : ℕ) → v < n
    → ((q : ℕ) → first v ≤ q → q ≤ last v → le (at range v) (local q))
    × ((q : ℕ) × (first v ≤ q) × (q ≤ last v) × (at range v ≡ local q))
done {le} {n} {local} {first} {last} {range = range} {little = little} {big = big} spans now v l =
    (before, found (now.range_of v l).1)
  where
    same : at little v ≡ at big v
    same = met spans now v l

    before : (q : ℕ) → first v ≤ q → q ≤ last v → le (at range v) (local q)
    before q h k = pick (dec_lt q (at little v))
      where
        pick : Dec (q < at little v) → le (at range v) (local q)
        pick (yes m) = (now.range_of v l).0 q (inl (h, m))
        pick (no m) = (now.range_of v l).0 q (inr (omega (arith, same), k))

    found : (q : ℕ) × Taken (first v) (at little v) (at big v) (last v) q × (at range v ≡ local q)
        → (q : ℕ) × (first v ≤ q) × (q ≤ last v) × (at range v ≡ local q)
    found (q, inl h, e) = (q, h.0, omega (arith, h.1, now.little_big v l, now.big_last v l), e)
    found (q, inr h, e) = (q, omega (arith, h.0, now.little_big v l, now.first_little v l), h.1, e)

-- ---- the rules' first round

-- the place of v's last descendant
abbrev pub last_place : List ℕ → List ℕ → ℕ → ℕ
last_place nd pre v = at pre v + at nd v - 1

module _ (n : ℕ) (nd pre : List ℕ) (few : n ≤ MAX-NUMBER) (own : (v : ℕ) → v < n → 1 ≤ at nd v) (inside : (v : ℕ) →
    v < n → at pre v + at nd v ≤ n) where
  pub place-spans : Spans n (at pre) (last_place nd pre)
  place-spans = record {
    few_places = few;
    forward = λ (v : ℕ) (l : v < n). omega (arith, own v l);
    last_below = λ (v : ℕ) (l : v < n). omega (arith, own v l, inside v l);
  }

  pub first_round : {op : ℕ → ℕ → ℕ} {le : ℕ → ℕ → Type 0} → Choice op le →
      (m : ℕ) (ends parent global range little big : List ℕ)
      → n ≤ length global → n ≤ length range → n ≤ length little → n ≤ length big
      → SegmentsAt le n (local_at op n m ends parent pre) (at pre) (last_place nd pre)
      (global_first op n m ends parent pre global) (range_first op n m ends parent nd pre range)
      (little_first n pre little) (big_first n nd pre big) 0
  first_round {op} {le} choice m ends parent global range little big a b c d =
      start choice place-spans (local_at op n m ends parent pre) (global_first op n m ends parent pre global)
      (range_first op n m ends parent nd pre range) (little_first n pre little) (big_first n nd pre big)
      (omega (arith, length-global_first op n m ends parent pre global))
      (omega (arith, length-range_first op n m ends parent nd pre range))
      (omega (arith, length-little_first n pre little))
      (omega (arith, length-big_first n nd pre big))
      (λ (q : ℕ) (l : q < n). global-first op n m ends parent pre global q l a)
      (λ (v : ℕ) (l : v < n). range-first op n m ends parent nd pre range v l b (own v l) (inside v l))
      (λ (v : ℕ) (l : v < n). little-first n pre little v l c)
      (λ (v : ℕ) (l : v < n). big-first n nd pre big v l d few (inside v l))

  -- at the end, by units: the extreme of the local values of v's descendants, the units whose places lie in v's
  -- interval
  pub over-descendants : (op : ℕ → ℕ → ℕ) {le : ℕ → ℕ →
      Type 0} (m : ℕ) (ends parent : List ℕ) {global range little big : List ℕ}
      → ((u v : ℕ) → u < n → v < n → at pre u ≡ at pre v → u ≡ v) →
      ((q : ℕ) → q < n → (w : ℕ) × (w < n) × (at pre w ≡ q))
      → SegmentsAt le n (local_at op n m ends parent pre) (at pre) (last_place nd pre) global range little big (lg n) →
      (v : ℕ) → v < n
      → ((w : ℕ) → w < n → at pre v ≤ at pre w → at pre w < at pre v + at nd v →
      le (at range v) (local_of op m ends parent pre w))
      × ((w : ℕ) × (w < n) × (at pre v ≤ at pre w) × (at pre w < at pre v + at nd v)
      × (at range v ≡ local_of op m ends parent pre w))
  over-descendants op {le} m ends parent {range = range} differ onto now v l = (before, found ends-at.1)
    where
      ends-at : ((q : ℕ) → at pre v ≤ q → q ≤ last_place nd pre v → le (at range v) (local_at op n m ends parent pre q))
          × ((q : ℕ) × (at pre v ≤ q) × (q ≤ last_place nd pre v) × (at range v ≡ local_at op n m ends parent pre q))
      ends-at = done place-spans now v l

      local : (w : ℕ) → w < n → local_at op n m ends parent pre (at pre w) ≡ local_of op m ends parent pre w
      local w k = local-at op n m ends parent pre w (omega arith) (unit-at n pre (omega arith) differ w k)

      before : (w : ℕ) → w < n → at pre v ≤ at pre w → at pre w < at pre v + at nd v →
          le (at range v) (local_of op m ends parent pre w)
      before w k a b = rw (local w k) at (ends-at.0 (at pre w) a (omega arith))

      found : (q : ℕ) × (at pre v ≤ q) × (q ≤ last_place nd pre v) × (at range v ≡ local_at op n m ends parent pre q)
          → (w : ℕ) × (w < n) × (at pre v ≤ at pre w) × (at pre w < at pre v + at nd v)
          × (at range v ≡ local_of op m ends parent pre w)
      found (q, a, b, e) =
          let w = onto q (omega (arith, own v l, inside v l)) in
          let place : at pre w.0 ≡ q = w.2 in
          let said : at range v ≡ local_at op n m ends parent pre (at pre w.0) = rw place e in
          (w.0, w.1, omega arith, omega (arith, own v l), said ∙ local w.0 w.1)
