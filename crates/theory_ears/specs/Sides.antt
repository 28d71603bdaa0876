-- Beside each unit of the order a linked one before it and one after it (T-04), found in one pass over the links.
use Rattle.std.specs.Prelude.{◌≡◌, refl, Bool, true, false, cond, ◌&&◌, ◌⊎◌, ◌≢◌, List, ℕ, suc, ◌+◌, ◌≤◌, ◌<◌, ltb}
use Rattle.std.specs.Prelude.{length, set}
use Rattle.std.proofs.Common.{sym, ap, subst, ◌∙◌, inl, inr, arith, length-set, get_or-set_same, get_or-set_other}
use Rattle.std.proofs.Common.{ltb-true, ltb-false}
use Rattle.std.proofs.Math.Decide.{ℕ_discrete, dec_lt}
use Rattle.base_lists.specs.Tests.{and_left, and_right, and-true, not_both}
use Rattle.table.specs.Table.{end_a, end_b}
use Rattle.spec_rules.specs.Basics.{at}
use Rattle.theory_graph.specs.Rings.{SameLink}
use Rattle.theory_reach.specs.Site.{Site}
use Rattle.theory_ears.specs.Present.{Present, present-graph}
use Rattle.theory_ears.specs.Steps.{on_order}
use Rattle.theory_ears.specs.Upright.{Upright, Lower, Higher}

-- one of the first k links that count leads from v to w of the order, on the wanted side of v
abbrev Leads : (ℕ → ℕ → Type 0) → (ℕ → Bool) → List ℕ → List ℕ → ℕ → ℕ → Type 0
Leads Side ok ends pos k v =
    (j : ℕ) × (j < k) × (ok j ≡ true) × (w : ℕ) × SameLink (end_a ends j) (end_b ends j) v w × (on_order pos w ≡ true)
    × Side v w

-- where one does, the table has such a unit
abbrev Leaning : (ℕ → ℕ → Type 0) → (ℕ → Bool) → ℕ → List ℕ → List ℕ → List ℕ → ℕ → Type 0
Leaning Side ok m ends pos t k =
    (v : ℕ) → on_order pos v ≡ true → Leads Side ok ends pos k v →
    (on_order pos (at t v) ≡ true) × Present ok m ends v (at t v) × Side v (at t v)

abbrev Before : List ℕ → ℕ → ℕ → Type 0
Before pos v w = at pos w < at pos v

abbrev After : List ℕ → ℕ → ℕ → Type 0
After pos v w = at pos v < at pos w

-- the tables of lower and of higher units, after the first k links
pub record Leant (ok : ℕ → Bool) (m : ℕ) (ends pos low high : List ℕ) (k : ℕ) : Type 0 where
  pub long-low : length low ≡ 256
  pub long-high : length high ≡ 256
  pub lower : Leaning (Before pos) ok m ends pos low k
  pub higher : Leaning (After pos) ok m ends pos high k

-- link j counts, and both of its ends are on the order
abbrev pub within : (ℕ → Bool) → List ℕ → List ℕ → ℕ → Bool
within ok ends pos j = ok j && (on_order pos (end_a ends j) && on_order pos (end_b ends j))

pub leant_begun : (ok : ℕ → Bool) (m : ℕ) (ends pos low high : List ℕ) → length low ≡ 256 → length high ≡ 256 →
    Leant ok m ends pos low high 0
leant_begun ok m ends pos low high a b =
    record {
      long-low = a;
      long-high = b;
      lower = λ v o w. absurd (none w.0 w.1);
      higher = λ v o w. absurd (none w.0 w.1);
    }
  where
    none : (j : ℕ) → j < 0 → ⊥
    none j h = omega arith

module _ {n m : ℕ} {ends : List ℕ} (site : Site n m ends) (ok : ℕ → Bool) (pos : List ℕ) where
  -- a link that is not within the order says nothing
  skip : (Side : ℕ → ℕ → Type 0) (t : List ℕ) (k : ℕ) → Leaning Side ok m ends pos t k → within ok ends pos k ≡ false →
      Leaning Side ok m ends pos t (k + 1)
  skip Side t k H e v o (j, h, oj, w, s, ow, q) = go (dec_lt j k)
    where
      both : SameLink (end_a ends j) (end_b ends j) v w → within ok ends pos j ≡ true
      both (inl (x, y)) = and-true (ok j) _ oj
          (and-true (on_order pos (end_a ends j)) (on_order pos (end_b ends j)) (rw x o) (rw y ow))
      both (inr (x, y)) = and-true (ok j) _ oj
          (and-true (on_order pos (end_a ends j)) (on_order pos (end_b ends j)) (rw x ow) (rw y o))

      go : Dec (j < k) → (on_order pos (at t v) ≡ true) × Present ok m ends v (at t v) × Side v (at t v)
      go (yes b) = H v o (j, b, oj, w, s, ow, q)
      go (no b) = let f : j ≡ k = omega arith in absurd
          (not_both (within ok ends pos k) (subst (λ (z : ℕ). within ok ends pos z ≡ true) f (both s)) e)

  -- one that is within it: x is its end on the other side
  store : (Side : ℕ → ℕ → Type 0) (t : List ℕ) (k : ℕ) → Leaning Side ok m ends pos t k → (x y : ℕ) → x < length t →
      on_order pos y ≡ true
      → Present ok m ends x y → Side x y → ((v w : ℕ) → SameLink (end_a ends k) (end_b ends k) v w → Side v w → v ≡ x) →
      Leaning Side ok m ends pos (set t x y) (k + 1)
  store Side t k H x y lx oy l s only v o (j, h, oj, w, sl, ow, q) = go (ℕ_discrete v x)
    where
      Good : ℕ → ℕ → Type 0
      Good v z = (on_order pos z ≡ true) × Present ok m ends v z × Side v z

      go : Dec (v ≡ x) → Good v (at (set t x y) v)
      go (yes e) = subst (λ (z : ℕ). Good z (at (set t x y) z)) (sym e)
          (subst (Good x) (sym (get_or-set_same t x y 0 lx)) (oy, l, s))
      go (no e) = subst (Good v) (sym (get_or-set_other t x v y 0 e)) (old (dec_lt j k))
        where
          old : Dec (j < k) → Good v (at t v)
          old (yes b) = H v o (j, b, oj, w, sl, ow, q)
          old (no b) =
              let f : j ≡ k = omega arith in
              absurd (e (only v w (subst (λ (z : ℕ). SameLink (end_a ends z) (end_b ends z) v w) f sl) q))

  pub leant_skip : (low high : List ℕ) (k : ℕ) → Leant ok m ends pos low high k → within ok ends pos k ≡ false →
      Leant ok m ends pos low high (k + 1)
  leant_skip low high k H e =
      record {
        long-low = H.long-low;
        long-high = H.long-high;
        lower = skip (Before pos) low k H.lower e;
        higher = skip (After pos) high k H.higher e;
      }

  module _ (low high : List ℕ) (k : ℕ) (h : k < m) (H : Leant ok m ends pos low high k)
      (e : within ok ends pos k ≡ true)
      (apart : at pos (end_a ends k) ≢ at pos (end_b ends k)) where
    oa : on_order pos (end_a ends k) ≡ true
    oa = and_left (on_order pos (end_a ends k)) (on_order pos (end_b ends k)) (and_right (ok k) _ e)

    ob : on_order pos (end_b ends k) ≡ true
    ob = and_right (on_order pos (end_a ends k)) (on_order pos (end_b ends k)) (and_right (ok k) _ e)

    lk : Present ok m ends (end_a ends k) (end_b ends k)
    lk = (k, h, and_left (ok k) _ e, inl (refl, refl))

    back : Present ok m ends (end_b ends k) (end_a ends k)
    back = (k, h, and_left (ok k) _ e, inr (refl, refl))

    small-a : end_a ends k < 256
    small-a = omega (arith, site.below_a k h, site.few_units)

    small_b_lem : end_b ends k < 256
    small_b_lem = omega (arith, site.below_b k h, site.few_units)

    -- its end that stands lower, x, and its end that stands higher, y
    both : (x y : ℕ) → x < 256 → y < 256 → on_order pos x ≡ true → on_order pos y ≡ true → Present ok m ends x y →
        Present ok m ends y x → at pos x < at pos y
        → ((v w : ℕ) → SameLink (end_a ends k) (end_b ends k) v w → ((v ≡ x) × (w ≡ y)) ⊎ ((v ≡ y) × (w ≡ x)))
        → Leant ok m ends pos (set low y x) (set high x y) (k + 1)
    both x y sx sy ox oy l l' less cases =
        record {
          long-low = length-set low y x ∙ H.long-low;
          long-high = length-set high x y ∙ H.long-high;
          lower = store (Before pos) low k H.lower y x (omega (arith, H.long-low)) ox l' less
              (λ v w s q. low-only v w (cases v w s) q);
          higher = store (After pos) high k H.higher x y (omega (arith, H.long-high)) oy l less
              (λ v w s q. high-only v w (cases v w s) q);
        }
      where
        low-only : (v w : ℕ) → ((v ≡ x) × (w ≡ y)) ⊎ ((v ≡ y) × (w ≡ x)) → Before pos v w → v ≡ y
        low-only v w (inl (a, b)) q = absurd (omega (arith, ap (at pos) a, ap (at pos) b))
        low-only v w (inr (a, b)) q = a

        high-only : (v w : ℕ) → ((v ≡ x) × (w ≡ y)) ⊎ ((v ≡ y) × (w ≡ x)) → After pos v w → v ≡ x
        high-only v w (inl (a, b)) q = a
        high-only v w (inr (a, b)) q = absurd (omega (arith, ap (at pos) a, ap (at pos) b))

    pub leant_store : (s : Bool) → s ≡ ltb (at pos (end_a ends k)) (at pos (end_b ends k))
        → Leant ok m ends pos (set low (cond s (end_b ends k) (end_a ends k)) (cond s (end_a ends k) (end_b ends k)))
        (set high (cond s (end_a ends k) (end_b ends k)) (cond s (end_b ends k) (end_a ends k))) (k + 1)
    leant_store true q =
        both (end_a ends k) (end_b ends k) small-a small_b_lem oa ob lk back
        (ltb-true (at pos (end_a ends k)) (at pos (end_b ends k)) (sym q)) cases
      where
        cases : (v w : ℕ) → SameLink (end_a ends k) (end_b ends k) v w →
            ((v ≡ end_a ends k) × (w ≡ end_b ends k)) ⊎ ((v ≡ end_b ends k) × (w ≡ end_a ends k))
        cases v w (inl (x, y)) = inl (sym x, sym y)
        cases v w (inr (x, y)) = inr (sym y, sym x)
    leant_store false q =
        both (end_b ends k) (end_a ends k) small_b_lem small-a ob oa back lk
        (omega (arith, apart, ltb-false (at pos (end_a ends k)) (at pos (end_b ends k)) (sym q))) cases
      where
        cases : (v w : ℕ) → SameLink (end_a ends k) (end_b ends k) v w →
            ((v ≡ end_b ends k) × (w ≡ end_a ends k)) ⊎ ((v ≡ end_a ends k) × (w ≡ end_b ends k))
        cases v w (inl (x, y)) = inr (sym x, sym y)
        cases v w (inr (x, y)) = inl (sym y, sym x)

  -- after all links: as the two walks need them
  module _ (low high : List ℕ) (H : Leant ok m ends pos low high m) {a b : ℕ}
      (U : Upright (Present ok m ends) (on_order pos) (at pos) a b) where
    pub lower-all : Lower (Present ok m ends) (on_order pos) (at pos) a b (at low)
    lower-all = record { chosen = λ v o na nb. go v o (U.below v o na nb) }
      where
        go : (v : ℕ) → on_order pos v ≡ true →
            (u : ℕ) × (on_order pos u ≡ true) × Present ok m ends v u × (at pos u < at pos v)
            → (on_order pos (at low v) ≡ true) × Present ok m ends v (at low v) × (at pos (at low v) < at pos v)
        go v o (u, ou, (j, h, oj, s), less) = H.lower v o (j, h, oj, u, s, ou, less)

    pub higher-all : Higher (Present ok m ends) (on_order pos) (at pos) a b (at high)
    higher-all = record { chosen = λ v o na nb. go v o (U.above v o na nb) }
      where
        go : (v : ℕ) → on_order pos v ≡ true →
            (u : ℕ) × (on_order pos u ≡ true) × Present ok m ends v u × (at pos v < at pos u)
            → (on_order pos (at high v) ≡ true) × Present ok m ends v (at high v) × (at pos v < at pos (at high v))
        go v o (u, ou, (j, h, oj, s), less) = H.higher v o (j, h, oj, u, s, ou, less)
