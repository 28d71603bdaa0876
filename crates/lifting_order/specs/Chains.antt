-- The places of a table that hold v, from the last to the first, by a chain: each place names the one before it that
-- holds the same.
use Rattle.std.specs.Prelude.{◌≡◌, Bool, true, false, cond, ◌⊎◌, ◌≢◌, List, eqb, length, get_or, set}
use Rattle.std.proofs.Math.Path.{refl, sym}
use Rattle.std.proofs.Common.{ap, ◌∙◌, inl, inr, add-one, arith, get_or-set_same, get_or-set_other, eqb-true, eq-eqb}
use Rattle.std.proofs.Common.{ne_eqb}
use Prim.Native.Nat.{ℕ, zero, suc, ◌+◌, ◌-◌, ◌≤◌, ◌<◌}
use Rattle.std.proofs.Math.Decide.{ℕ_discrete}
use Rattle.base_lists.specs.Tests.{either}

-- one more than the last place below i that holds v, 0 where none does
unfoldable pub last_before : List ℕ → ℕ → ℕ → ℕ
last_before t v zero = 0
last_before t v (suc i) = let before = last_before t v i in cond (eqb (get_or t i 0) v) (suc i) before

-- a table of at most 2,048 words, each below 256
pub record Words (t : List ℕ) : Type 0 where
  pub few : length t ≤ 2048
  pub below : (i : ℕ) → i < length t → get_or t i 0 < 256

-- the chains of the first i words: where each begins, and how it goes on
pub record Chained (t last next : List ℕ) (i : ℕ) : Type 0 where
  pub begins : (v : ℕ) → v < 256 → get_or last v 0 ≡ last_before t v i
  pub goes : (k : ℕ) → k < i → get_or next k 0 ≡ last_before t (get_or t k 0) k

pub last_le : (t : List ℕ) (v i : ℕ) → last_before t v i ≤ i
unfolding last_before
last_le t v zero = omega arith
last_le t v (suc i) = go (eqb (get_or t i 0) v) (last_le t v i)
  where
    go : (b : Bool) → last_before t v i ≤ i → cond b (suc i) (last_before t v i) ≤ suc i
    go true h = omega arith
    go false h = omega arith

-- what it names holds v
pub last-holds : (t : List ℕ) (v c i : ℕ) → last_before t v c ≡ suc i → get_or t i 0 ≡ v
unfolding last_before
last-holds t v zero i e = absurd (omega arith)
last-holds t v (suc c) i e = go (either (eqb (get_or t c 0) v)) (last-holds t v c i)
  where
    go : (eqb (get_or t c 0) v ≡ true) ⊎ (eqb (get_or t c 0) v ≡ false) → (last_before t v c ≡ suc i → get_or t i 0 ≡ v)
        →
        get_or t i 0 ≡ v
    go (inl q) later = let r : suc c ≡ suc i = rw q at e in let s : i ≡ c =
        omega arith in rw s (eqb-true (get_or t c 0) v q)
    go (inr q) later = later (rw q at e)

-- ---- the chains made

pub chained_none : (t last next : List ℕ) → ((v : ℕ) → v < 256 → get_or last v 0 ≡ 0) → Chained t last next 0
unfolding last_before
chained_none t last next h = record { begins = h; goes = λ k l. absurd (omega arith) }

-- one word more: its place goes on where the chain of what it holds began, which begins at it now
pub chained_more : (t last next last' next' : List ℕ) (i : ℕ) → Words t → i < length t → length last ≡ 256 →
    length next ≡ 2048
    → Chained t last next i → next' ≡ set next i (get_or last (get_or t i 0) 0) → last'
    ≡ set last (get_or t i 0) (i + 1) →
    Chained t last' next' (i + 1)
unfolding last_before
chained_more t last next last' next' i w l a b c en el =
    record { begins = λ v h. begin v h (ℕ_discrete v (get_or t i 0)); goes = λ k h. go k h (ℕ_discrete k i) }
  where
    begin : (v : ℕ) → v < 256 → Dec (v ≡ get_or t i 0) → get_or last' v 0 ≡ last_before t v (i + 1)
    begin v h (yes e) =
        rw (el, add-one, eq-eqb (get_or t i 0) v (sym e))
        (ap (λ (z : ℕ). get_or (set last (get_or t i 0) (suc i)) z 0) e
        ∙ get_or-set_same last (get_or t i 0) (suc i) 0 (omega (arith, w.below i l)))
    begin v h (no e) =
        rw (el, add-one, ne_eqb (get_or t i 0) v (λ q. e (sym q))) (get_or-set_other last (get_or t i 0) v (suc i) 0 e
        ∙ c.begins v h)

    go : (k : ℕ) → k < i + 1 → Dec (k ≡ i) → get_or next' k 0 ≡ last_before t (get_or t k 0) k
    go k h (yes e) = rw (en, e) (get_or-set_same next i _ 0 (omega (arith, w.few))
        ∙ c.begins (get_or t i 0) (w.below i l))
    go k h (no e) = rw en (get_or-set_other next i k _ 0 e ∙ c.goes k (omega arith))

-- ---- the chain of v walked

module _ (t : List ℕ) (v : ℕ) (act : ℕ → List ℕ → List ℕ) where
  -- act at each place below c that holds v, the last first
  unfoldable pub through : ℕ → List ℕ → List ℕ
  through zero x = x
  through (suc i) x = through i (cond (eqb (get_or t i 0) v) (act i x) x)

  -- places that hold something else are passed over
  pub through-skip : (c : ℕ) (x : List ℕ) → through c x ≡ through (last_before t v c) x
  unfolding through last_before
  through-skip zero x = refl
  through-skip (suc i) x = go (either (eqb (get_or t i 0) v)) (through-skip i x)
    where
      go : (eqb (get_or t i 0) v ≡ true) ⊎ (eqb (get_or t i 0) v ≡ false) → through i x ≡ through (last_before t v i) x
          → through i (cond (eqb (get_or t i 0) v) (act i x) x)
          ≡ through (cond (eqb (get_or t i 0) v) (suc i) (last_before t v i)) x
      go (inl e) later = sym (ap (λ (b : Bool). through (cond b (suc i) (last_before t v i)) x) e)
      go (inr e) later = rw e later

  -- a place that holds v, and on along the chain
  through-turn : (i : ℕ) (x : List ℕ) → get_or t i 0 ≡ v → through (suc i) x ≡ through (last_before t v i) (act i x)
  unfolding through
  through-turn i x e = rw (eq-eqb (get_or t i 0) v e) (through-skip i (act i x))

  -- where a walk stands: next to place c, with x of what began as x₀
  pub record Along (x₀ : List ℕ) (c : ℕ) (x : List ℕ) : Type 0 where
    pub within : c ≤ length t
    pub holds : (i : ℕ) → c ≡ suc i → get_or t i 0 ≡ v
    pub rest : through (length t) x₀ ≡ through c x

  module _ (last next : List ℕ) (h : Chained t last next (length t)) where
    pub along-begun : (c : ℕ) (x : List ℕ) → v < 256 → c ≡ get_or last v 0 → Along x c x
    along-begun c x l e =
        let q : c ≡ last_before t v (length t) = e ∙ h.begins v l in
        record {
          within = rw q (last_le t v (length t));
          holds = λ i r. last-holds t v (length t) i (sym q ∙ r);
          rest = rw q (through-skip (length t) x);
        }

    -- the place before c, and where the chain goes on
    pub along-turn : (c d : ℕ) (x₀ x new : List ℕ) → c ≢ 0 → Along x₀ c x → new ≡ act (c - 1) x →
        d ≡ get_or next (c - 1) 0 → Along x₀ d new
    along-turn c d x₀ x new z a en ed =
        let e : c ≡ suc (c - 1) = omega arith in
        let here : get_or t (c - 1) 0 ≡ v = a.holds (c - 1) e in
        let q : d ≡ last_before t v (c - 1) =
        ed ∙ (h.goes (c - 1) (omega (arith, a.within)) ∙ ap (λ (y : ℕ). last_before t y (c - 1)) here) in
        record {
          within = rw q (omega (arith, last_le t v (c - 1), a.within));
          holds = λ j r. last-holds t v (c - 1) j (sym q ∙ r);
          rest = rw (q, en) (a.rest ∙ (ap (λ (k : ℕ). through k x) e ∙ through-turn (c - 1) x here));
        }

    pub along-less : (c d : ℕ) (x₀ x : List ℕ) → c ≢ 0 → Along x₀ c x → d ≡ get_or next (c - 1) 0 → d < c
    along-less c d x₀ x z a ed = omega (
      arith,
      a.within,
      h.goes (c - 1) (omega (arith, a.within)),
      last_le t (get_or t (c - 1) 0) (c - 1),
    )

  pub along-end : (c : ℕ) (x₀ x : List ℕ) → c ≡ 0 → Along x₀ c x → x ≡ through (length t) x₀
  unfolding through
  along-end c x₀ x e a = let r = a.rest in sym (rw e at r)
