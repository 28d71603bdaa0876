-- Counts as a loop over the links makes them, and as another compares them.
use Rattle.std.specs.Prelude.{◌≡◌, refl, Bool, true, false, not, ◌||◌, ◌↔◌, List, ℕ, zero, suc, ◌+◌, ◌≤◌, ◌<◌, min}
use Rattle.std.specs.Prelude.{length, set}
use Rattle.std.proofs.Common.{sym, ◌∙◌, le_antisymm, add-one, arith, ext_get_or, get_or-set_same, get_or-set_other}
use Rattle.std.proofs.Math.Bool.{cond}
use Rattle.std.proofs.Math.Decide.{ℕ_discrete}
use Rattle.std.proofs.Math.Dec.{eqb}
use Rattle.std.proofs.Math.ListN.{get_or, length-set}
use borrow.Author.Tests.{eqb-true, eq-eqb, ne_eqb}
use Rattle.base_lists.specs.Folds.{count, some}
use Rattle.base_lists.specs.Counts.{count_le}
use Rattle.base_lists.specs.Some.{some-exact}
use Rattle.base_lists.specs.Tables.{tab, get_d_tab}
use Rattle.base_lists.specs.Tests.{not_exact, refuted}
use Rattle.table.specs.Table.{max_units, end_a, end_b}
use Rattle.live_table.specs.Counts.{ends_at, counted_at, counts_to, miscounted}

length-tab : (n : ℕ) (f : ℕ → ℕ) → length (tab n f) ≡ n
length-tab zero f = refl
length-tab (suc n) f = rw (length-tab n (λ (k : ℕ). f (suc k))) refl

pub length-counts : (m : ℕ) (t : List ℕ) → length (counts_to m t) ≡ max_units
unfolding counts_to
length-counts m t = length-tab max_units (counted_at m t)

-- each stored number is the count
pub counts-at : (m : ℕ) (t : List ℕ) (v : ℕ) → v < max_units → get_or (counts_to m t) v 0 ≡ counted_at m t v
unfolding counts_to
counts-at m t v h = get_d_tab max_units (counted_at m t) v 0 h

-- and numbers that are the counts are these
pub counts_ext : (m : ℕ) (t counts : List ℕ) → length counts ≡ max_units →
    ((v : ℕ) → v < max_units → get_or counts v 0 ≡ counted_at m t v)
    → counts ≡ counts_to m t
counts_ext m t counts full h =
    ext_get_or 0 counts (counts_to m t) (full ∙ sym (length-counts m t))
    (λ (v : ℕ) (l : v < length counts). let b : v < max_units = omega (arith, full) in h v b ∙ sym (counts-at m t v b))

-- ---- one link more

pub counted_none : (t counts : List ℕ) → ((v : ℕ) → v < max_units → get_or counts v 0 ≡ 0) → (v : ℕ) → v < max_units →
    get_or counts v 0 ≡ counted_at 0 t v
unfolding counted_at
counted_none t counts z v h = z v h

-- an entry of a word raised by x
abbrev pub raised_at : List ℕ → ℕ → ℕ → List ℕ
raised_at counts v x = set counts v (min (get_or counts v 0 + x) 65535)

-- the link (a, b) counted at its ends, once where they are equal
unfoldable pub counted_in : List ℕ → ℕ → ℕ → List ℕ
counted_in counts a b = raised_at (raised_at counts a 1) b (cond (eqb a b) 0 1)

raised-same : (counts : List ℕ) (v x : ℕ) → v < length counts → get_or counts v 0 + x ≤ 65535 →
    get_or (raised_at counts v x) v 0 ≡ get_or counts v 0 + x
raised-same counts v x h l = get_or-set_same counts v _ 0 h ∙ omega arith

raised-other : (counts : List ℕ) (u v x : ℕ) → (v ≡ u → ⊥) → get_or (raised_at counts u x) v 0 ≡ get_or counts v 0
raised-other counts u v x n = get_or-set_other counts u v _ 0 n

module _ (counts : List ℕ) (a b v : ℕ) (h : v < length counts) (l : get_or counts v 0 < 65535) where
  counted-one : get_or (counted_in counts a b) v 0 ≡ get_or counts v 0 + cond (eqb a v || eqb b v) 1 0
  unfolding counted_in
  counted-one = go (ℕ_discrete a v) (ℕ_discrete b v)
    where
      go : Dec (a ≡ v) → Dec (b ≡ v) → get_or (raised_at (raised_at counts a 1) b (cond (eqb a b) 0 1)) v 0
          ≡ get_or counts v 0 + cond (eqb a v || eqb b v) 1 0
      go (yes p) (yes q) =
          let first : get_or (raised_at counts v 1) v 0 ≡ get_or counts v 0 + 1 =
          raised-same counts v 1 h (omega arith) in
          let again : get_or (raised_at (raised_at counts v 1) v 0) v 0 ≡ get_or (raised_at counts v 1) v 0 + 0 =
          raised-same (raised_at counts v 1) v 0
          (omega (arith, length-set counts v (min (get_or counts v 0 + 1) 65535)))
          (omega (arith, first)) in
          rw (p, q, eq-eqb v v refl) (omega (arith, again, first))
      go (yes p) (no q) =
          rw (p, ne_eqb b v q, eq-eqb v v refl)
          (raised-other (raised_at counts v 1) b v _ (λ e. q (sym e)) ∙ raised-same counts v 1 h (omega arith))
      go (no p) (yes q) =
          let same : get_or (raised_at counts a 1) v 0 ≡ get_or counts v 0 =
          raised-other counts a v 1 (λ e. p (sym e)) in
          let again : get_or (raised_at (raised_at counts a 1) v 1) v 0 ≡ get_or (raised_at counts a 1) v 0 + 1 =
          raised-same (raised_at counts a 1) v 1
          (omega (arith, length-set counts a (min (get_or counts a 0 + 1) 65535)))
          (omega (arith, same)) in
          rw (q, ne_eqb a v p, eq-eqb v v refl) (omega (arith, again, same))
      go (no p) (no q) =
          rw (ne_eqb a v p, ne_eqb b v q)
          (raised-other (raised_at counts a 1) b v _ (λ e. q (sym e)) ∙ raised-other counts a v 1 (λ e. p (sym e))
          ∙ omega arith)

-- a turn of the loop
pub counted_next : (j : ℕ) (t counts new : List ℕ) (a b : ℕ) → j < 65535 → length counts ≡ max_units
    → ((v : ℕ) → v < max_units → get_or counts v 0 ≡ counted_at j t v) → a ≡ end_a t j → b ≡ end_b t j →
    new ≡ counted_in counts a b
    → (v : ℕ) → v < max_units → get_or new v 0 ≡ counted_at (j + 1) t v
unfolding counted_at
counted_next j t counts new a b few full was p q put v h =
    let here : get_or counts v 0 ≡ count j (ends_at t v) = was v h in
    let low : get_or counts v 0 < 65535 = omega (arith, here, count_le j (ends_at t v)) in
    rw (put, add-one j) (counted-one counts a b v (omega (arith, full)) low ∙ rw (here, p, q) refl)

-- its end
pub counted-all : (i m : ℕ) (t : List ℕ) (v : ℕ) → i ≤ m → m ≤ i → counted_at i t v ≡ counted_at m t v
counted-all i m t v l g = rw (le_antisymm l g)

-- ---- the comparison

-- the test at one unit
abbrev pub wrong_at : ℕ → List ℕ → List ℕ → ℕ → Bool
wrong_at m t counts v = not (eqb (get_or counts v 0) (counted_at m t v))

pub miscounted-all : (m : ℕ) (t counts : List ℕ) (i : ℕ) (wrong : Bool) → wrong ≡ some i (wrong_at m t counts) →
    i ≤ max_units → max_units ≤ i
    → wrong ≡ miscounted m t counts
unfolding miscounted
miscounted-all m t counts i wrong e l g = e ∙ rw (le_antisymm l g) refl

abbrev pub Miscounted : ℕ → List ℕ → List ℕ → Type 0
Miscounted m t counts = (v : ℕ) × (v < max_units) × (get_or counts v 0 ≡ counted_at m t v → ⊥)

wrong_exact : (m : ℕ) (t counts : List ℕ) (v : ℕ) →
    (wrong_at m t counts v ≡ true) ↔ (get_or counts v 0 ≡ counted_at m t v → ⊥)
wrong_exact m t counts v =
    not_exact (eqb (get_or counts v 0) (counted_at m t v)) (
      eqb-true (get_or counts v 0) (counted_at m t v),
      eq-eqb (get_or counts v 0) (counted_at m t v),
    )

pub miscounted-exact : (m : ℕ) (t counts : List ℕ) → (miscounted m t counts ≡ true) ↔ Miscounted m t counts
unfolding miscounted
miscounted-exact m t counts = (
  λ e. let w = (some-exact max_units (wrong_at m t counts)).0 e in (w.0, w.1, (wrong_exact m t counts w.0).0 w.2),
  λ w. (some-exact max_units (wrong_at m t counts)).1 (w.0, w.1, (wrong_exact m t counts w.0).1 w.2),
)

-- counts are not miscounted
pub right-counted : (m : ℕ) (t : List ℕ) → miscounted m t (counts_to m t) ≡ false
right-counted m t = refuted (miscounted m t (counts_to m t))
    (λ e. let w = (miscounted-exact m t (counts_to m t)).0 e in w.2 (counts-at m t w.0 w.1))
