-- The joins of the auxiliary graph that count, as a table of pairs: what a unit hears over the pairs is what it hears
-- over the joins.
use Rattle.std.specs.Prelude.{◌≡◌, refl, Bool, true, false, cond, ◌⊎◌, List, length, set}
use Rattle.std.proofs.Common.{sym, ap, ◌∙◌, inl, inr, add-one, arith, length-set, get_or-set_same, get_or-set_other}
use Prim.Native.Nat.{ℕ, ◌+◌, ◌*◌, ◌≤◌, ◌<◌, min}
use Rattle.base_lists.specs.Folds.{least}
use Rattle.base_lists.specs.FoldLaws.{fold_cong}
use Rattle.base_lists.specs.Tests.{either}
use Rattle.table.specs.Table.{end_a, end_b}
use Rattle.spec_rules.specs.Basics.{at, heard}
use Rattle.spec_rules.specs.Components.{least_heard}
use Rattle.spec_rules.specs.Aux.{joined, heard_over}
use Rattle.leap_tests.specs.Settling.{heard-own}

-- what v has heard over the joins of the first j links
unfoldable pub links_heard : ℕ → List ℕ → List ℕ → List ℕ → List ℕ → ℕ → ℕ
links_heard j ends parent linked value v =
    least j (λ (i : ℕ). heard_over parent value (at linked i) (end_a ends i) (end_b ends i) v) (at value v)

-- and over the joins of the first k units with their parents
unfoldable pub joins_heard : ℕ → ℕ → List ℕ → List ℕ → List ℕ → List ℕ → List ℕ → ℕ → ℕ
joins_heard k m ends parent linked parents value v =
    least k (λ (u : ℕ). heard_over parent value (at parents u) u (at parent u) v)
    (links_heard m ends parent linked value v)

-- over so many pairs each unit hears what f says
abbrev pub Hears : ℕ → List ℕ → (List ℕ → ℕ → ℕ) → Type 0
Hears c pairs f = (value : List ℕ) (v : ℕ) → least_heard c pairs value v ≡ f value v

-- ---- one join more

-- pairs stored after the first c are not heard
stored_same : (c a b : ℕ) (pairs new : List ℕ) → new ≡ set (set pairs (2 * c) a) (2 * c + 1) b → (i : ℕ) → i < 2 * c →
    at new i ≡ at pairs i
stored_same c a b pairs new put i h =
    rw (
      put,
      get_or-set_other (set pairs (2 * c) a) (2 * c + 1) i b 0 (omega (arith, h)),
      get_or-set_other pairs (2 * c) i a 0 (omega (arith, h)),
    ) refl

stored-heard : (c a b : ℕ) (pairs new : List ℕ) → new ≡ set (set pairs (2 * c) a) (2 * c + 1) b →
    (value : List ℕ) (v : ℕ)
    → least_heard c new value v ≡ least_heard c pairs value v
unfolding least_heard
stored-heard c a b pairs new put value v =
    fold_cong min c (λ (i : ℕ). heard value (end_a new i) (end_b new i) v)
    (λ (i : ℕ). heard value (end_a pairs i) (end_b pairs i) v) (at value v)
    (λ (i : ℕ) (h : i < c). rw (
      stored_same c a b pairs new put (2 * i) (omega arith),
      stored_same c a b pairs new put (2 * i + 1) (omega arith),
    ) refl)

stored-first : (c a b : ℕ) (pairs new : List ℕ) → new ≡ set (set pairs (2 * c) a) (2 * c + 1) b →
    2 * c + 2 ≤ length pairs → end_a new c ≡ a
stored-first c a b pairs new put room =
    rw (put, get_or-set_other (set pairs (2 * c) a) (2 * c + 1) (2 * c) b 0 (omega arith))
    (get_or-set_same pairs (2 * c) a 0 (omega arith))

stored-second : (c a b : ℕ) (pairs new : List ℕ) → new ≡ set (set pairs (2 * c) a) (2 * c + 1) b →
    2 * c + 2 ≤ length pairs → end_b new c ≡ b
stored-second c a b pairs new put room =
    rw put (get_or-set_same (set pairs (2 * c) a) (2 * c + 1) b 0 (omega (arith, room, length-set pairs (2 * c) a)))

module _ (parent : List ℕ) (c mark a b : ℕ) (pairs new : List ℕ) (f : List ℕ → ℕ → ℕ) (was : Hears c pairs f) where
  -- no more than its own value is heard
  own : (value : List ℕ) (v : ℕ) → f value v ≤ at value v
  own value v = rw (sym (was value v)) (heard-own c pairs value v)

  -- a join that is not marked
  pub pairs-skip : mark ≡ 0 → Hears c pairs
      (λ (value : List ℕ) (v : ℕ). min (f value v) (heard_over parent value mark a b v))
  pairs-skip e value v = was value v ∙ rw e (omega (arith, own value v))

  pushed : new ≡ set (set pairs (2 * c) a) (2 * c + 1) b → 2 * c + 2 ≤ length pairs → (value : List ℕ) (v : ℕ)
      → least_heard (c + 1) new value v ≡ min (f value v) (heard value a b v)
  unfolding least_heard
  pushed put room value v =
      rw (add-one c, stored-first c a b pairs new put room, stored-second c a b pairs new put room)
      (ap (λ (x : ℕ). min x (heard value a b v)) (stored-heard c a b pairs new put value v ∙ was value v))

  -- a join that is, stored, and counted where it counts
  pub pairs_push : new ≡ set (set pairs (2 * c) a) (2 * c + 1) b → 2 * c + 2 ≤ length pairs → (c' : ℕ) →
      c' ≡ cond (joined parent mark a b) (c + 1) c
      → Hears c' new (λ (value : List ℕ) (v : ℕ). min (f value v) (heard_over parent value mark a b v))
  pairs_push put room c' is value v = go (either (joined parent mark a b))
    where
      go : (joined parent mark a b ≡ true) ⊎ (joined parent mark a b ≡ false)
          → least_heard c' new value v
          ≡ min (f value v) (cond (joined parent mark a b) (heard value a b v) (at value v))
      go (inl e) =
          let more : c' ≡ c + 1 = rw e at is in
          rw (e, more) (pushed put room value v)
      go (inr e) =
          let same : c' ≡ c = rw e at is in
          rw (e, same) (stored-heard c a b pairs new put value v ∙ was value v ∙ omega (arith, own value v))

-- ---- loops over links and units

pub links-begin : (ends parent linked pairs : List ℕ) → Hears 0 pairs (links_heard 0 ends parent linked)
unfolding least_heard links_heard
links-begin ends parent linked pairs value v = refl

pub links-next : (c j : ℕ) (ends parent linked pairs : List ℕ)
    → Hears c pairs (λ (value : List ℕ) (v : ℕ). min (links_heard j ends parent linked value v)
    (heard_over parent value (at linked j) (end_a ends j) (end_b ends j) v))
    → Hears c pairs (links_heard (j + 1) ends parent linked)
unfolding links_heard
links-next c j ends parent linked pairs h value v = rw (add-one j) (h value v)

pub joins-begin : (c m : ℕ) (ends parent linked parents pairs : List ℕ) →
    Hears c pairs (links_heard m ends parent linked)
    → Hears c pairs (joins_heard 0 m ends parent linked parents)
unfolding joins_heard
joins-begin c m ends parent linked parents pairs h value v = h value v

pub joins-next : (c k m : ℕ) (ends parent linked parents pairs : List ℕ)
    → Hears c pairs (λ (value : List ℕ) (v : ℕ). min (joins_heard k m ends parent linked parents value v)
    (heard_over parent value (at parents k) k (at parent k) v))
    → Hears c pairs (joins_heard (k + 1) m ends parent linked parents)
unfolding joins_heard
joins-next c k m ends parent linked parents pairs h value v = rw (add-one k) (h value v)

-- a count with one more, or not
pub counted-few : (test : Bool) (c c' : ℕ) → c' ≡ cond test (c + 1) c → c' ≤ c + 1
counted-few true c c' e = omega (arith, e)
counted-few false c c' e = omega (arith, e)
