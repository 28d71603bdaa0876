-- Words as a loop meets them.
use Rattle.std.specs.Prelude.{◌≡◌, Bool, ◌&&◌, List, [], ◌∷◌, ℕ, suc, ◌+◌, ◌*◌, ◌-◌, ◌≤◌, ◌<◌, eqb, leb, length, get_or}
use Rattle.std.specs.Prelude.{drop}
use Rattle.std.proofs.Math.Path.{refl}
use Rattle.std.proofs.Common.{ap, arith, drop_of_length-le}
use Rattle.std.proofs.Math.Bool.{true, false, cond}
use borrow.Author.Tests.{eq-eqb, ne_eqb, leb-true}
use Rattle.base_lists.specs.Rests.{rest-one}
use Rattle.base_lists.specs.Tests.{and_right}
use Rattle.ask_arguments.specs.Arguments.{NONE, goes, value_in, same}

goes-fits : (v c : ℕ) → goes v c ≡ true → 10 * v + (c - 48) ≤ 65535
goes-fits v c e =
    leb-true (10 * v + (c - 48)) 65535
    (and_right (leb c 57) (leb (10 * v + (c - 48)) 65535) (and_right (leb 48 c) _ e))

-- one digit more
module _ (w : List ℕ) (i v : ℕ) (inside : i < length w) where
  pub value-more : (next : ℕ) → next ≡ cond (goes v (get_or w i 0)) (10 * v + (get_or w i 0 - 48)) NONE → next ≤ 65535 →
      value_in v (drop i w) ≡ value_in next (drop (i + 1) w)
  unfolding value_in
  value-more next e h = rw (rest-one w i 0 inside) (go (goes v (get_or w i 0)) e)
    where
      go : (b : Bool) → next ≡ cond b (10 * v + (get_or w i 0 - 48)) NONE →
          cond b (value_in (10 * v + (get_or w i 0 - 48)) (drop (i + 1) w)) NONE ≡ value_in next (drop (i + 1) w)
      go true q = rw q refl
      go false q = absurd (omega (arith, q, h))

  pub value-ends : (next : ℕ) → next ≡ cond (goes v (get_or w i 0)) (10 * v + (get_or w i 0 - 48)) NONE → 65535 < next →
      NONE ≡ value_in v (drop i w)
  unfolding value_in
  value-ends next e h = rw (rest-one w i 0 inside) (go (goes v (get_or w i 0)) refl e)
    where
      go : (b : Bool) → goes v (get_or w i 0) ≡ b → next ≡ cond b (10 * v + (get_or w i 0 - 48)) NONE →
          NONE ≡ cond b (value_in (10 * v + (get_or w i 0 - 48)) (drop (i + 1) w)) NONE
      go true g q = absurd (omega (arith, q, h, goes-fits v (get_or w i 0) g))
      go false g q = refl

pub value-all : (w : List ℕ) (i v : ℕ) → length w ≤ i → value_in v (drop i w) ≡ v
unfolding value_in
value-all w i v h = rw (drop_of_length-le w h) refl

-- ---- two words

pub same-long : (w n : List ℕ) → (length w ≡ length n → ⊥) → same w n ≡ false
unfolding same
same-long [] [] h = absurd (h refl)
same-long [] (y ∷ n) h = refl
same-long (x ∷ w) [] h = refl
same-long (x ∷ w) (y ∷ n) h = go (eqb x y) (same-long w n (λ e. h (ap suc e)))
  where
    go : (b : Bool) → same w n ≡ false → (b && same w n) ≡ false
    go true e = e
    go false e = refl

module _ (w n : List ℕ) (i : ℕ) (left : i < length w) (right : i < length n) where
  pub same_more : get_or w i 0 ≡ get_or n i 0 → same (drop i w) (drop i n) ≡ same (drop (i + 1) w) (drop (i + 1) n)
  unfolding same
  same_more e = rw (rest-one w i 0 left, rest-one n i 0 right, eq-eqb (get_or w i 0) (get_or n i 0) e) refl

  pub same_ends_lem : (get_or w i 0 ≡ get_or n i 0 → ⊥) → same (drop i w) (drop i n) ≡ false
  unfolding same
  same_ends_lem h = rw (rest-one w i 0 left, rest-one n i 0 right, ne_eqb (get_or w i 0) (get_or n i 0) h) refl

pub same-all : (w n : List ℕ) (i : ℕ) → length w ≤ i → length n ≤ i → same (drop i w) (drop i n) ≡ true
unfolding same
same-all w n i h k = rw (drop_of_length-le w h, drop_of_length-le n k) refl
