-- The bits that all labels at a unit have, and those that any has. A single point is a unit where they differ: one pass
-- over the links finds them, by one operation a table, where the definition goes over pairs of links.
use Rattle.std.specs.Prelude.{◌≡◌, ℕ, ◌+◌, ◌<◌, ◌≤◌, Bool, true, false, cond, not, ◌&&◌, ◌||◌, ltb, ◌⊎◌, List, length}
use Rattle.std.specs.Prelude.{replicate, ◌==◌, bit_and, bit_or, nat_eq, nat_lt, slice_index, slice_set}
use Rattle.std.proofs.Math.Path.{refl}
use Rattle.std.proofs.Common.{sym, ◌∙◌, inl, inr, add-one, arith, length-set, get_or-set_same, get_or-set_other}
use Rattle.std.proofs.Math.Decide.{ℕ_discrete}
use Rattle.std.proofs.lemmas.Nat.{and_comm}
use Rattle.std.specs.Int.Bits.{and_self, or_self, or_zero_l, or_zero_r}
use Rattle.std.proofs.lemmas.List.{length-replicate, get_or-replicate}
use borrow.Author.Tests.{eq-eqb, ne_eqb, eqb-false, lt-ltb, ltb-true, not-true}
use Rattle.base_lists.specs.Tests.{either, and_left, and_right, and-true, cond_true, cond_false, not_both, same_test}
use Rattle.base_lists.specs.Folds.{fold, some}
use Rattle.base_lists.specs.Some.{some-exact, some-none}
use Rattle.table.specs.Table.{end_a, end_b}
use Rattle.spec_rules.specs.Basics.{ABSENT, at}
use Rattle.spec_rules.specs.Labels.{touches, single}
use Rattle.report_flags.specs.BitFolds.{and_again, or_again, and_word, all_start, all_le, any_ge, fold-one}

-- the bits that any has, or that all have, and what they are of none
abbrev pub op_of : Bool → ℕ → ℕ → ℕ
op_of true = bit_or
op_of false = bit_and

abbrev pub start_of : Bool → ℕ
start_of true = 0
start_of false = ABSENT

-- of the labels at u among the first m links
unfoldable pub label_bits : Bool → ℕ → List ℕ → List ℕ → ℕ → ℕ
label_bits b m ends label u =
    fold (op_of b) m (λ (j : ℕ). cond (touches ends u j) (at label j) (start_of b)) (start_of b)

-- ---- one link more

pub label_bits-none : (b : Bool) (ends label : List ℕ) (u : ℕ) → label_bits b 0 ends label u ≡ start_of b
unfolding label_bits
label_bits-none b ends label u = refl

pub label_bits-more : (b : Bool) (k : ℕ) (ends label : List ℕ) (u : ℕ)
    → op_of b (label_bits b k ends label u) (cond (touches ends u k) (at label k) (start_of b))
    ≡ label_bits b (k + 1) ends label u
unfolding label_bits
label_bits-more b k ends label u = rw (add-one k)

-- ---- single points

module _ (m : ℕ) (ends label : List ℕ) (u : ℕ) (words : (i : ℕ) → at label i ≤ ABSENT) where
  abbrev T : ℕ → Bool
  T j = touches ends u j

  abbrev other : ℕ → ℕ → Bool
  other j k = T k && not (at label k == at label j)

  abbrev low : ℕ
  low = label_bits false m ends label u

  abbrev high : ℕ
  high = label_bits true m ends label u

  below : (j : ℕ) → j < m → T j ≡ true → low ≤ at label j
  unfolding label_bits
  below j l t =
      let f : ℕ → ℕ = λ (i : ℕ). cond (T i) (at label i) ABSENT in
      let e : f j ≡ at label j = cond_true (T j) (at label j) ABSENT t in
      omega (arith, all_le m f ABSENT j l)

  above : (j : ℕ) → j < m → T j ≡ true → at label j ≤ high
  unfolding label_bits
  above j l t =
      let f : ℕ → ℕ = λ (i : ℕ). cond (T i) (at label i) 0 in
      let e : f j ≡ at label j = cond_true (T j) (at label j) 0 t in
      omega (arith, any_ge m f 0 j l)

  spread : single m ends label u ≡ true → nat_lt low high ≡ true
  unfolding single
  spread e =
      let w = (some-exact m (λ (j : ℕ). T j && some m (other j))).0 e in
      let j = w.0 in
      let tj = and_left (T j) (some m (other j)) w.2 in
      let v = (some-exact m (other j)).0 (and_right (T j) (some m (other j)) w.2) in
      let k = v.0 in
      let tk = and_left (T k) (not (at label k == at label j)) v.2 in
      let other-label : nat_eq (at label k) (at label j) ≡ false =
      not-true (at label k == at label j) (and_right (T k) (not (at label k == at label j)) v.2) in
      let d : at label k ≡ at label j → ⊥ = eqb-false (at label k) (at label j) other-label in
      lt-ltb low high (omega (arith, d, below j w.1 tj, below k v.1 tk, above j w.1 tj, above k v.1 tk))

  -- where all labels are y there is nothing between the two
  level : (y : ℕ) → y ≤ ABSENT → ((i : ℕ) → i < m → T i ≡ true → at label i ≡ y) → low < high → ⊥
  unfolding label_bits
  level y w same less = go (fold-one bit_and ABSENT y (and_self ABSENT) (and_comm ABSENT y
      ∙ and_word y w) (and_word y w) (and_self y) m (value ABSENT) (λ i l. pick ABSENT i l (either (T i))))
      (fold-one bit_or 0 y refl (or_zero_l y) (or_zero_r y) (or_self y) m (value 0) (λ i l. pick 0 i l (either (T i))))
    where
      value : ℕ → ℕ → ℕ
      value s i = cond (T i) (at label i) s

      pick : (s i : ℕ) → i < m → (T i ≡ true) ⊎ (T i ≡ false) → (value s i ≡ s) ⊎ (value s i ≡ y)
      pick s i l (inl t) = inr (cond_true (T i) (at label i) s t ∙ same i l t)
      pick s i l (inr t) = inl (cond_false (T i) (at label i) s t)

      go : (low ≡ ABSENT) ⊎ (low ≡ y) → (high ≡ 0) ⊎ (high ≡ y) → ⊥
      go (inl e) (inl g) = omega (arith, e, g)
      go (inl e) (inr g) = omega (arith, e, g)
      go (inr e) (inl g) = omega (arith, e, g)
      go (inr e) (inr g) = omega (arith, e, g)

  meets : ltb low high ≡ true → single m ends label u ≡ true
  unfolding single
  meets e = first (either (some m T))
    where
      less : low < high
      less = ltb-true low high e

      met : ℕ → Bool
      met i = T i && some m (other i)

      first : (some m T ≡ true) ⊎ (some m T ≡ false) → some m met ≡ true
      first (inr none) = absurd (level 0 (omega arith)
          (λ i l t. absurd (not_both (T i) t (some-none m T none i l))) less)
      first (inl found) = second (either (some m (other j)))
        where
          w : (i : ℕ) × (i < m) × (T i ≡ true)
          w = (some-exact m T).0 found

          j : ℕ
          j = w.0

          equal : (i : ℕ) → T i ≡ true → other j i ≡ false → Dec (at label i ≡ at label j) → at label i ≡ at label j
          equal i t n (yes q) = q
          equal i t n (no q) =
              let differ : not (at label i == at label j) ≡ true = rw (ne_eqb (at label i) (at label j) q) in
              absurd (not_both (other j i) (and-true (T i) (not (at label i == at label j)) t differ) n)

          second : (some m (other j) ≡ true) ⊎ (some m (other j) ≡ false) → some m met ≡ true
          second (inl h) = (some-exact m met).1 (j, w.1, and-true (T j) (some m (other j)) w.2 h)
          second (inr none) = absurd (level (at label j) (words j)
              (λ i l t. equal i t (some-none m (other j) none i l) (ℕ_discrete (at label i) (at label j))) less)

  pub single-bits : ltb low high ≡ single m ends label u
  single-bits = same_test (nat_lt low high) (single m ends label u) meets spread

-- ---- a table of bits, an entry a unit

abbrev PLACES : ℕ
PLACES = 256

-- entry a takes in x
abbrev pub takes_in : Bool → List ℕ → ℕ → ℕ → List ℕ
takes_in b t a x = slice_set t a (op_of b (slice_index t a) x)

takes_at : (b : Bool) (t : List ℕ) (a x u : ℕ) → u < length t → Dec (a ≡ u)
    → slice_index (takes_in b t a x) u ≡ cond (a == u) (op_of b (slice_index t u) x) (slice_index t u)
takes_at b t a x u h (yes e) = rw (eq-eqb a u e, e, get_or-set_same t u (op_of b (slice_index t u) x) 0 h)
takes_at b t a x u h (no n) = rw (ne_eqb a u n, get_or-set_other t a u (op_of b (slice_index t a) x) 0 (λ q. n (sym q)))

-- an end that takes in the label twice, and one that takes in none
op_twice : (b : Bool) (x y : ℕ) → op_of b (op_of b x y) y ≡ op_of b x y
op_twice true x y = or_again x y
op_twice false x y = and_again x y

label_bits-start : (b : Bool) (m : ℕ) (ends label : List ℕ) (u : ℕ) →
    op_of b (label_bits b m ends label u) (start_of b) ≡ label_bits b m ends label u
unfolding label_bits
label_bits-start true m ends label u = or_zero_r (label_bits true m ends label u)
label_bits-start false m ends label u =
    and_word (label_bits false m ends label u)
    (all_start m (λ (j : ℕ). cond (touches ends u j) (at label j) ABSENT) ABSENT)

-- both ends of a link
pair : (b : Bool) (z x s a c u : ℕ) → op_of b z s ≡ z → Dec (a ≡ u) → Dec (c ≡ u)
    → cond (c == u) (op_of b (cond (a == u) (op_of b z x) z) x) (cond (a == u) (op_of b z x) z)
    ≡ op_of b z (cond (a == u || c == u) x s)
pair b z x s a c u own (yes p) (yes q) = rw (eq-eqb a u p, eq-eqb c u q) (op_twice b z x)
pair b z x s a c u own (yes p) (no q) = rw (eq-eqb a u p, ne_eqb c u q)
pair b z x s a c u own (no p) (yes q) = rw (ne_eqb a u p, eq-eqb c u q)
pair b z x s a c u own (no p) (no q) = rw (ne_eqb a u p, ne_eqb c u q) (sym own)

-- a table's entry is the bits of its unit over the first m links
pub record BitTable (b : Bool) (m : ℕ) (ends label t : List ℕ) : Type 0 where
  pub long : length t ≡ PLACES
  pub known : (u : ℕ) → u < PLACES → slice_index t u ≡ label_bits b m ends label u

pub bits_none : (b : Bool) (ends label : List ℕ) → BitTable b 0 ends label (replicate PLACES (start_of b))
bits_none b ends label = record {
  long = length-replicate {A = ℕ} PLACES (start_of b);
  known = λ u h. get_or-replicate PLACES u (start_of b) 0 h ∙ sym (label_bits-none b ends label u);
}

module _ (b : Bool) (k : ℕ) (ends label t : List ℕ) (was : BitTable b k ends label t) where
  abbrev once : List ℕ
  once = takes_in b t (end_a ends k) (at label k)

  abbrev twice : List ℕ
  twice = takes_in b once (end_b ends k) (at label k)

  once-long : length once ≡ PLACES
  once-long = length-set t (end_a ends k) (op_of b (slice_index t (end_a ends k)) (at label k)) ∙ was.long

  twice-at : (u : ℕ) → u < PLACES → slice_index twice u ≡ label_bits b (k + 1) ends label u
  twice-at u h =
      let a = end_a ends k in
      let c = end_b ends k in
      let x = at label k in
      rw (
        takes_at b once c x u (omega (arith, once-long)) (ℕ_discrete c u),
        takes_at b t a x u (omega (arith, was.long)) (ℕ_discrete a u),
        was.known u h,
        pair b (label_bits b k ends label u) x (start_of b) a c u (label_bits-start b k ends label u) (ℕ_discrete a u)
            (ℕ_discrete c u),
      ) (label_bits-more b k ends label u)

  -- link k is taken in by both of its ends
  pub bits-more : BitTable b (k + 1) ends label
      (takes_in b (takes_in b t (end_a ends k) (at label k)) (end_b ends k) (at label k))
  bits-more = record {
    long = length-set once (end_b ends k) (op_of b (slice_index once (end_b ends k)) (at label k)) ∙ once-long;
    known = twice-at;
  }
