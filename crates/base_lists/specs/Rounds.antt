-- A table after a round, as loops make it: entry by entry, or from another table; and how to tell one by its entries.
use Rattle.std.specs.Prelude.{◌≡◌, refl, List, ℕ, ◌+◌, ◌*◌, ◌≤◌, ◌<◌, min, length, get_or, set}
use Rattle.std.proofs.Common.{sym, ◌∙◌, le_antisymm, add-one, arith, ext_get_or}
use Rattle.std.proofs.Math.Decide.{dec_lt}
use Rattle.std.proofs.Math.Seq.{set_out}
use Rattle.base_lists.specs.Tables.{over, set-over, length_over, get_d_over, get_d_over_past}

module _ {ℓ} {A : Type ℓ} where
  -- a turn of a loop that fills a table in order
  pub over-more : (n : ℕ) (f : ℕ → A) (old t new : List A) (x : A) → t ≡ over n f old → x ≡ f n → new ≡ set t n x
      → new ≡ over (n + 1) f old
  over-more n f old t new x was is put = rw (put, was, is, add-one) (set-over n f old)

  -- such a loop's end
  pub over-all : (i n : ℕ) (f : ℕ → A) (old : List A) → i ≤ n → n ≤ i → over i f old ≡ over n f old
  over-all i n f old l g = rw (le_antisymm l g)

  -- a table by its entries
  pub over_ext : (d : A) (n : ℕ) (f : ℕ → A) (old t : List A) → length t ≡ length old
      → ((i : ℕ) → i < n → i < length old → get_or t i d ≡ f i)
      → ((i : ℕ) → n ≤ i → i < length old → get_or t i d ≡ get_or old i d)
      → t ≡ over n f old
  over_ext d n f old t same below past = ext_get_or d t (over n f old) (same ∙ sym (length_over n f old)) at
    where
      go : (i : ℕ) → i < length old → Dec (i < n) → get_or t i d ≡ get_or (over n f old) i d
      go i l (yes h) = below i h l ∙ sym (get_d_over n f old i d h l)
      go i l (no h) = past i (omega arith) l ∙ sym (get_d_over_past n f old i d (omega arith))

      at : (i : ℕ) → i < length t → get_or t i d ≡ get_or (over n f old) i d
      at i l = go i (omega (arith, same)) (dec_lt i n)

  -- equal where the table has entries
  pub over_cong_in : (d : A) (n : ℕ) (f g : ℕ → A) (old : List A) → ((i : ℕ) → i < n → i < length old → f i ≡ g i)
      → over n f old ≡ over n g old
  over_cong_in d n f g old h =
      over_ext d n g old (over n f old) (length_over n f old)
      (λ (i : ℕ) (l : i < n) (m : i < length old). get_d_over n f old i d l m ∙ h i l m)
      (λ (i : ℕ) (l : n ≤ i) (m : i < length old). get_d_over_past n f old i d l)

  -- a round that gives each entry what it has
  pub over-same : (d : A) (n : ℕ) (f : ℕ → A) (old : List A) → ((i : ℕ) → i < n → get_or old i d ≡ f i) →
      old ≡ over n f old
  over-same d n f old h =
      over_ext d n f old old refl (λ (i : ℕ) (l : i < n) (m : i < length old). h i l)
      (λ (i : ℕ) (l : n ≤ i) (m : i < length old). refl)

  -- a turn of a loop that fills a table in order, right where the table has the entry
  over-more_in : (n : ℕ) (f : ℕ → A) (old t new : List A) (x : A) → t ≡ over n f old → (n < length old → x ≡ f n) →
      new ≡ set t n x
      → new ≡ over (n + 1) f old
  over-more_in n f old t new x was is put = go (dec_lt n (length old))
    where
      go : Dec (n < length old) → new ≡ over (n + 1) f old
      go (yes l) = over-more n f old t new x was (is l) put
      go (no h) =
          rw (put, was, set_out (over n f old) n x (omega (arith, length_over n f old)), add-one)
          (sym (set_out (over n f old) n (f n) (omega (arith, length_over n f old))) ∙ set-over n f old)

  -- a turn that fills two entries
  pub over-pair : (v : ℕ) (f : ℕ → A) (old t new : List A) (x y : A) → t ≡ over (2 * v) f old →
      (2 * v < length old → x ≡ f (2 * v))
      → (2 * v + 1 < length old → y ≡ f (2 * v + 1)) → new ≡ set (set t (2 * v) x) (2 * v + 1) y →
      new ≡ over (2 * (v + 1)) f old
  over-pair v f old t new x y was is is' put =
      let e : 2 * (v + 1) ≡ 2 * v + 1 + 1 = omega arith in
      rw e (over-more_in (2 * v + 1) f old (set t (2 * v) x) new y
      (over-more_in (2 * v) f old t (set t (2 * v) x) x was is refl) is' put)

-- a pass that stops at the table's end makes the whole round
pub over-least : (n m : ℕ) (f : ℕ → ℕ) (old t : List ℕ) → length old ≤ m → t ≡ over (min n m) f old → t ≡ over n f old
over-least n m f old t full was =
    rw was
    (over_ext 0 n f old (over (min n m) f old) (length_over (min n m) f old)
    (λ (i : ℕ) (h : i < n) (l : i < length old). get_d_over (min n m) f old i 0 (omega arith) l)
    (λ (i : ℕ) (h : n ≤ i) (l : i < length old). get_d_over_past (min n m) f old i 0 (omega arith)))
