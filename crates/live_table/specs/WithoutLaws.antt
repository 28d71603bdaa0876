-- A list without some entries, by its entries; a table of links without one link, by its positions.
use Rattle.std.specs.Prelude.{◌≡◌, cond, List, ℕ, suc, ◌+◌, ◌-◌, ◌*◌, ◌≤◌, ◌<◌, ltb, length, get_or, take, drop, ℤ}
use Rattle.std.proofs.Common.{ap, ◌∙◌, arith, length-append, length-drop, length-take-le, get_or-take, get_or-drop}
use Rattle.std.proofs.Common.{get_or-append-add, lt-ltb, le-ltb}
use Rattle.std.proofs.Math.Decide.{dec_lt}
use Rattle.std.proofs.Math.ListN.{get_or-append}
use Rattle.table.specs.Table.{link_count, end_a, end_b}
use Rattle.live_table.specs.Live.{without}

module _ {A : Type 0} (at k : ℕ) (l : List A) (h : at + k ≤ length l) where
  pub length_without : length (without at k l) ≡ length l - k
  length_without =
      let e = length-append (take at l) (drop (at + k) l) in
      let p : length (take at l) ≡ at = length-take-le at l (omega arith) in
      omega (arith, e, p, length-drop (at + k) l)

  -- an entry before those that are gone, and one after them
  pub without-before : (i : ℕ) (d : A) → i < at → get_or (without at k l) i d ≡ get_or l i d
  without-before i d b =
      let p : length (take at l) ≡ at = length-take-le at l (omega arith) in
      get_or-append (take at l) (drop (at + k) l) d i (omega (arith, p)) ∙ get_or-take at l i d b

  pub without-after : (i : ℕ) (d : A) → at ≤ i → get_or (without at k l) i d ≡ get_or l (i + k) d
  without-after i d b =
      let p : length (take at l) ≡ at = length-take-le at l (omega arith) in
      let e : i ≡ length (take at l) + (i - at) = omega (arith, p) in
      let f : at + k + (i - at) ≡ i + k = omega arith in
      ap (λ (x : ℕ). get_or (without at k l) x d) e
      ∙ get_or-append-add (take at l) (drop (at + k) l) (i - at) d
      ∙ get_or-drop (at + k) l (i - at) d
      ∙ ap (λ (x : ℕ). get_or l x d) f

-- the position that a link had before the one at j was withdrawn: later ones have moved down by one
abbrev pub moved : ℕ → ℕ → ℕ
moved j k = cond (ltb k j) k (suc k)

pub moved-few : (j k m : ℕ) → j < m → k < m - 1 → moved j k < m
moved-few j k m h l = go (dec_lt k j)
  where
    go : Dec (k < j) → moved j k < m
    go (yes b) = rw (lt-ltb k j b) (omega arith)
    go (no b) = rw (le-ltb k j (omega arith)) (omega arith)

-- no two have come together
pub moved_apart : (j k i : ℕ) → (k ≡ i → ⊥) → moved j k ≡ moved j i → ⊥
moved_apart j k i n = go (dec_lt k j) (dec_lt i j)
  where
    go : Dec (k < j) → Dec (i < j) → moved j k ≡ moved j i → ⊥
    go (yes b) (yes c) = rw (lt-ltb k j b, lt-ltb i j c) n
    go (yes b) (no c) = rw (lt-ltb k j b, le-ltb i j (omega arith)) (λ e. omega arith)
    go (no b) (yes c) = rw (le-ltb k j (omega arith), lt-ltb i j c) (λ e. omega arith)
    go (no b) (no c) = rw (le-ltb k j (omega arith), le-ltb i j (omega arith)) (λ e. n (omega arith))

module _ (t : List ℕ) (j : ℕ) (h : j < link_count t) where
  few : 2 * j + 2 ≤ length t
  few = omega arith

  pub length-less : length (without (2 * j) 2 t) ≡ length t - 2
  length-less = length_without (2 * j) 2 t few

  pub links-less : link_count (without (2 * j) 2 t) ≡ link_count t - 1
  links-less = omega (arith, length-less)

  pub ends-moved : (k : ℕ) → (end_a (without (2 * j) 2 t) k ≡ end_a t (moved j k))
      × (end_b (without (2 * j) 2 t) k ≡ end_b t (moved j k))
  ends-moved k = go (dec_lt k j)
    where
      go : Dec (k < j) → (end_a (without (2 * j) 2 t) k ≡ end_a t (moved j k))
          × (end_b (without (2 * j) 2 t) k ≡ end_b t (moved j k))
      go (yes b) = rw (lt-ltb k j b) (
        without-before (2 * j) 2 t few (2 * k) 0 (omega arith),
        without-before (2 * j) 2 t few (2 * k + 1) 0 (omega arith),
      )
      go (no b) =
          let e : 2 * k + 2 ≡ 2 * suc k = omega arith in
          let f : 2 * k + 1 + 2 ≡ 2 * suc k + 1 = omega arith in
          rw (le-ltb k j (omega arith)) (
            without-after (2 * j) 2 t few (2 * k) 0 (omega arith) ∙ ap (λ (x : ℕ). get_or t x 0) e,
            without-after (2 * j) 2 t few (2 * k + 1) 0 (omega arith) ∙ ap (λ (x : ℕ). get_or t x 0) f,
          )

pub level-moved : (ls : List ℤ) (j : ℕ) → j < length ls → (k : ℕ) (d : ℤ) →
    get_or (without j 1 ls) k d ≡ get_or ls (moved j k) d
level-moved ls j h k d = go (dec_lt k j)
  where
    go : Dec (k < j) → get_or (without j 1 ls) k d ≡ get_or ls (moved j k) d
    go (yes b) = rw (lt-ltb k j b) (without-before j 1 ls (omega arith) k d b)
    go (no b) =
        let e : k + 1 ≡ suc k = omega arith in
        rw (le-ltb k j (omega arith)) (without-after j 1 ls (omega arith) k d (omega arith)
        ∙ ap (λ (x : ℕ). get_or ls x d) e)
