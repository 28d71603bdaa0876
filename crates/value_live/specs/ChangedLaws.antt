-- Words and levels as the changes lay them down: one link more, and one less.
use Rattle.std.specs.Prelude.{◌≡◌, refl, List, [], ◌∷◌, ◌++◌, ℕ, ◌+◌, ◌-◌, ◌≤◌, ◌<◌, length, get_or, set, take, drop, ℤ}
use Rattle.std.proofs.Common.{sym, ap, ◌∙◌, append_assoc, add-one, arith, length-set, take-append-drop, length-take-le}
use Rattle.std.proofs.Common.{take_all, take_at, take-suc-set, get_or-take, ext_get_or}
use Rattle.std.proofs.Math.Decide.{dec_lt}
use Rattle.spec_state.specs.declared.groups.Table.{Table}
use Rattle.spec_machine.specs.Load.{table_of}
use Rattle.spec_machine.specs.LoadLaws.{copy_one}
use Rattle.live_table.specs.Counts.{counts_to}
use Rattle.live_table.specs.Live.{Live, live_of, without}
use Rattle.live_table.specs.WithoutLaws.{length_without, without-before, without-after}

-- ---- one more

pub more-levels : {A : Type 0} (l : List A) (m : ℕ) (x : A) → m < length l →
    take (m + 1) (set l m x) ≡ take m l ++ x ∷ []
more-levels l m x h = rw (add-one m) (take-suc-set l m x h)

pub more-words : (l : List ℕ) (m a b : ℕ) → m + 1 < length l →
    take (m + 2) (set (set l m a) (m + 1) b) ≡ take m l ++ a ∷ b ∷ []
more-words l m a b h =
    let e : m + 2 ≡ m + 1 + 1 = omega arith in
    rw e
    (more-levels (set l m a) (m + 1) b (omega (arith, length-set l m a))
    ∙ ap (λ (x : List ℕ). x ++ b ∷ []) (more-levels l m a (omega arith))
    ∙ append_assoc (take m l) (a ∷ []) (b ∷ []))

-- ---- some less: the entries from a place on moved down by k, one at a time

module _ {A : Type 0} (at k : ℕ) (l : List A) where
  pub close-start : at ≤ length l → l ≡ take at (without at k l) ++ drop at l
  close-start h = sym (ap (λ (x : List A). x ++ drop at l)
      (take_at (take at l) (drop (at + k) l) at (length-take-le at l h)) ∙ take-append-drop at l)

  pub close-next : (i : ℕ) (d : A) → at ≤ i → i + k < length l
      → set (take i (without at k l) ++ drop i l) i (get_or l (i + k) d) ≡ take (i + 1) (without at k l)
      ++ drop (i + 1) l
  close-next i d b h =
      let long = length_without at k l (omega arith) in
      ap (λ (x : A). set (take i (without at k l) ++ drop i l) i x) (sym (without-after at k l (omega arith) i d b))
      ∙ copy_one (without at k l) l i d (omega (arith, long)) (omega (arith, long))

  front : (count : ℕ) → A → at + k ≤ count → count ≤ length l →
      take (count - k) (without at k l) ≡ without at k (take count l)
  front count d b h =
      ext_get_or d (take (count - k) (without at k l)) (without at k (take count l)) (few ∙ sym fewer)
      (λ (i : ℕ) (c : i < length (take (count - k) (without at k l))). let f : i
      < count - k = omega (arith, few) in get_or-take (count - k) (without at k l) i d f ∙ same i f (dec_lt i at))
    where
      part : length (take count l) ≡ count
      part = length-take-le count l h

      few : length (take (count - k) (without at k l)) ≡ count - k
      few = length-take-le (count - k) (without at k l) (omega (arith, length_without at k l (omega arith)))

      fewer : length (without at k (take count l)) ≡ count - k
      fewer = length_without at k (take count l) (omega (arith, part)) ∙ omega (arith, part)

      same : (i : ℕ) → i < count - k → Dec (i < at) → get_or (without at k l) i d
          ≡ get_or (without at k (take count l)) i d
      same i f (yes c) =
          without-before at k l (omega arith) i d c
          ∙ sym (without-before at k (take count l) (omega (arith, part)) i d c ∙ get_or-take count l i d (omega arith))
      same i f (no c) =
          without-after at k l (omega arith) i d (omega arith)
          ∙ sym (without-after at k (take count l) (omega (arith, part)) i d (omega arith)
          ∙ get_or-take count l (i + k) d (omega arith))

  pub close-end : (i count : ℕ) → A → i + k ≡ count → at + k ≤ count → count ≤ length l
      → take (count - k) (take i (without at k l) ++ drop i l) ≡ without at k (take count l)
  close-end i count d e b h =
      let long = length_without at k l (omega arith) in
      let same : i ≡ count - k = omega arith in
      take_at (take i (without at k l)) (drop i l) (count - k) (length-take-le i (without at k l) (omega (arith, long))
      ∙ same)
      ∙ ap (λ (x : ℕ). take x (without at k l)) same
      ∙ front count d b h

-- ---- the tables of these lists

-- a table as a load lays it down, and its counts
pub made_of : (n : ℕ) (t : List ℕ) (ls : List ℤ) (table : Table) (counts : List ℕ) → length t ≤ 2048 → length ls ≤ 1024
    → table ≡ table_of (record { units = n; words = take 2048 t; levels = take 1024 ls }) →
    counts ≡ counts_to table.links t
    → ◌≡◌ {A = Live} (record {
      units = table.units;
      links = table.links;
      ends = table.ends;
      levels = table.levels;
      counts = counts;
    }) (live_of (record { units = n; words = t; levels = ls }))
unfolding live_of
made_of n t ls table counts a b e f = rw (f, e, take_all 2048 t a, take_all 1024 ls b) refl

pub lists_of : (n : ℕ) (t u : List ℕ) (ls ms : List ℤ) → t ≡ u → ls ≡ ms
    → live_of (record { units = n; words = t; levels = ls }) ≡ live_of (record { units = n; words = u; levels = ms })
lists_of n t u ls ms e f = rw (e, f) refl
