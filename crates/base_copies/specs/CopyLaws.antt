-- Words carried one by one, and what is copied or laid where all of it is there.
use Rattle.std.specs.Prelude.{◌≡◌, true, false, List, ◌++◌, ℕ, ◌+◌, ◌-◌, ◌≤◌, ◌<◌, ℤ, pos, get_or, set, drop, replicate}
use Rattle.std.specs.Prelude.{leb}
use Rattle.std.proofs.Math.Path.{refl}
use Rattle.std.proofs.Common.{sym, ap, ◌∙◌, append-nil, zero-add, add-one, arith, leb-true, le-leb}
use Rattle.std.proofs.Math.Decide.{dec_le}
use Rattle.std.proofs.Math.ListN.{length, length-drop}
use Rattle.std.proofs.lemmas.List.{length-replicate}
use Rattle.std.proofs.Math.Seq.{length-take-le, get_or-take, get_or-drop, paste, paste-zero, paste-suc, take-length}
use Rattle.std.proofs.Math.Seq.{drop-length}
use Rattle.std.proofs.lemmas.Bool.{lt-leb}
use Rattle.table_levels.specs.Level.{from_words}
use Rattle.base_copies.specs.Parts.{part, laid, laid_in, copied, copied_levels, PartOr, LevelsOr}

-- so many words are left behind a place
pub left_behind : (at count words : ℕ) → at ≤ words → leb count (words - at) ≡ leb (at + count) words
left_behind at count words h = go (dec_le (at + count) words)
  where
    go : Dec (at + count ≤ words) → leb count (words - at) ≡ leb (at + count) words
    go (yes l) = le-leb count (words - at) (omega (arith, l)) ∙ sym (le-leb (at + count) words l)
    go (no l) = lt-leb count (words - at) (omega (arith, l)) ∙ sym (lt-leb (at + count) words (omega (arith, l)))

-- ---- one word after the other

module _ (from ws : List ℕ) (at n place : ℕ) (there : at + n ≤ length from) where
  length_part : length (part at n from) ≡ n
  unfolding part
  length_part = length-take-le n (drop at from) (omega (arith, length-drop at from))

  word : (i : ℕ) → i < n → get_or (part at n from) i 0 ≡ get_or from (at + i) 0
  unfolding part
  word i h = get_or-take n (drop at from) i 0 h ∙ get_or-drop at from i 0

  pub carry_begin : ws ≡ paste ws place (part at n from) 0
  carry_begin = paste-zero ws place (part at n from)

  pub carry_next : (i : ℕ) → i < n → place + n ≤ length ws
      → set (paste ws place (part at n from) i) (place + i) (get_or from (at + i) 0)
      ≡ paste ws place (part at n from) (i + 1)
  carry_next i h l =
      rw (add-one i)
      (ap (λ (x : ℕ). set (paste ws place (part at n from) i) (place + i) x) (sym (word i h))
      ∙ paste-suc ws place (part at n from) i 0 (omega arith) (omega (arith, length_part)))

  pub carry_end : (i : ℕ) → i ≡ n → paste ws place (part at n from) i ≡ laid place (part at n from) ws
  unfolding laid
  carry_end i e =
      let whole : i ≡ length (part at n from) = omega (arith, e, length_part) in
      rw (whole, take-length (part at n from)) refl

-- ---- words made one by one

pub paste_next : (ws xs : List ℕ) (at i x : ℕ) → x ≡ get_or xs i 0 → i < length xs → at + length xs ≤ length ws
    → set (paste ws at xs i) (at + i) x ≡ paste ws at xs (i + 1)
paste_next ws xs at i x e h l =
    rw (add-one i) (ap (λ (y : ℕ). set (paste ws at xs i) (at + i) y) e
    ∙ paste-suc ws at xs i 0 (omega (arith, h, l)) h)

pub paste_end : (ws xs : List ℕ) (at i : ℕ) → i ≡ length xs → at + length xs ≤ length ws →
    paste ws at xs i ≡ laid_in at xs ws
unfolding laid laid_in
paste_end ws xs at i e l = rw (le-leb (at + length xs) (length ws) l, e, take-length xs) refl

-- ---- a table over words

part-whole : (xs : List ℕ) → part 0 (length xs) xs ≡ xs
unfolding part
part-whole xs = take-length xs

pub laid-whole : (at : ℕ) (xs ws : List ℕ) → leb (at + length xs) (length ws) ≡ true →
    laid at (part 0 (length xs) xs) ws ≡ laid_in at xs ws
unfolding laid_in
laid-whole at xs ws h = rw (h, part-whole xs) refl

pub laid_out : (at : ℕ) (xs ws : List ℕ) → leb (at + length xs) (length ws) ≡ false → ws ≡ laid_in at xs ws
unfolding laid_in
laid_out at xs ws h = rw h refl

pub laid_in_lem : (at : ℕ) (xs ws : List ℕ) {new : List ℕ} → new ≡ laid_in at xs ws → at + length xs ≤ length ws →
    new ≡ laid at xs ws
unfolding laid_in
laid_in_lem at xs ws e h = e ∙ rw (le-leb (at + length xs) (length ws) h) refl

pub laid-front : (xs ws : List ℕ) {new : List ℕ} → new ≡ laid_in 0 xs ws → length xs ≤ length ws →
    new ≡ xs ++ drop (length xs) ws
unfolding laid
laid-front xs ws e h = laid_in_lem 0 xs ws e (omega (arith, h)) ∙ whole
  where
    whole : laid 0 xs ws ≡ xs ++ drop (length xs) ws
    whole = ap (λ (k : ℕ). xs ++ drop k ws) (zero-add (length xs))

-- ---- a part out of words

pub copied-whole : (at : ℕ) (ws old : List ℕ) → leb (at + length old) (length ws) ≡ true →
    laid 0 (part at (length old) ws) old ≡ copied at ws old
unfolding laid copied
copied-whole at ws old h =
    rw (
      h,
      length_part ws old at (length old) 0 (leb-true (at + length old) (length ws) h),
      zero-add (length old),
      drop-length old,
    )
    (append-nil (part at (length old) ws))

pub copied-out : (at : ℕ) (ws old : List ℕ) → leb (at + length old) (length ws) ≡ false → old ≡ copied at ws old
unfolding copied
copied-out at ws old h = rw h refl

pub part_or : (n at : ℕ) (ws : List ℕ) {r : List ℕ} → r ≡ copied at ws (replicate n 0) → PartOr at n ws r
unfolding copied
part_or n at ws e = (
  λ h. e ∙ rw (length-replicate {A = ℕ} n 0, le-leb (at + n) (length ws) h) refl,
  λ h. e ∙ rw (length-replicate {A = ℕ} n 0, lt-leb (at + n) (length ws) h) refl,
)

-- ---- and levels

pub levels_or : (n at : ℕ) (ws : List ℕ) {r : List ℤ} → r ≡ copied_levels at ws (replicate n (pos 0)) →
    LevelsOr at n ws r
unfolding copied_levels
levels_or n at ws e = (
  λ h. e ∙ rw (length-replicate n (pos 0), le-leb (at + n) (length ws) h) refl,
  λ h. e ∙ rw (length-replicate n (pos 0), lt-leb (at + n) (length ws) h) refl,
)

pub levels-whole : (at : ℕ) (ws : List ℕ) (old : List ℤ) → leb (at + length old) (length ws) ≡ true →
    from_words (part at (length old) ws) ≡ copied_levels at ws old
unfolding copied_levels
levels-whole at ws old h = rw h refl

pub levels-out : (at : ℕ) (ws : List ℕ) (old : List ℤ) → leb (at + length old) (length ws) ≡ false →
    old ≡ copied_levels at ws old
unfolding copied_levels
levels-out at ws old h = rw h refl
