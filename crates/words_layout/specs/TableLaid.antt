-- The table that a load takes, laid over words where it is to lie: a field is filled, and what there is of it laid over
-- its front.
use Rattle.std.specs.Prelude.{◌≡◌, refl, ℕ, zero, suc, ◌+◌, ◌-◌, ◌/◌, ◌≤◌, min, ℤ, pos, replicate}
use Rattle.std.proofs.Common.{sym, ap₂, ◌∙◌, arith, length-append, length-drop, length-take, drop_at, drop-drop}
use Rattle.std.proofs.Math.Path.{ap}
use mathlib.Core.List.{List, [], ◌∷◌, ◌++◌, append_assoc}
use Rattle.std.proofs.Math.ListN.{length, take, drop}
use Rattle.std.proofs.lemmas.List.{length-replicate}
use Rattle.std.proofs.Math.Seq.{take_at, drop-append-le, length-take-le}
use Rattle.table_levels.specs.Level.{signed, word_level, to_words, from_words}
use Rattle.table_levels.specs.WordLaws.{length-words}
use Rattle.base_copies.specs.Parts.{laid, laid_in}
use Rattle.base_copies.specs.CopyLaws.{laid_in_lem}
use Rattle.table.specs.Table.{link_count}
use Rattle.spec_machine.specs.State
use Rattle.spec_machine.specs.State.{State}
use Rattle.spec_rules.specs.Basics.{ABSENT}
use Rattle.spec_machine.specs.Load.{absents, silences, ends_of, levels_of, table_of}
use Rattle.spec_machine.specs.LoadLaws.{held-words}
use Rattle.words_layout.specs.Layout.{STATE-WORDS, place, field, state_by, state_of}
use Rattle.words_layout.specs.FieldLaws.{chosen, laid_fields}

-- a state with other counts and ends, and with other levels
abbrev pub with_ends : ℕ → List ℕ → State → State
with_ends units t s = State.with_table (record {
  units = units;
  links = link_count t;
  ends = ends_of t;
  levels = s.table.levels;
}) s

abbrev pub with_levels : List ℤ → State → State
with_levels ls s = State.with_table (record {
  units = s.table.units;
  links = s.table.links;
  ends = s.table.ends;
  levels = levels_of ls;
}) s

-- ---- a table over the front of another

module _ (at : ℕ) (xs ys ws : List ℕ) (short : length xs ≤ length ys) (fits : at + length ys ≤ length ws) where
  padded : length (xs ++ drop (length xs) ys) ≡ length ys
  padded = length-append xs (drop (length xs) ys) ∙ omega (arith, length-drop (length xs) ys, short)

  over-front : laid at xs (laid at ys ws) ≡ laid at (xs ++ drop (length xs) ys) ws
  unfolding laid
  over-front =
      let front : length (take at ws) ≡ at = length-take-le at ws (omega (arith, fits)) in
      let rest = drop (at + length ys) ws in
      let assoc : take at ws ++ ys ++ rest ≡ take at ws ++ (ys ++ rest) = append_assoc (take at ws) ys rest in
      let before : take at (take at ws ++ ys ++ rest) ≡ take at ws =
      ap (λ (l : List ℕ). take at l) assoc ∙ take_at (take at ws) (ys ++ rest) at front in
      let after : drop (at + length xs) (take at ws ++ ys ++ rest) ≡ drop (length xs) ys ++ rest =
      ap (λ (l : List ℕ). drop (at + length xs) l) assoc
      ∙ (sym (drop-drop (length xs) at (take at ws ++ (ys ++ rest)))
      ∙ (ap (λ (l : List ℕ). drop (length xs) l) (drop_at (take at ws) (ys ++ rest) at front)
      ∙ drop-append-le (length xs) ys rest short)) in
      rw (before, after, padded)
      (sym (append_assoc (take at ws ++ xs) (drop (length xs) ys) rest)
      ∙ ap (λ (l : List ℕ). l ++ rest) (append_assoc (take at ws) xs (drop (length xs) ys)))

-- the words after both: w₁ after the filling, w₂ after the laying
filled_laid : (at n x : ℕ) (xs ws w₁ w₂ : List ℕ) → w₁ ≡ laid_in at (replicate n x) ws → w₂ ≡ laid_in at xs w₁ →
    length w₁ ≡ length ws → length xs ≤ n → at + n ≤ length ws
    → w₂ ≡ laid at (xs ++ drop (length xs) (replicate n x)) ws
filled_laid at n x xs ws w₁ w₂ fill lay same short fits =
    let many : length (replicate n x) ≡ n = length-replicate {A = ℕ} n x in
    let filled : w₁ ≡ laid at (replicate n x) ws = laid_in_lem at (replicate n x) ws fill (omega (arith, many, fits)) in
    let over : w₂ ≡ laid at xs w₁ = laid_in_lem at xs w₁ lay (omega (arith, same, short, fits)) in
    over ∙ ap (λ (l : List ℕ). laid at xs l) filled
    ∙ over-front at xs (replicate n x) ws (omega (arith, many, short)) (omega (arith, many, fits))

-- a filled field is as long as it was
filled_length : (n x : ℕ) (xs : List ℕ) → length xs ≤ n → length (xs ++ drop (length xs) (replicate n x)) ≡ n
filled_length n x xs short =
    let many : length (replicate n x) ≡ n = length-replicate {A = ℕ} n x in
    length-append xs (drop (length xs) (replicate n x))
    ∙ omega (arith, length-drop (length xs) (replicate n x), many, short)

-- ---- what the fields then are

ends_filled : (n count : ℕ) (t : List ℕ) → count ≡ min n (length t)
    → take count t ++ drop (length (take count t)) (replicate n ABSENT)
    ≡ take n t ++ drop (length (take n t)) (absents n)
unfolding absents
ends_filled n count t e = rw (held-words n count t e) refl

from-append : (a b : List ℕ) → from_words (a ++ b) ≡ from_words a ++ from_words b
unfolding from_words
from-append [] b = refl
from-append (w ∷ a) b = ap (λ (l : List ℤ). word_level w ∷ l) (from-append a b)

no_level : word_level 0 ≡ pos 0
unfolding signed
no_level = refl

silent : (k n : ℕ) → from_words (drop k (replicate n 0)) ≡ drop k (silences n)
unfolding from_words silences
silent zero zero = refl
silent zero (suc n) = ap₂ (λ (z : ℤ) (l : List ℤ). z ∷ l) no_level (silent zero n)
silent (suc k) zero = refl
silent (suc k) (suc n) = silent k n

levels_filled : (n count : ℕ) (ls : List ℤ) → count ≡ min n (length ls) →
    from_words (to_words (take count ls)) ≡ take count ls
    → from_words (to_words (take count ls) ++ drop (length (to_words (take count ls))) (replicate n 0))
    ≡ take n ls ++ drop (length (take n ls)) (silences n)
levels_filled n count ls e back =
    from-append (to_words (take count ls)) (drop (length (to_words (take count ls))) (replicate n 0))
    ∙ rw (back, length-words (take count ls), silent (length (take count ls)) n, held-words n count ls e) refl

-- ---- the state

ends_set : (units links : ℕ) (ends t ws : List ℕ) → links ≡ link_count t → ends ≡ ends_of t
    → state_by (λ (j : ℕ). chosen ((0, units ∷ links ∷ []) ∷ (1, ends) ∷ []) j (field j ws))
    ≡ with_ends units t (state_of ws)
unfolding state_of
ends_set units links ends t ws l e = rw (l, e) refl

levels-set : (words : List ℕ) (ls : List ℤ) (ws : List ℕ) → from_words words ≡ levels_of ls
    → state_by (λ (j : ℕ). chosen ((24, words) ∷ []) j (field j ws)) ≡ with_levels ls (state_of ws)
unfolding state_of
levels-set words ls ws e = rw e refl

-- the counts, then the field of ends filled and laid
pub ends-laid : (n units links count : ℕ) (t ws w₁ w₂ w₃ : List ℕ) → n ≡ 2048 → length ws ≡ STATE-WORDS →
    length w₁ ≡ length ws → length w₂ ≡ length w₁
    → count ≡ min n (length t) → links ≡ count / 2
    → w₁ ≡ laid_in 0 (units ∷ links ∷ []) ws → w₂ ≡ laid_in 2 (replicate n ABSENT) w₁ → w₃ ≡ laid_in 2 (take count t) w₂
    → state_of w₃ ≡ with_ends units (take 2048 t) (state_of ws)
ends-laid n units links count t ws w₁ w₂ w₃ size state same₁ same₂ held half one two three =
    let few : length (take count t) ≤ n = omega (arith, length-take count t, held) in
    let ends = take count t ++ drop (length (take count t)) (replicate n ABSENT) in
    let first : w₁ ≡ laid 0 (units ∷ links ∷ []) ws =
    laid_in_lem 0 (units ∷ links ∷ []) ws one (omega (arith, state)) in
    let both : w₃ ≡ laid 2 ends (laid 0 (units ∷ links ∷ []) ws) =
    filled_laid 2 n ABSENT (take count t) w₁ w₂ w₃ two three same₂ few (omega (arith, size, state, same₁))
    ∙ ap (λ (l : List ℕ). laid 2 ends l) first in
    let long : length ends ≡ 2048 = filled_length n ABSENT (take count t) few ∙ size in
    let links-told : links ≡ link_count (take 2048 t) =
    half ∙ ap (λ (k : ℕ). k / 2) (omega (arith, held, size, length-take 2048 t)) in
    let ends-told : ends ≡ ends_of (take 2048 t) =
    ends_filled n count t held ∙ ap (λ (k : ℕ). take k t ++ drop (length (take k t)) (absents k)) size in
    laid_fields ((0, units ∷ links ∷ []) ∷ (1, ends) ∷ []) ws w₃ both state ((tt, refl), ((tt, long), tt))
    ∙ ends_set units links ends (take 2048 t) ws links-told ends-told

-- the field of levels filled and laid
pub levels-laid : (n count : ℕ) (ls : List ℤ) (ws w₁ w₂ : List ℕ) → n ≡ 1024 → length ws ≡ STATE-WORDS →
    length w₁ ≡ length ws → count ≡ min n (length ls)
    → w₁ ≡ laid_in (place 24) (replicate n 0) ws → w₂ ≡ laid_in (place 24) (to_words (take count ls)) w₁
    → (place 24 + length (take count ls) ≤ length w₁ → from_words (to_words (take count ls)) ≡ take count ls)
    → state_of w₂ ≡ with_levels (take 1024 ls) (state_of ws)
levels-laid n count ls ws w₁ w₂ size state same held one two back =
    let xs = to_words (take count ls) in
    let few : length xs ≤ n = omega (arith, length-words (take count ls), length-take count ls, held) in
    let words = xs ++ drop (length xs) (replicate n 0) in
    let whole : w₂ ≡ laid (place 24) words ws =
    filled_laid (place 24) n 0 xs ws w₁ w₂ one two same few (omega (arith, size, state)) in
    let long : length words ≡ 1024 = filled_length n 0 xs few ∙ size in
    let told : from_words words ≡ levels_of (take 1024 ls) =
    levels_filled n count ls held (back (omega (arith, length-take count ls, held, size, same, state)))
    ∙ ap (λ (k : ℕ). take k ls ++ drop (length (take k ls)) (silences k)) size in
    laid_fields ((24, words) ∷ []) ws w₂ whole state ((tt, long), tt) ∙ levels-set words (take 1024 ls) ws told
