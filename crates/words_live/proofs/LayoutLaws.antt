-- The words of a live table after its fields were laid over them one after the other, and the live table that they are.
use Rattle.std.specs.Prelude.{◌≡◌, true, false, ◌⊎◌, eqb, ℤ, drop, take}
use Rattle.std.proofs.Math.Path.{refl, sym, ap}
use Rattle.std.proofs.Common.{◌∙◌, inl, inr, arith, length-append, length-drop, take_at, drop_at, drop-drop, eq-eqb}
use Rattle.std.proofs.Common.{ne_eqb}
use mathlib.Core.List.{List, [], ◌∷◌, ◌++◌, append_assoc, append-nil}
use Prim.Native.Nat.{ℕ, ◌+◌}
use Rattle.std.proofs.Math.ListN.{length}
use Rattle.base_lists.specs.Tests.{either}
use Rattle.table_levels.specs.Level.{to_words, from_words}
use Rattle.base_copies.specs.Parts.{part, laid}
use Rattle.live_table.specs.Live.{Live, held, live_of, added, withdrawn}
use Rattle.live_table.specs.LiveCalls.{Answer, answered, add_refusal, add_answer, withdraw_refusal, withdraw_answer}
use Rattle.words_live.specs.LiveLayout.{LIVE-WORDS, live_in, live_words, words_left, live_left}

-- ---- fields laid down from the first on

-- one more behind those that were laid
laid_next : (at n : ℕ) (p xs ws : List ℕ) → length p ≡ at → length xs ≡ n →
    laid at xs (p ++ drop at ws) ≡ (p ++ xs) ++ drop (at + n) ws
unfolding laid
laid_next at n p xs ws e f =
    ap (λ (l : List ℕ). l ++ xs ++ drop (at + length xs) (p ++ drop at ws)) (take_at p (drop at ws) at e)
    ∙ ap (λ (l : List ℕ). (p ++ xs) ++ l) rest
  where
    rest : drop (at + length xs) (p ++ drop at ws) ≡ drop (at + n) ws
    rest =
        sym (drop-drop (length xs) at (p ++ drop at ws))
        ∙ (ap (λ (l : List ℕ). drop (length xs) l) (drop_at p (drop at ws) at e)
        ∙ (drop-drop (length xs) at ws ∙ ap (λ (k : ℕ). drop (at + k) ws) f))

-- nothing is behind the last
drop-whole : (n : ℕ) (ws : List ℕ) → length ws ≡ n → drop n ws ≡ []
drop-whole n ws e = none (drop n ws) (length-drop n ws ∙ omega (arith, e))
  where
    none : (l : List ℕ) → length l ≡ 0 → l ≡ []
    none [] z = refl
    none (x ∷ l) z = absurd (omega (arith, z))

-- ---- a part behind others

part-first : (n : ℕ) (a r : List ℕ) → length a ≡ n → part 0 n (a ++ r) ≡ a
unfolding part
part-first n a r e = take_at a r n e

part-behind : (k at n : ℕ) (a r : List ℕ) → length a ≡ k → part (k + at) n (a ++ r) ≡ part at n r
unfolding part
part-behind k at n a r e = ap (λ (l : List ℕ). take n l) (sym (drop-drop at k (a ++ r))
    ∙ ap (λ (l : List ℕ). drop at l) (drop_at a r k e))

-- ---- the four fields

module _ (l : Live) (words : List ℕ) (isWords : words ≡ to_words l.levels) (back : from_words words ≡ l.levels)
    (full : length l.ends ≡ 2048) (long : length words ≡ 1024) (counted : length l.counts ≡ 256) where
  heard : length (to_words l.levels) ≡ 1024
  heard = ap length (sym isWords) ∙ long

  numbers : List ℕ
  numbers = l.units ∷ l.links ∷ []

  laid-words : (ws : List ℕ) → length ws ≡ LIVE-WORDS
      → laid 3074 l.counts (laid 2050 words (laid 2 l.ends (laid 0 (l.units ∷ l.links ∷ []) ws))) ≡ live_words l
  unfolding live_words numbers
  laid-words ws e =
      ap (λ (x : List ℕ). laid 3074 l.counts (laid 2050 words (laid 2 l.ends x)))
      (laid_next 0 2 [] numbers ws refl refl)
      ∙ (ap (λ (x : List ℕ). laid 3074 l.counts (laid 2050 words x))
      (laid_next 2 2048 numbers l.ends ws refl full)
      ∙ (ap (λ (x : List ℕ). laid 3074 l.counts x)
      (laid_next 2050 1024 (numbers ++ l.ends) words ws (length-append numbers l.ends ∙ rw full refl) long)
      ∙ (laid_next 3074 256 (numbers ++ l.ends ++ words) l.counts ws
      (length-append (numbers ++ l.ends) words
      ∙ (ap (λ (k : ℕ). k + length words) (length-append numbers l.ends) ∙ rw (full, long) refl)) counted
      ∙ (ap (λ (x : List ℕ). numbers ++ l.ends ++ words ++ l.counts ++ x) (drop-whole 3330 ws e)
      ∙ (append-nil (numbers ++ l.ends ++ words ++ l.counts)
      ∙ (append_assoc (numbers ++ l.ends) words l.counts
      ∙ (append_assoc numbers l.ends (words ++ l.counts)
      ∙ ap (λ (x : List ℕ). numbers ++ (l.ends ++ (x ++ l.counts))) isWords)))))))

  words-live : live_in (live_words l) ≡ l
  unfolding live_in live_words part
  words-live = rw (ends, levels, counts, sym isWords, back) refl
    where
      rest : List ℕ
      rest = to_words l.levels ++ l.counts

      ends : part 2 2048 (l.units ∷ l.links ∷ (l.ends ++ (to_words l.levels ++ l.counts))) ≡ l.ends
      ends = part-first 2048 l.ends (to_words l.levels ++ l.counts) full

      levels : part 2050 1024 (l.units ∷ l.links ∷ (l.ends ++ (to_words l.levels ++ l.counts)))
          ≡ to_words l.levels
      levels =
          part-behind 2048 0 1024 l.ends (to_words l.levels ++ l.counts) full
          ∙ part-first 1024 (to_words l.levels) l.counts heard

      counts : part 3074 256 (l.units ∷ l.links ∷ (l.ends ++ (to_words l.levels ++ l.counts))) ≡ l.counts
      counts =
          part-behind 2048 1024 256 l.ends (to_words l.levels ++ l.counts) full
          ∙ (part-behind 1024 0 256 (to_words l.levels) l.counts heard
          ∙ (ap (λ (x : List ℕ). part 0 256 x) (sym (append-nil l.counts)) ∙ part-first 256 l.counts [] counted))

  pub laid-live : (ws after : List ℕ) → length ws ≡ LIVE-WORDS
      → after ≡ laid 3074 l.counts (laid 2050 words (laid 2 l.ends (laid 0 (l.units ∷ l.links ∷ []) ws)))
      → (after ≡ live_words l) × (live_in after ≡ l)
  laid-live ws after e is = let w = is ∙ laid-words ws e in (w, ap live_in w ∙ words-live)

-- ---- what a call leaves

module _ (answer : Answer) (old : List ℕ) where
  abbrev pub Left : ℕ → List ℕ → Type 0
  Left number new = (number ≡ answer.number)
      × ((new ≡ words_left answer old) × (live_in new ≡ live_left answer (live_in old)))

  pub left-refused : (answer.number ≡ 0 → ⊥) → Left answer.number old
  left-refused h = rw (ne_eqb answer.number 0 h) (refl, (refl, refl))

  pub left-made : (new : List ℕ) → answer.number ≡ 0 → new ≡ live_words answer.live → live_in new ≡ answer.live →
      Left 0 new
  left-made new z w e = rw (eq-eqb answer.number 0 z) (sym z, (w, e))

-- the same of an equal answer
pub left_by_lem : (x y : Answer) (old : List ℕ) (number : ℕ) (new : List ℕ) → x ≡ y → Left x old number new →
    Left y old number new
left_by_lem x y old number new e p = (
  p.0 ∙ ap (λ (a : Answer). a.number) e,
  (p.1.0 ∙ ap (λ (a : Answer). words_left a old) e, p.1.1 ∙ ap (λ (a : Answer). live_left a (live_in old)) e),
)

-- a refused change leaves the table as given
answer-left : (k : ℕ) (given after : Live) → live_left (answered k given after) given ≡ (answered k given after).live
answer-left k given after = go (either (eqb k 0))
  where
    go : (eqb k 0 ≡ true) ⊎ (eqb k 0 ≡ false) → live_left (answered k given after) given ≡ (answered k given after).live
    go (inl e) = rw e refl
    go (inr e) = rw e refl

pub add_left : (a b : ℕ) (level : ℤ) (l : Live) → live_left (add_answer a b level l) l ≡ (add_answer a b level l).live
unfolding add_answer
add_left a b level l = answer-left (add_refusal a b level l) l (live_of (added a b level (held l)))

pub withdraw-left : (a b : ℕ) (l : Live) → live_left (withdraw_answer a b l) l ≡ (withdraw_answer a b l).live
unfolding withdraw_answer
withdraw-left a b l = answer-left (withdraw_refusal a b l) l (live_of (withdrawn a b (held l)))
