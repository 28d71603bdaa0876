-- Levels as words, one by one.
use Rattle.std.specs.Prelude.{◌≡◌, refl, Bool, ◌&&◌, List, [], ◌∷◌, ◌++◌, ℕ, zero, suc, ◌+◌, ◌<◌, length, get_or, set}
use Rattle.std.specs.Prelude.{take, drop, ℤ, pos}
use Rattle.std.proofs.Common.{sym, ap, ap₂, ◌∙◌, add-one, arith, take-suc, length-take-le}
use Rattle.std.specs.Int.Signed.{mag}
use Rattle.base_lists.specs.Folds.{every}
use Rattle.base_lists.specs.Puts.{put_one}
use Rattle.table_levels.specs.Level.{in_range, level_word, word_level, to_words, from_words}
use Rattle.table_levels.specs.LevelLaws.{twos-signed, signed-twos}

pub length-words : (ls : List ℤ) → length (to_words ls) ≡ length ls
unfolding to_words
length-words [] = refl
length-words (z ∷ ls) = ap suc (length-words ls)

words_append : (ls ms : List ℤ) → to_words (ls ++ ms) ≡ to_words ls ++ to_words ms
unfolding to_words
words_append [] ms = refl
words_append (z ∷ ls) ms = ap (λ (l : List ℕ). level_word z ∷ l) (words_append ls ms)

words-one : (ls : List ℤ) (z : ℤ) → to_words (ls ++ z ∷ []) ≡ to_words ls ++ level_word z ∷ []
unfolding to_words
words-one ls z = words_append ls (z ∷ [])

levels-append : (a b : List ℕ) → from_words (a ++ b) ≡ from_words a ++ from_words b
unfolding from_words
levels-append [] b = refl
levels-append (w ∷ a) b = ap (λ (l : List ℤ). word_level w ∷ l) (levels-append a b)

levels-one : (a : List ℕ) (w : ℕ) → from_words (a ++ w ∷ []) ≡ from_words a ++ word_level w ∷ []
unfolding from_words
levels-one a w = levels-append a (w ∷ [])

-- one level more laid down as a word
pub words-next : (ls : List ℤ) (to : List ℕ) (i w : ℕ) → w ≡ level_word (get_or ls i (pos 0)) → i < length ls →
    length ls ≡ length to
    → set (to_words (take i ls) ++ drop i to) i w ≡ to_words (take (i + 1) ls) ++ drop (i + 1) to
words-next ls to i w e h l =
    put_one (to_words (take i ls)) to i w (length-words (take i ls)
    ∙ length-take-le i ls (omega arith)) (omega (arith, l))
    ∙ ap (λ (x : List ℕ). x ++ drop (i + 1) to)
    (ap (λ (x : ℕ). to_words (take i ls) ++ x ∷ []) e ∙ sym (words-one (take i ls) (get_or ls i (pos 0)))
    ∙ ap to_words (sym (rw (add-one i) (take-suc ls i (pos 0) h))))

-- a level of 16 bits comes back
pub back-next : (ls : List ℤ) (i : ℕ) → i < length ls → mag (get_or ls i (pos 0)) < 32768 →
    from_words (to_words (take i ls)) ≡ take i ls
    → from_words (to_words (take (i + 1) ls)) ≡ take (i + 1) ls
back-next ls i h f e =
    let z = get_or ls i (pos 0) in
    let more : take (i + 1) ls ≡ take i ls ++ z ∷ [] = rw (add-one i) (take-suc ls i (pos 0) h) in
    rw more
    (ap from_words (words-one (take i ls) z)
    ∙ levels-one (to_words (take i ls)) (level_word z)
    ∙ ap₂ (λ (x : List ℤ) (y : ℤ). x ++ y ∷ []) e (signed-twos 65536 z refl f))

pub back_none : (ls : List ℤ) → from_words (to_words (take 0 ls)) ≡ take 0 ls
unfolding to_words from_words
back_none ls = refl

pub none-words : (to : List ℕ) → to ≡ to_words [] ++ to
unfolding to_words
none-words to = refl

-- and so does a word
pub words-kept : (ws : List ℕ) → ((i : ℕ) → get_or ws i 0 < 65536) → to_words (from_words ws) ≡ ws
unfolding to_words from_words
words-kept [] h = refl
words-kept (w ∷ ws) h = ap₂ (λ (x : ℕ) (l : List ℕ). x ∷ l) (twos-signed 65536 w (h zero) refl)
    (words-kept ws (λ (i : ℕ). h (suc i)))

-- all in range, told by the words
pub words-range : (ws : List ℕ) → every (λ (w : ℕ). in_range (word_level w)) ws ≡ every in_range (from_words ws)
unfolding from_words
words-range [] = refl
words-range (w ∷ ws) = ap (λ (b : Bool). in_range (word_level w) && b) (words-range ws)
