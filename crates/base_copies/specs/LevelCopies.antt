-- Words copied out one by one as levels.
use Rattle.std.specs.Prelude.{◌≡◌, refl, List, [], ◌∷◌, ◌++◌, ℕ, zero, suc, ◌+◌, ◌≤◌, ◌<◌, ℤ, pos, length, get_or, set}
use Rattle.std.specs.Prelude.{take, drop}
use Rattle.std.proofs.Common.{ap, ◌∙◌, append-nil, add-one, arith, length-drop, length-take-le, take-suc, get_or-drop}
use Rattle.std.proofs.Math.Decide.{dec_lt}
use Rattle.std.specs.Int.Signed.{mag}
use Rattle.std.proofs.Math.Seq.{drop-length}
use Rattle.base_lists.specs.Puts.{put_one}
use Rattle.table_levels.specs.Level.{level_word, word_level, to_words, from_words}
use Rattle.table_levels.specs.LevelLaws.{signed-few, signed-many}
use Rattle.base_copies.specs.Parts.{part}

-- each level is one word
pub word-at : (ls : List ℤ) (i : ℕ) → i < length ls → level_word (get_or ls i (pos 0)) ≡ get_or (to_words ls) i 0
unfolding to_words
word-at [] i h = absurd (omega arith)
word-at (z ∷ ls) zero h = refl
word-at (z ∷ ls) (suc i) h = word-at ls i (omega (arith, h))

-- the level in a word has 16 bits
pub level-small : (w : ℕ) → mag (word_level w) < 32768
level-small w = go (dec_lt w 32768)
  where
    go : Dec (w < 32768) → mag (word_level w) < 32768
    go (yes l) = rw (signed-few 65536 w l) l
    go (no l) = rw (signed-many 65536 w (omega (arith, l))) (omega arith)

length_from : (ws : List ℕ) → length (from_words ws) ≡ length ws
unfolding from_words
length_from [] = refl
length_from (w ∷ ws) = ap suc (length_from ws)

from_one : (ws : List ℕ) (w : ℕ) → from_words (ws ++ w ∷ []) ≡ from_words ws ++ word_level w ∷ []
unfolding from_words
from_one [] w = refl
from_one (v ∷ ws) w = ap (λ (l : List ℤ). word_level v ∷ l) (from_one ws w)

pub levels-next : (ws : List ℕ) (to : List ℤ) (at i : ℕ) → i < length to → at + length to ≤ length ws
    → set (from_words (part at i ws) ++ drop i to) i (word_level (get_or ws (at + i) 0))
    ≡ from_words (part at (i + 1) ws) ++ drop (i + 1) to
unfolding part
levels-next ws to at i h l =
    let rest : i < length (drop at ws) = omega (arith, length-drop at ws) in
    put_one (from_words (take i (drop at ws))) to i (word_level (get_or ws (at + i) 0))
    (length_from (take i (drop at ws))
    ∙ length-take-le i (drop at ws) (omega arith)) h
    ∙ rw (
      add-one i,
      take-suc (drop at ws) i 0 rest,
      get_or-drop at ws i 0,
      from_one (take i (drop at ws)) (get_or ws (at + i) 0),
    ) refl

pub levels-begin : (ws : List ℕ) (to : List ℤ) (at : ℕ) → to ≡ from_words (part at 0 ws) ++ drop 0 to
unfolding part from_words
levels-begin ws to at = refl

pub levels-end : (ws : List ℕ) (to : List ℤ) (at i : ℕ) → i ≡ length to →
    from_words (part at i ws) ++ drop i to ≡ from_words (part at (length to) ws)
levels-end ws to at i e = rw (e, drop-length to) (append-nil (from_words (part at (length to) ws)))
