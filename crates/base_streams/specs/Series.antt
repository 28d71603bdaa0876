-- Lists from a stream: one number, or one level, after the other.
use Rattle.std.specs.Prelude.{◌≡◌, Bool, true, false, cond, ◌||◌, List, ℕ, zero, suc, ◌+◌, ◌%◌, ◌<◌, eqb, ltb, get_or}
use Rattle.std.specs.Prelude.{ℤ, pos}
use Rattle.std.proofs.Common.{ap, ◌∙◌, arith, lt-ltb, le-ltb, add-one}
use Rattle.std.proofs.Math.Decide.{dec_lt}
use Rattle.std.specs.Int.Signed.{mag}
use Rattle.base_streams.specs.Stream.{number_at, level_at, part_at, start, signed}
use Rattle.base_streams.specs.StreamLaws.{signed-small}
use Rattle.base_streams.specs.declared.Cursor.{Cursor}
use Rattle.base_streams.specs.declared.Number.{Number}
use Rattle.base_streams.specs.declared.Level.{Level}

-- the cursor after so many numbers, and after so many levels
unfoldable pub after_numbers : ℕ → List ℕ → Cursor → Cursor
after_numbers zero s c = c
after_numbers (suc k) s c = (number_at s (after_numbers k s c)).cursor

unfoldable pub after_levels : ℕ → List ℕ → Cursor → Cursor
after_levels zero s c = c
after_levels (suc k) s c = (level_at s (after_levels k s c)).cursor

-- entry i of the list, as a word, as a level
abbrev pub word_from : List ℕ → Cursor → ℕ → ℕ
word_from s c i = (number_at s (after_numbers i s c)).value % 65536

abbrev pub level_from : List ℕ → Cursor → ℕ → ℤ
level_from s c i = (level_at s (after_levels i s c)).value

-- one entry more
pub numbers_more : (s : List ℕ) (c : Cursor) (i : ℕ) (at : Cursor) (next : Number) → at ≡ after_numbers i s c →
    next ≡ number_at s at
    → next.cursor ≡ after_numbers (i + 1) s c
unfolding after_numbers
numbers_more s c i at next was is = rw add-one (ap (λ (n : Number). n.cursor) (is ∙ ap (number_at s) was))

pub levels-more : (s : List ℕ) (c : Cursor) (i : ℕ) (at : Cursor) (next : Level) → at ≡ after_levels i s c →
    next ≡ level_at s at
    → next.cursor ≡ after_levels (i + 1) s c
unfolding after_levels
levels-more s c i at next was is = rw add-one (ap (λ (l : Level). l.cursor) (is ∙ ap (level_at s) was))

-- a level is small, whatever the stream
pub level-small : (s : List ℕ) (c : Cursor) → mag (level_at s c).value < 32768
unfolding level_at
level-small s c = go (part_at s c (start s c.at))
  where
    go : (p : Number)
        → mag (cond {A = Level} (p.cursor.fault || ltb 32767 p.value)
        (record { value = pos 0; cursor = record { at = c.at; fault = true } })
        (record { value = signed (eqb (get_or s c.at 0) 45) p.value; cursor = p.cursor })).value < 32768
    go p = by p.cursor.fault (dec_lt 32767 p.value)
      where
        by : (f : Bool) → Dec (32767 < p.value)
            → mag (cond {A = Level} (f || ltb 32767 p.value)
            (record { value = pos 0; cursor = record { at = c.at; fault = true } })
            (record { value = signed (eqb (get_or s c.at 0) 45) p.value; cursor = p.cursor })).value < 32768
        by true _ = omega arith
        by false (yes l) = rw (lt-ltb 32767 p.value l) (omega arith)
        by false (no l) = rw (le-ltb 32767 p.value (omega (arith, l)))
            (signed-small (eqb (get_or s c.at 0) 45) p.value (omega (arith, l)))
