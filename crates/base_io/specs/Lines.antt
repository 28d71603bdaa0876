-- Where a line of text ends.
use Rattle.std.specs.Prelude.{ℕ, ◌+◌, ◌-◌, ◌^◌, List, length, min}

-- Where a line that ended at `at` ends after the text s: places are counted up to the greatest of 64 bits.
abbrev pub end_after : ℕ → List ℕ → ℕ
end_after at s = min (at + length s) (2 ^ 64 - 1)
