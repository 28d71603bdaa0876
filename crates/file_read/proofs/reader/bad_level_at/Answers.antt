-- By its byte.
use Rattle.std.proofs.Common.{ℕ, not, ap, ◌∙◌, arith}
use Rattle.table_levels.specs.Level.{in_range, byte_level}
use Rattle.file_read.proofs.reader.bad_level_at.Goals as goal

pub overflow_add-at : goal.overflow_add-at
overflow_add-at c = omega (arith, c.requires.1, c.well_formed)

pub byte_at-requires : goal.byte_at-requires
byte_at-requires c = (c.requires.0, omega (arith, c.requires.1))

pub returns : goal.returns
returns c = c.bad_level.ensures ∙ ap (λ (b : ℕ). not (in_range (byte_level b))) c.byte_at.ensures
