-- A list in a stream: how many numbers there are, and the cursor after them.
use Rattle.std.specs.Prelude.{List, ℕ}
use Rattle.base_streams.specs.declared.Cursor.{Cursor}
use Rattle.base_streams.specs.declared.listed.Listed.{Listed}
use Rattle.base_streams.specs.Stream.{number_at}
use Rattle.base_streams.specs.Series.{after_numbers, after_levels}

unfoldable pub words_at : List ℕ → Cursor → Listed
words_at stream c = let size = number_at stream c in record {
  count = size.value;
  cursor = after_numbers size.value stream size.cursor;
}

unfoldable pub levels_at : List ℕ → Cursor → Listed
levels_at stream c = let size = number_at stream c in record {
  count = size.value;
  cursor = after_levels size.value stream size.cursor;
}
