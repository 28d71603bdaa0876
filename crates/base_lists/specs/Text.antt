-- A text's characters as numbers, so that a document's lines can be written as they stand.
use Rattle.std.specs.Prelude.{List, ℕ}
use Prim.Native.Char.{code}
use Prim.Native.String.{String, [], ◌∷◌}

abbrev pub characters : String → List ℕ
characters [] = List.[]
characters (c ∷ s) = List.◌∷◌ (code c) (characters s)
