-- Tables that stand in a row are judged together: the entries of a state, by its words.
use Rattle.std.specs.Prelude.{◌≡◌, refl, Bool, ◌&&◌, List, [], ◌∷◌, ◌++◌, ℕ, ◌+◌, ◌*◌, length, get_or, take, drop}
use Rattle.std.proofs.Common.{sym, ap, ◌∙◌, arith, length-drop, take-add, drop-drop, length-take-le}
use Rattle.std.proofs.Math.Bool.{and-true}
use Rattle.base_lists.specs.All.{every_append}
use Rattle.base_lists.specs.Folds.{every}
use Rattle.table_levels.specs.Level.{in_range, word_level}
use Rattle.table_levels.specs.WordLaws.{words-range}
use Rattle.spec_rules.specs.Bounds.{name_ok, number_ok, dist_ok}
use Rattle.spec_machine.specs.WellFormed.{entries_ok}
use Rattle.base_copies.specs.Parts.{part}
use Rattle.words_layout.specs.Layout.{extent, place, field, STATE-WORDS, state_of}

pub two-parts : (at n m : ℕ) (ws : List ℕ) → part at (n + m) ws ≡ part at n ws ++ part (at + n) m ws
unfolding part
two-parts at n m ws = take-add n m (drop at ws)
    ∙ ap (λ (l : List ℕ). take n (drop at ws) ++ take m l) (drop-drop n at ws)

-- tables in a row, from a place on
abbrev pub row : ℕ → List ℕ → List ℕ → List (List ℕ)
row at [] ws = []
row at (n ∷ ns) ws = part at n ws ∷ row (at + n) ns ws

-- a test of tables in a row is one of all their words
row_ok : (p : ℕ → Bool) (at : ℕ) (ns ws : List ℕ) → every p (part at (extent ns) ws) ≡ every (every p) (row at ns ws)
unfolding part
row_ok p at [] ws = refl
row_ok p at (n ∷ ns) ws =
    ap (λ (l : List ℕ). every p l) (two-parts at n (extent ns) ws)
    ∙ (every_append p (part at n ws) (part (at + n) (extent ns) ws)
    ∙ ap (λ (b : Bool). every p (part at n ws) && b) (row_ok p (at + n) ns ws))

one_word : (p : ℕ → Bool) (l : List ℕ) → length l ≡ 1 → every p l ≡ p (get_or l 0 0)
one_word p [] e = absurd (omega (arith, e))
one_word p (x ∷ []) e = and-true (p x)
one_word p (x ∷ y ∷ l) e = absurd (omega (arith, e))

given-long : (ws : List ℕ) → length ws ≡ STATE-WORDS → length (field 26 ws) ≡ 1
unfolding part
given-long ws state = length-take-le 1 (drop (place 26) ws) (omega (arith, length-drop (place 26) ws, state))

pub entries-judged : (ws : List ℕ) → length ws ≡ STATE-WORDS → (units links : ℕ) → units ≡ (state_of ws).table.units →
    links ≡ (state_of ws).table.links
    → (every (name_ok units) (field 1 ws)
    && ((every (name_ok units) (part (place 3) 512 ws) && every (name_ok units) (part (place 21) 1280 ws))
    && every (name_ok units) (field 25 ws))
    && every (name_ok (2 * units)) (part (place 6) 1536 ws)
    && every (name_ok links) (field 23 ws)
    && every dist_ok (field 5 ws)
    && every number_ok (part (place 9) 4352 ws)
    && every (λ (w : ℕ). in_range (word_level w)) (field 24 ws)
    && every number_ok (field 26 ws))
    ≡ entries_ok (state_of ws)
unfolding entries_ok state_of
entries-judged ws state units links e f =
    let named = name_ok units in
    let trees = row (place 3) (256 ∷ 256 ∷ []) ws in
    let classes = row (place 21) (256 ∷ 1024 ∷ []) ws in
    let drawn = field 25 ws ∷ [] in
    let names : (every named (field 1 ws)
    && ((every named (part (place 3) 512 ws) && every named (part (place 21) 1280 ws))
    && every named (field 25 ws)))
    ≡ every (every named) (field 1 ws ∷ ((trees ++ classes) ++ drawn)) =
    rw (row_ok named (place 3) (256 ∷ 256 ∷ []) ws, row_ok named (place 21) (256 ∷ 1024 ∷ []) ws)
    (ap (λ (b : Bool). every named (field 1 ws) && b)
    (ap (λ (b : Bool). b && every named (field 25 ws)) (sym (every_append (every named) trees classes))
    ∙ ap (λ (b : Bool). every (every named) (trees ++ classes) && b) (sym (and-true (every named (field 25 ws))))
    ∙ sym (every_append (every named) (trees ++ classes) drawn))) in
    let given : every number_ok (field 26 ws) ≡ number_ok (get_or (field 26 ws) 0 0) =
    one_word number_ok (field 26 ws) (given-long ws state) in
    rw (
      names,
      row_ok (name_ok (2 * units)) (place 6) (512 ∷ 512 ∷ 512 ∷ []) ws,
      row_ok number_ok (place 9) (512 ∷ 512 ∷ 256 ∷ 256 ∷ 256 ∷ 256 ∷ 256 ∷ 256 ∷ 256 ∷ 256 ∷ 256 ∷ 1024 ∷ []) ws,
    )
    (rw (
      e,
      f,
      and-true (every (name_ok (get_or (field 0 ws) 1 0)) (field 23 ws)),
      and-true (every dist_ok (field 5 ws)),
      words-range (field 24 ws),
      given,
    ) refl)
