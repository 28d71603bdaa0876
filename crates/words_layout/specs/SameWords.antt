-- Words are known by the state that they are: the state's fields, one after the other, are the words again. So what a
-- call promises of the state settles every word that was lent.
use Rattle.std.specs.Prelude.{◌≡◌, refl, ℕ, zero, suc, ◌+◌, ◌≤◌, ◌<◌, length, get_or, take, drop}
use Rattle.std.proofs.Common.{sym, ◌∙◌, arith, length-drop, length-take, length-take-le, get_or-take, get_or-drop}
use Rattle.std.proofs.Math.Path.{ap}
use mathlib.Core.List.{List, [], ◌∷◌, ◌++◌}
use Rattle.std.proofs.Math.Decide.{dec_lt}
use Rattle.std.proofs.Math.ListN.{get_or-eq_default}
use Rattle.std.proofs.Math.Seq.{take_all}
use Rattle.table_levels.specs.Level.{to_words, from_words}
use Rattle.table_levels.specs.WordLaws.{words-kept}
use Rattle.spec_machine.specs.State.{State}
use Rattle.base_copies.specs.Parts.{part}
use Rattle.words_layout.specs.Layout.{sizes, extent, place, field, STATE-WORDS, state_of}
use Rattle.words_layout.specs.Rows.{row, two-parts}

-- the fields of a state, in the order of the sizes, with the words of its levels and whether a plan was given
abbrev fields_of : State → List ℕ → List ℕ → List (List ℕ)
fields_of s levels given =
    (s.table.units ∷ s.table.links ∷ [])
    ∷ s.table.ends
    ∷ (s.clock.stage ∷ s.clock.made ∷ s.clock.rounds ∷ s.clock.requests ∷ [])
    ∷ s.components.color
    ∷ s.tree.parent
    ∷ s.tree.dist
    ∷ s.tour.next
    ∷ s.tour.pred
    ∷ s.ranking.jump
    ∷ s.ranking.sum
    ∷ s.order.forward
    ∷ s.order.nd
    ∷ s.order.pre
    ∷ s.range.low
    ∷ s.range.high
    ∷ s.range.little
    ∷ s.range.big
    ∷ s.global.low
    ∷ s.global.high
    ∷ s.aux.parents
    ∷ s.aux.links
    ∷ s.aux.color
    ∷ s.labels.class
    ∷ s.labels.label
    ∷ levels
    ∷ s.plan.parent
    ∷ given
    ∷ []

abbrev joined : List (List ℕ) → List ℕ
joined [] = []
joined (t ∷ ts) = t ++ joined ts

-- the words of a state
unfoldable pub words_of : State → List ℕ
words_of s = joined (fields_of s (to_words s.table.levels) (s.plan.given ∷ []))

row-joined : (at : ℕ) (ns ws : List ℕ) → joined (row at ns ws) ≡ part at (extent ns) ws
unfolding part
row-joined at [] ws = refl
row-joined at (n ∷ ns) ws = ap (λ (l : List ℕ). part at n ws ++ l) (row-joined (at + n) ns ws)
    ∙ sym (two-parts at n (extent ns) ws)

of_one : (l : List ℕ) → length l ≡ 1 → get_or l 0 0 ∷ [] ≡ l
of_one [] e = absurd (omega (arith, e))
of_one (x ∷ []) e = refl
of_one (x ∷ y ∷ l) e = absurd (omega (arith, e))

of_two : (l m : List ℕ) → length l ≡ 2 → get_or l 0 0 ∷ get_or l 1 0 ∷ m ≡ l ++ m
of_two [] m e = absurd (omega (arith, e))
of_two (x ∷ []) m e = absurd (omega (arith, e))
of_two (x ∷ y ∷ []) m e = refl
of_two (x ∷ y ∷ z ∷ l) m e = absurd (omega (arith, e))

of_four : (l m : List ℕ) → length l ≡ 4 → get_or l 0 0 ∷ get_or l 1 0 ∷ get_or l 2 0 ∷ get_or l 3 0 ∷ m ≡ l ++ m
of_four [] m e = absurd (omega (arith, e))
of_four (a ∷ []) m e = absurd (omega (arith, e))
of_four (a ∷ b ∷ []) m e = absurd (omega (arith, e))
of_four (a ∷ b ∷ c ∷ []) m e = absurd (omega (arith, e))
of_four (a ∷ b ∷ c ∷ d ∷ []) m e = refl
of_four (a ∷ b ∷ c ∷ d ∷ x ∷ l) m e = absurd (omega (arith, e))

part-long : (at n : ℕ) (ws : List ℕ) → at + n ≤ length ws → length (part at n ws) ≡ n
unfolding part
part-long at n ws h = length-take-le n (drop at ws) (omega (arith, length-drop at ws, h))

-- every word of a part is one of the whole
part-words : (at n : ℕ) (ws : List ℕ) → ((i : ℕ) → get_or ws i 0 < 65536) → (i : ℕ) → get_or (part at n ws) i 0 < 65536
unfolding part
part-words at n ws h i = go (dec_lt i n)
  where
    go : Dec (i < n) → get_or (take n (drop at ws)) i 0 < 65536
    go (yes l) = rw (get_or-take n (drop at ws) i 0 l, get_or-drop at ws i 0) (h (at + i))
    go (no l) =
        let past : get_or (take n (drop at ws)) i 0 ≡ 0 =
        get_or-eq_default (take n (drop at ws)) 0 (omega (arith, length-take n (drop at ws))) in
        rw past (omega arith)

module _ (ws : List ℕ) (e : length ws ≡ STATE-WORDS) (h : (i : ℕ) → get_or ws i 0 < 65536) where
  clock : List ℕ
  clock = get_or (field 2 ws) 0 0 ∷ get_or (field 2 ws) 1 0 ∷ get_or (field 2 ws) 2 0 ∷ get_or (field 2 ws) 3 0 ∷ []

  rest : List ℕ
  rest = joined (row (place 3) (drop 3 sizes) ws)

  levels : to_words (from_words (field 24 ws)) ≡ field 24 ws
  levels = words-kept (field 24 ws) (part-words (place 24) 1024 ws h)

  given : get_or (field 26 ws) 0 0 ∷ [] ≡ field 26 ws
  given = of_one (field 26 ws) (part-long (place 26) 1 ws (omega (arith, e)))

  pub words_back : words_of (state_of ws) ≡ ws
  unfolding words_of state_of part clock rest
  words_back =
      ap (λ (l : List ℕ). joined (fields_of (state_of ws) l (get_or (field 26 ws) 0 0 ∷ []))) levels
      ∙ (ap (λ (l : List ℕ). joined (fields_of (state_of ws) (field 24 ws) l)) given
      ∙ (of_two (field 0 ws) (field 1 ws ++ (clock ++ rest)) (part-long (place 0) 2 ws (omega (arith, e)))
      ∙ (ap (λ (l : List ℕ). field 0 ws ++ (field 1 ws ++ l))
      (of_four (field 2 ws) rest (part-long (place 2) 4 ws (omega (arith, e))))
      ∙ (row-joined 0 sizes ws ∙ take_all STATE-WORDS ws (omega (arith, e))))))

pub same-words : (a b : List ℕ) → length a ≡ STATE-WORDS → length b ≡ STATE-WORDS → ((i : ℕ) → get_or a i 0 < 65536) →
    ((i : ℕ) → get_or b i 0 < 65536)
    → state_of a ≡ state_of b → a ≡ b
same-words a b la lb ha hb e = sym (words_back a la ha) ∙ (ap words_of e ∙ words_back b lb hb)
