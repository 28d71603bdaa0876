-- The state that words are, field by field, before and after fields are laid over them.
use Rattle.std.specs.Prelude.{◌≡◌, refl, Bool, true, false, cond, T, eqb, ltb, get_or}
use Rattle.std.proofs.Common.{sym, ◌∙◌, arith, ltb→lt, lit<, take-append-drop, drop_at, drop-drop, get_or-take}
use Rattle.std.proofs.Common.{get_or-drop, eqb-true, ltb-true, ltb-false}
use Rattle.std.proofs.Math.Path.{ap}
use mathlib.Core.List.{List, [], ◌∷◌, ◌++◌, append_assoc}
use Prim.Native.Nat.{ℕ, zero, suc, ◌+◌, ◌-◌, ◌≤◌, ◌<◌}
use Rattle.std.proofs.Math.ListN.{length, take, drop, length-append, length-drop}
use Rattle.std.proofs.Math.Seq.{take_at, length-take-le}
use Rattle.std.proofs.lemmas.List.{take-append-le, drop-append-le}
use Rattle.std.proofs.lemmas.Bool.{eqb-false}
use Rattle.base_lists.specs.All.{All}
use Rattle.spec_machine.specs.State.{State}
use Rattle.base_copies.specs.Parts.{part, laid}
use Rattle.words_layout.specs.Layout.{sizes, extent, size, place, field, STATE-WORDS, state_by, state_of}

-- ---- where fields lie

-- a part ends where or before any later one begins
ends-before : (ns : List ℕ) (i j : ℕ) → i < j → extent (take i ns) + get_or ns i 0 ≤ extent (take j ns)
ends-before [] zero zero h = omega arith
ends-before [] zero (suc j) h = omega arith
ends-before [] (suc i) zero h = omega arith
ends-before [] (suc i) (suc j) h = omega arith
ends-before (n ∷ ns) zero zero h = omega arith
ends-before (n ∷ ns) zero (suc j) h = omega arith
ends-before (n ∷ ns) (suc i) zero h = omega arith
ends-before (n ∷ ns) (suc i) (suc j) h =
    let r : extent (take i ns) + get_or ns i 0 ≤ extent (take j ns) = ends-before ns i j (omega arith) in
    omega arith

within : (i : ℕ) → i < 27 → place i + size i ≤ STATE-WORDS
within i h = ends-before sizes i 27 h

-- ---- one field laid over words, and any field read

-- a part of the front of a list
part-front : (xs ys : List ℕ) (from n : ℕ) → from + n ≤ length xs → part from n (xs ++ ys) ≡ part from n xs
unfolding part
part-front xs ys from n h =
    rw (drop-append-le from xs ys (omega (arith, h)))
    (take-append-le n (drop from xs) ys (omega (arith, length-drop from xs, h)))

module _ (at : ℕ) (xs ws : List ℕ) (fits : at + length xs ≤ length ws) where
  front : length (take at ws ++ xs) ≡ at + length xs
  front = length-append (take at ws) xs ∙ ap (λ (k : ℕ). k + length xs) (length-take-le at ws (omega (arith, fits)))

  laid-length : length (laid at xs ws) ≡ length ws
  unfolding laid
  laid-length =
      length-append (take at ws ++ xs) (drop (at + length xs) ws)
      ∙ omega (arith, front, length-drop (at + length xs) ws, fits)

  -- the part that was laid
  part_same : part at (length xs) (laid at xs ws) ≡ xs
  unfolding part laid
  part_same =
      ap (λ (l : List ℕ). take (length xs) (drop at l)) (append_assoc (take at ws) xs (drop (at + length xs) ws))
      ∙ (ap (λ (l : List ℕ). take (length xs) l)
      (drop_at (take at ws) (xs ++ drop (at + length xs) ws) at (length-take-le at ws (omega (arith, fits))))
      ∙ take_at xs (drop (at + length xs) ws) (length xs) refl)

  -- a part that ends before it
  part_left : (from n : ℕ) → from + n ≤ at → part from n (laid at xs ws) ≡ part from n ws
  unfolding part laid
  part_left from n h =
      let size : length (take at ws) ≡ at = length-take-le at ws (omega (arith, fits)) in
      let far : from + n ≤ length (take at ws) = omega (arith, size, h) in
      ap (λ (l : List ℕ). part from n l) (append_assoc (take at ws) xs (drop (at + length xs) ws))
      ∙ (part-front (take at ws) (xs ++ drop (at + length xs) ws) from n far
      ∙ (sym (part-front (take at ws) (drop at ws) from n far)
      ∙ ap (λ (l : List ℕ). part from n l) (take-append-drop at ws)))

  -- a part that begins after it
  part_right : (from n : ℕ) → at + length xs ≤ from → part from n (laid at xs ws) ≡ part from n ws
  unfolding part laid
  part_right from n h =
      let d : ℕ = from - (at + length xs) in
      let e : at + length xs + d ≡ from = omega (arith, h) in
      let rest : drop from (laid at xs ws) ≡ drop from ws =
      ap (λ (k : ℕ). drop k (laid at xs ws)) (sym e)
      ∙ (sym (drop-drop d (at + length xs) (laid at xs ws))
      ∙ (ap (λ (l : List ℕ). drop d l) (drop_at (take at ws ++ xs) (drop (at + length xs) ws) (at + length xs) front)
      ∙ (drop-drop d (at + length xs) ws ∙ ap (λ (k : ℕ). drop k ws) e))) in
      ap (λ (l : List ℕ). take n l) rest

-- there is such a field, and the table is as long
abbrev pub Fits : ℕ × List ℕ → Type 0
Fits p = T (ltb p.0 27) × (length p.1 ≡ size p.0)

one-laid : (p : ℕ × List ℕ) (ws : List ℕ) → length ws ≡ STATE-WORDS → Fits p →
    length (laid (place p.0) p.1 ws) ≡ STATE-WORDS
one-laid p ws state fit = laid-length (place p.0) p.1 ws
    (rw (fit.1, state) (within p.0 (ltb→lt p.0 27 fit.0))) ∙ state

-- field j after field i was laid
field-laid : (i j : ℕ) (xs ws : List ℕ) → length ws ≡ STATE-WORDS → i < 27 → j < 27 → length xs ≡ size i
    → field j (laid (place i) xs ws) ≡ cond (eqb i j) xs (field j ws)
field-laid i j xs ws state hi hj e = by (eqb i j) refl (ltb i j) refl
  where
    fits : place i + length xs ≤ length ws
    fits = rw (e, state) (within i hi)

    by : (same : Bool) → eqb i j ≡ same → (less : Bool) → ltb i j ≡ less →
        field j (laid (place i) xs ws) ≡ cond same xs (field j ws)
    by true same less f =
        let eq : i ≡ j = eqb-true i j same in
        rw (sym eq, sym e) (part_same (place i) xs ws fits)
    by false other true less =
        let after : place i + length xs ≤ place j = rw e (ends-before sizes i j (ltb-true i j less)) in
        part_right (place i) xs ws fits (place j) (size j) after
    by false other false more =
        let apart : i ≡ j → ⊥ = eqb-false i j other in
        let ge : j ≤ i = ltb-false i j more in
        let lt : j < i = omega (arith, apart, ge) in
        part_left (place i) xs ws fits (place j) (size j) (ends-before sizes j i lt)

-- ---- the state by its fields

same_fields : (f g : ℕ → List ℕ) → ((j : ℕ) → j < 27 → f j ≡ g j) → state_by f ≡ state_by g
same_fields f g same =
    rw (at 0 tt, at 1 tt, at 2 tt, at 3 tt, at 4 tt, at 5 tt, at 6 tt, at 7 tt, at 8 tt, at 9 tt, at 10 tt, at 11 tt)
    (rw (
      at 12 tt,
      at 13 tt,
      at 14 tt,
      at 15 tt,
      at 16 tt,
      at 17 tt,
      at 18 tt,
      at 19 tt,
      at 20 tt,
      at 21 tt,
      at 22 tt,
      at 23 tt,
      at 24 tt,
      at 25 tt,
      at 26 tt,
    ) refl)
  where
    at : (j : ℕ) → T (ltb j 27) → f j ≡ g j
    at j h = same j (ltb→lt j 27 h)

-- a number among the counts or in the clock
pub number_in_lem : (at n i : ℕ) (ws : List ℕ) → i < n → get_or ws (at + i) 0 ≡ get_or (part at n ws) i 0
unfolding part
number_in_lem at n i ws h = sym (get_or-take n (drop at ws) i 0 h ∙ get_or-drop at ws i 0)

-- ---- fields laid over words

-- the words after each pair (i, t) in turn: t is field i
abbrev pub laid_all : List (ℕ × List ℕ) → List ℕ → List ℕ
laid_all [] ws = ws
laid_all (p ∷ ps) ws = laid_all ps (laid (place p.0) p.1 ws)

-- what field j is after that: the last table laid there, or the old one
abbrev pub chosen : List (ℕ × List ℕ) → ℕ → List ℕ → List ℕ
chosen [] j old = old
chosen (p ∷ ps) j old = chosen ps j (cond (eqb p.0 j) p.1 old)

abbrev pub AllFit : List (ℕ × List ℕ) → Type 0
AllFit ps = All Fits ps

all_laid : (ps : List (ℕ × List ℕ)) (ws : List ℕ) → length ws ≡ STATE-WORDS → AllFit ps →
    length (laid_all ps ws) ≡ STATE-WORDS
all_laid [] ws state fit = state
all_laid (p ∷ ps) ws state fit = all_laid ps (laid (place p.0) p.1 ws) (one-laid p ws state fit.0) fit.1

fields_after : (ps : List (ℕ × List ℕ)) (ws : List ℕ) → length ws ≡ STATE-WORDS → AllFit ps → (j : ℕ) → j < 27
    → field j (laid_all ps ws) ≡ chosen ps j (field j ws)
fields_after [] ws state fit j h = refl
fields_after (p ∷ ps) ws state fit j h =
    fields_after ps (laid (place p.0) p.1 ws) (one-laid p ws state fit.0) fit.1 j h
    ∙ ap (λ (old : List ℕ). chosen ps j old)
    (field-laid p.0 j p.1 ws state (ltb→lt p.0 27 fit.0.0) h fit.0.1)

-- the state of words over which fields were laid: each is the last table laid there, or the old one
pub laid_fields : (ps : List (ℕ × List ℕ)) (ws after : List ℕ) → after ≡ laid_all ps ws → length ws ≡ STATE-WORDS →
    AllFit ps
    → state_of after ≡ state_by (λ (j : ℕ). chosen ps j (field j ws))
unfolding state_of
laid_fields ps ws after e state fit =
    ap state_of e ∙ same_fields (λ (j : ℕ). field j (laid_all ps ws)) (λ (j : ℕ). chosen ps j (field j ws))
    (fields_after ps ws state fit)
