-- The search by marks finds exactly the repeated links, where every end is below 256 and the marks start blank.
use Rattle.std.specs.Prelude.{◌≡◌, Bool, true, false, not, ◌||◌, ◌⊎◌, ℕ, zero, suc, ◌+◌, ◌*◌, ◌/◌, ◌%◌, ◌^◌, ◌≤◌, ◌<◌}
use Rattle.std.specs.Prelude.{eqb, leb, length, get_or, drop, replicate}
use Rattle.std.proofs.Math.Path.{refl}
use Rattle.std.proofs.Common.{sym, ap, ◌∙◌, inl, inr, arith, length-drop, length-set}
use Rattle.std.proofs.Math.Bool.{or-false, or-true, or_assoc}
use mathlib.Core.List.{List, [], ◌∷◌}
use Rattle.std.proofs.Math.Decide.{ℕ_discrete, dec_le}
use Rattle.std.proofs.Math.Nat.{zero-div}
use Rattle.std.specs.Int.Bits.{bit_or}
use Rattle.std.proofs.lemmas.Nat.{and_mask}
use Rattle.std.proofs.lemmas.List.{length-replicate}
use Rattle.std.proofs.Math.Seq.{get_or-set_same, get_or-set_other}
use borrow.Author.Tests.{leb-false}
use Rattle.base_lists.specs.Tests.{either, not_both, or_false-left, or_false-right, or_swap}
use Rattle.base_lists.specs.Rests.{rest-two}
use Rattle.table.specs.BitLaws.{bit, set_same, set_other}
use Rattle.table.specs.Table.{end_missing, same_ends, same_pair, joined_in, repeated_by, repeated_link, repeated_pair}
use Rattle.table.specs.Table.{repeated_as}
use Rattle.table.specs.TableCauses.{SameEnds, same_ends-exact, same_pair_exact}
use Rattle.table.specs.Marks.{pair_at, ordered_at, place_as, marked, mark, found_from}

-- ---- the search from a place on

module _ (place : ℕ → ℕ → ℕ) where
  pub found_here : (m t : List ℕ) (i : ℕ) → i + 1 < length t → marked m (place (get_or t i 0) (get_or t (i + 1) 0))
      ≡ true
      → found_from place m (drop i t) ≡ true
  unfolding found_from
  found_here m t i h e = rw (rest-two t i 0 h, e)

  pub found-later : (m t : List ℕ) (i : ℕ) → i + 1 < length t → marked m (place (get_or t i 0) (get_or t (i + 1) 0))
      ≡ false
      → found_from place m (drop i t)
      ≡ found_from place (mark m (place (get_or t i 0) (get_or t (i + 1) 0))) (drop (i + 2) t)
  unfolding found_from
  found-later m t i h e = rw (rest-two t i 0 h, e)

  found-short : (m t : List ℕ) → length t ≤ 1 → found_from place m t ≡ false
  unfolding found_from
  found-short m [] h = refl
  found-short m (a ∷ []) h = refl
  found-short m (a ∷ b ∷ t) h = absurd (omega arith)

  pub found-end : (m t : List ℕ) (i : ℕ) → length t ≤ i + 1 → found_from place m (drop i t) ≡ false
  found-end m t i h = found-short m (drop i t) (omega (arith, length-drop i t))

-- ---- where places tell which links are the same

pub record Tells (place : ℕ → ℕ → ℕ) (same : ℕ → ℕ → ℕ → ℕ → Bool) : Type 0 where
  pub within : (a b : ℕ) → a < 256 → b < 256 → place a b < 65536
  pub place_same : (a b c d : ℕ) → a < 256 → b < 256 → c < 256 → d < 256 → same a b c d ≡ true → place a b ≡ place c d
  pub same_place : (a b c d : ℕ) → a < 256 → b < 256 → c < 256 → d < 256 → place a b ≡ place c d → same a b c d ≡ true

pub tells-ends : Tells pair_at same_ends
tells-ends = record { within = λ a b ha hb. omega arith; place_same = there; same_place = back }
  where
    there : (a b c d : ℕ) → a < 256 → b < 256 → c < 256 → d < 256 → same_ends a b c d ≡ true → pair_at a b ≡ pair_at c d
    there a b c d ha hb hc hd e = go ((same_ends-exact a b c d).0 e)
      where
        go : SameEnds a b c d → pair_at a b ≡ pair_at c d
        go (inl p) = omega (arith, p.0, p.1)
        go (inr p) = omega (arith, p.0, p.1)

    back : (a b c d : ℕ) → a < 256 → b < 256 → c < 256 → d < 256 → pair_at a b ≡ pair_at c d → same_ends a b c d ≡ true
    back a b c d ha hb hc hd e = (same_ends-exact a b c d).1 (go (dec_le a b) (dec_le c d))
      where
        go : Dec (a ≤ b) → Dec (c ≤ d) → SameEnds a b c d
        go (yes l) (yes m) = inl (omega arith)
        go (yes l) (no m) = inr (omega arith)
        go (no l) (yes m) = inr (omega arith)
        go (no l) (no m) = inl (omega arith)

pub tells-pairs : Tells ordered_at same_pair
tells-pairs = record { within = λ a b ha hb. omega arith; place_same = there; same_place = back }
  where
    there : (a b c d : ℕ) → a < 256 → b < 256 → c < 256 → d < 256 → same_pair a b c d ≡ true →
        ordered_at a b ≡ ordered_at c d
    there a b c d ha hb hc hd e = let p = (same_pair_exact a b c d).0 e in omega (arith, p.0, p.1)

    back : (a b c d : ℕ) → a < 256 → b < 256 → c < 256 → d < 256 → ordered_at a b ≡ ordered_at c d →
        same_pair a b c d ≡ true
    back a b c d ha hb hc hd e = (same_pair_exact a b c d).1 (omega arith)

-- ---- what marks say

length-mark : (m : List ℕ) (p : ℕ) → length (mark m p) ≡ length m
unfolding mark
length-mark m p = simp length-set

-- a place is marked that has its bit
marked-bit : (m : List ℕ) (p : ℕ) → marked m p ≡ not (eqb (bit (get_or m (p / 8) 0) (p % 8)) 0)
unfolding marked
marked-bit m p = ap (λ (x : ℕ). not (eqb x 0)) (and_mask (get_or m (p / 8) 0 / 2 ^ (p % 8)) 1)

module _ (m : List ℕ) (full : length m ≡ 8192) (p : ℕ) (hp : p < 65536) where
  read_same : get_or (mark m p) (p / 8) 0 ≡ bit_or (get_or m (p / 8) 0) (1 * 2 ^ (p % 8) % 256)
  unfolding mark
  read_same = get_or-set_same m (p / 8) _ 0 (omega arith)

  read-other : (q : ℕ) → (q / 8 ≡ p / 8 → ⊥) → get_or (mark m p) (q / 8) 0 ≡ get_or m (q / 8) 0
  unfolding mark
  read-other q n = get_or-set_other m (p / 8) (q / 8) _ 0 n

  mark-same : marked (mark m p) p ≡ true
  mark-same =
      marked-bit (mark m p) p
      ∙ ap (λ (x : ℕ). not (eqb (bit x (p % 8)) 0)) read_same
      ∙ ap (λ (x : ℕ). not (eqb x 0)) (set_same (get_or m (p / 8) 0) (p % 8) (omega arith))

  mark-other : (q : ℕ) → (q ≡ p → ⊥) → marked (mark m p) q ≡ marked m q
  mark-other q n = go (ℕ_discrete (q / 8) (p / 8))
    where
      go : Dec (q / 8 ≡ p / 8) → marked (mark m p) q ≡ marked m q
      go (no d) =
          marked-bit (mark m p) q
          ∙ ap (λ (x : ℕ). not (eqb (bit x (q % 8)) 0)) (read-other q d)
          ∙ sym (marked-bit m q)
      go (yes e) =
          let d : p % 8 ≡ q % 8 → ⊥ = λ f. n (omega arith) in
          marked-bit (mark m p) q
          ∙ ap (λ (y : ℕ). not (eqb (bit (get_or (mark m p) y 0) (q % 8)) 0)) e
          ∙ ap (λ (x : ℕ). not (eqb (bit x (q % 8)) 0)) read_same
          ∙ ap (λ (x : ℕ). not (eqb x 0)) (set_other (get_or m (p / 8) 0) (p % 8) (q % 8) (omega arith) d)
          ∙ ap (λ (y : ℕ). not (eqb (bit (get_or m y 0) (q % 8)) 0)) (sym e)
          ∙ sym (marked-bit m q)

module _ (place : ℕ → ℕ → ℕ) (same : ℕ → ℕ → ℕ → ℕ → Bool) (T : Tells place same) where
  -- some link of the table is marked
  unfoldable marked_in : List ℕ → List ℕ → Bool
  marked_in m [] = false
  marked_in m (a ∷ []) = false
  marked_in m (a ∷ b ∷ t) = marked m (place a b) || marked_in m t

  module _ (m : List ℕ) (full : length m ≡ 8192) (a b : ℕ) (ha : a < 256) (hb : b < 256) where
    -- a link after the mark is marked that was marked before, or that is the same
    mark-one : (c d : ℕ) → c < 256 → d < 256 →
        marked (mark m (place a b)) (place c d) ≡ (marked m (place c d) || same a b c d)
    mark-one c d hc hd = go (either (same a b c d))
      where
        go : (same a b c d ≡ true) ⊎ (same a b c d ≡ false)
            → marked (mark m (place a b)) (place c d) ≡ (marked m (place c d) || same a b c d)
        go (inl e) =
            let q : place c d ≡ place a b = sym (T.place_same a b c d ha hb hc hd e) in
            rw (e, or-true, q) (mark-same m full (place a b) (T.within a b ha hb))
        go (inr e) =
            let n : place c d ≡ place a b →
            ⊥ = λ q. not_both (same a b c d) (T.same_place a b c d ha hb hc hd (sym q)) e in
            rw (e, or-false) (mark-other m full (place a b) (T.within a b ha hb) (place c d) n)

    -- a table after the mark: some link was marked before, or is the same
    mark-all : (t : List ℕ) → end_missing 256 t ≡ false →
        marked_in (mark m (place a b)) t ≡ (marked_in m t || joined_in same a b t)
    unfolding marked_in joined_in end_missing
    mark-all [] h = refl
    mark-all (c ∷ []) h = refl
    mark-all (c ∷ d ∷ t) h =
        let h' = or_false-right (leb 256 c) (leb 256 d || end_missing 256 t) h in
        let hc : c < 256 = leb-false 256 c (or_false-left (leb 256 c) (leb 256 d || end_missing 256 t) h) in
        let hd : d < 256 = leb-false 256 d (or_false-left (leb 256 d) (end_missing 256 t) h') in
        rw (mark-one c d hc hd, mark-all t (or_false-right (leb 256 d) (end_missing 256 t) h'))
        (or_swap (marked m (place c d)) (same a b c d) (marked_in m t) (joined_in same a b t))

  -- the search finds a link that is marked at the start, or one that is repeated
  found-exact : (t m : List ℕ) → length m ≡ 8192 → end_missing 256 t ≡ false →
      found_from place m t ≡ (marked_in m t || repeated_by same t)
  unfolding found_from marked_in end_missing
  found-exact [] m full h = refl
  found-exact (a ∷ []) m full h = refl
  found-exact (a ∷ b ∷ t) m full h =
      let h' = or_false-right (leb 256 a) (leb 256 b || end_missing 256 t) h in
      let ha : a < 256 = leb-false 256 a (or_false-left (leb 256 a) (leb 256 b || end_missing 256 t) h) in
      let hb : b < 256 = leb-false 256 b (or_false-left (leb 256 b) (end_missing 256 t) h') in
      let h'' = or_false-right (leb 256 b) (end_missing 256 t) h' in
      rw (
        found-exact t (mark m (place a b)) (length-mark m (place a b) ∙ full) h'',
        mark-all m full a b ha hb t h'',
        or_assoc (marked_in m t) (joined_in same a b t) (repeated_by same t),
      )
      (sym (or_assoc (marked m (place a b)) (marked_in m t) (joined_in same a b t || repeated_by same t)))

  blank_none : (t m : List ℕ) → ((i : ℕ) → get_or m i 0 ≡ 0) → marked_in m t ≡ false
  unfolding marked_in
  blank_none [] m z = refl
  blank_none (a ∷ []) m z = refl
  blank_none (a ∷ b ∷ t) m z =
      rw (marked-bit m (place a b), z (place a b / 8), zero-div (2 ^ (place a b % 8))) (blank_none t m z)

get_d_blank : (n i : ℕ) → ◌≡◌ {A = ℕ} (get_or (replicate n 0) i 0) 0
get_d_blank zero i = refl
get_d_blank (suc n) zero = refl
get_d_blank (suc n) (suc i) = get_d_blank n i

blank-by : (place : ℕ → ℕ → ℕ) (same : ℕ → ℕ → ℕ → ℕ → Bool) → Tells place same → (n : ℕ) → n ≡ 8192 → (t : List ℕ)
    → end_missing 256 t ≡ false → found_from place (replicate n 0) t ≡ repeated_by same t
blank-by place same T n e t h =
    rw (
      found-exact place same T t (replicate n 0) (length-replicate n 0 ∙ e) h,
      blank_none place same T t (replicate n 0) (get_d_blank n),
    )

-- from blank marks it finds exactly a repeated link
pub found-blank : (ordered : Bool) (n : ℕ) → n ≡ 8192 → (t : List ℕ) → end_missing 256 t ≡ false
    → found_from (place_as ordered) (replicate n 0) t ≡ repeated_as ordered t
unfolding repeated_link repeated_pair
found-blank true n e t h = blank-by ordered_at same_pair tells-pairs n e t h
found-blank false n e t h = blank-by pair_at same_ends tells-ends n e t h
