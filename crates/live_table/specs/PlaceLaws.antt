-- The search for the position of a link, and that it finds one exactly where some link joins the two units.
use Rattle.std.specs.Prelude.{◌≡◌, refl, Bool, true, false, cond, ◌||◌, ◌↔◌, List, [], ◌∷◌, ℕ, zero, suc, ◌+◌, ◌/◌, ◌≤◌}
use Rattle.std.specs.Prelude.{◌<◌, ltb, length, get_or, drop}
use Rattle.std.proofs.Common.{sym, ◌∙◌, arith, length-drop, lt-ltb, le-ltb, ltb-true}
use Rattle.std.proofs.Math.Decide.{dec_lt}
use Rattle.base_lists.specs.Rests.{rest-two}
use Rattle.base_lists.specs.Tests.{or_left, or_right}
use Rattle.table.specs.Table.{link_count, end_a, end_b, same_ends, joined_in}
use Rattle.table.specs.TableCauses.{SameEnds, same_ends-exact}
use Rattle.table.specs.TableLaws.{end_a-later, end_b-later}
use Rattle.live_table.specs.Live.{place_of}

-- ---- the search from a word on

module _ (a b : ℕ) (t : List ℕ) (i : ℕ) where
  pub place_here : i + 1 < length t → same_ends a b (get_or t i 0) (get_or t (i + 1) 0) ≡ true → place_of a b (drop i t)
      ≡ 0
  unfolding place_of
  place_here h e = rw (rest-two t i 0 h, e)

  pub place-later : i + 1 < length t → same_ends a b (get_or t i 0) (get_or t (i + 1) 0) ≡ false →
      place_of a b (drop i t) ≡ suc (place_of a b (drop (i + 2) t))
  unfolding place_of
  place-later h e = rw (rest-two t i 0 h, e)

place_short : (a b : ℕ) (t : List ℕ) → length t ≤ 1 → place_of a b t ≡ 0
unfolding place_of
place_short a b [] h = refl
place_short a b (c ∷ []) h = refl
place_short a b (c ∷ d ∷ t) h = absurd (omega arith)

pub place_end : (a b : ℕ) (t : List ℕ) (i : ℕ) → length t ≤ i + 1 → place_of a b (drop i t) ≡ 0
place_end a b t i h = place_short a b (drop i t) (omega (arith, length-drop i t))

-- ---- what it finds

pub place_le : (a b : ℕ) (t : List ℕ) → place_of a b t ≤ link_count t
unfolding place_of
place_le a b [] = omega arith
place_le a b (c ∷ []) = omega arith
place_le a b (c ∷ d ∷ t) = go (same_ends a b c d) (place_le a b t)
  where
    go : (e : Bool) → place_of a b t ≤ length t / 2 → cond e 0 (suc (place_of a b t)) ≤ length (c ∷ d ∷ t) / 2
    go true h = omega arith
    go false h = omega arith

next-below : (x y : ℕ) → ltb x y ≡ ltb (suc x) (suc y)
next-below x y = go (dec_lt x y)
  where
    go : Dec (x < y) → ltb x y ≡ ltb (suc x) (suc y)
    go (yes l) = rw (lt-ltb x y l, lt-ltb (suc x) (suc y) (omega arith)) refl
    go (no n) = rw (le-ltb x y (omega arith), le-ltb (suc x) (suc y) (omega arith)) refl

-- a link is found exactly where some link joins the two
pub place_found : (a b : ℕ) (t : List ℕ) → joined_in same_ends a b t ≡ ltb (place_of a b t) (link_count t)
unfolding place_of joined_in
place_found a b [] = refl
place_found a b (c ∷ []) = refl
place_found a b (c ∷ d ∷ t) = go (same_ends a b c d) (place_found a b t)
  where
    more : length (c ∷ d ∷ t) / 2 ≡ suc (length t / 2)
    more = omega arith

    go : (e : Bool) → joined_in same_ends a b t ≡ ltb (place_of a b t) (length t / 2)
        → (e || joined_in same_ends a b t) ≡ ltb (cond e 0 (suc (place_of a b t))) (length (c ∷ d ∷ t) / 2)
    go true h = rw more (sym (lt-ltb 0 (suc (length t / 2)) (omega arith)))
    go false h = rw more (h ∙ next-below (place_of a b t) (length t / 2))

-- ---- some link joins the two, in words

-- the link that is found
pub place-joins : (a b : ℕ) (t : List ℕ) → place_of a b t < link_count t →
    same_ends a b (end_a t (place_of a b t)) (end_b t (place_of a b t)) ≡ true
unfolding place_of
place-joins a b [] h = absurd (omega arith)
place-joins a b (c ∷ []) h = absurd (omega arith)
place-joins a b (c ∷ d ∷ t) h = go (same_ends a b c d) refl h (place-joins a b t)
  where
    go : (e : Bool) → same_ends a b c d ≡ e → cond e 0 (suc (place_of a b t)) < length (c ∷ d ∷ t) / 2
        → (place_of a b t < link_count t → same_ends a b (end_a t (place_of a b t)) (end_b t (place_of a b t)) ≡ true)
        → same_ends a b (end_a (c ∷ d ∷ t) (cond e 0 (suc (place_of a b t))))
        (end_b (c ∷ d ∷ t) (cond e 0 (suc (place_of a b t)))) ≡ true
    go true p l later = p
    go false p l later =
        rw (end_a-later c d t (place_of a b t), end_b-later c d t (place_of a b t)) (later (omega arith))

-- some link joins a and b, whichever way round
abbrev pub Joined : ℕ → ℕ → List ℕ → Type 0
Joined a b t = (k : ℕ) × (k < link_count t) × SameEnds a b (end_a t k) (end_b t k)

joined_back : (a b : ℕ) (t : List ℕ) (k : ℕ) → k < link_count t → SameEnds a b (end_a t k) (end_b t k) →
    joined_in same_ends a b t ≡ true
unfolding joined_in
joined_back a b [] k l s = absurd (omega arith)
joined_back a b (c ∷ []) k l s = absurd (omega arith)
joined_back a b (c ∷ d ∷ t) zero l s = or_left (same_ends a b c d) (joined_in same_ends a b t)
    ((same_ends-exact a b c d).1 s)
joined_back a b (c ∷ d ∷ t) (suc k) l s =
    or_right (same_ends a b c d) (joined_in same_ends a b t)
    (joined_back a b t k (omega arith) (rw (end_a-later c d t k, end_b-later c d t k) at s))

pub joined-exact : (a b : ℕ) (t : List ℕ) → (joined_in same_ends a b t ≡ true) ↔ Joined a b t
joined-exact a b t = (forth, λ w. joined_back a b t w.0 w.1 w.2)
  where
    forth : joined_in same_ends a b t ≡ true → Joined a b t
    forth e =
        let l : place_of a b t < link_count t = ltb-true (place_of a b t) (link_count t) (sym (place_found a b t)
        ∙ e) in (
          place_of a b t,
          l,
          (same_ends-exact a b (end_a t (place_of a b t)) (end_b t (place_of a b t))).0
              (place-joins a b t l),
        )
