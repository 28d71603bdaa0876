-- A scan from the greatest unit down: for every unit at once its first child, its next sibling and its first child past
-- its parent. k is the least unit that the scan has met.
use Rattle.std.specs.Prelude.{◌≡◌, Bool, cond, ◌&&◌, List, ℕ, ◌+◌, ◌≤◌, ◌<◌, eqb, ltb, length, get_or, set}
use Rattle.std.proofs.Common.{sym, ◌∙◌, arith, get_or-set_same, get_or-set_other, eq-eqb, ne_eqb}
use Rattle.std.proofs.Math.Decide.{ℕ_discrete}
use Rattle.spec_rules.specs.Basics.{ABSENT, at}
use Rattle.stage03_tour.specs.Firsts.{first_from, from_end, from-turn}

-- w is a child of q
abbrev pub is_child : List ℕ → ℕ → ℕ → Bool
is_child parent q w = eqb (at parent w) q

-- a child of q that is greater than q's parent
abbrev pub is_past : List ℕ → ℕ → ℕ → Bool
is_past parent q w = eqb (at parent w) q && ltb (at parent q) w

-- the first child of each unit below m; of any table, the first item with each key
abbrev pub Eldest : ℕ → ℕ → ℕ → List ℕ → List ℕ → Type 0
Eldest m n k parent t = (q : ℕ) → q < m → get_or t q 0 ≡ first_from n k (is_child parent q)

-- the first child past the parent
abbrev pub Past : ℕ → ℕ → List ℕ → List ℕ → Type 0
Past n k parent t = (q : ℕ) → q < 256 → get_or t q 0 ≡ first_from n k (is_past parent q)

-- the next child of the same parent
abbrev pub Later : ℕ → ℕ → List ℕ → List ℕ → Type 0
Later n k parent t = (w : ℕ) → k ≤ w → w < n → w < 256 → at parent w < 256 →
    get_or t w 0 ≡ first_from n (w + 1) (is_child parent (at parent w))

module _ (n : ℕ) (parent : List ℕ) where
  pub eldest_none : (m : ℕ) (t : List ℕ) → ((i : ℕ) → i < m → get_or t i 0 ≡ ABSENT) → Eldest m n n parent t
  eldest_none m t blank q h = blank q h ∙ sym (from_end n (is_child parent q))

  pub past-none : (t : List ℕ) → ((i : ℕ) → i < 256 → get_or t i 0 ≡ ABSENT) → Past n n parent t
  past-none t blank q h = blank q h ∙ sym (from_end n (is_past parent q))

  pub later-none : (t : List ℕ) → Later n n parent t
  later-none t w h l s p = absurd (not_lt h l)
    where
      not_lt : n ≤ w → w < n → ⊥
      not_lt a b = omega arith

  module _ (k j : ℕ) (down : k ≡ j + 1) (below : j < n) (small : n ≤ ABSENT) where
    pub eldest_turn : (m : ℕ) (t new : List ℕ) → length t ≡ m → Eldest m n k parent t → new ≡ set t (at parent j) j →
        Eldest m n j parent new
    eldest_turn m t new full was put q h = go (ℕ_discrete q (at parent j))
      where
        go : Dec (q ≡ at parent j) → get_or new q 0 ≡ first_from n j (is_child parent q)
        go (yes e) =
            rw (put, from-turn n (is_child parent q) j below small, eq-eqb (at parent j) q (sym e), e)
            (get_or-set_same t (at parent j) j 0 (omega (arith, e, h, full)))
        go (no e) =
            rw (
              put,
              from-turn n (is_child parent q) j below small,
              ne_eqb (at parent j) q (λ i. e (sym i)),
              get_or-set_other t (at parent j) q j 0 e,
              ← down,
            )
            (was q h)

    pub past-turn : (t new : List ℕ) → length t ≡ 256 → Past n k parent t
        → new ≡ set t (at parent j) (cond (ltb (at parent (at parent j)) j) j (get_or t (at parent j) 0)) →
        Past n j parent new
    past-turn t new full was put q h = go (ℕ_discrete q (at parent j))
      where
        go : Dec (q ≡ at parent j) → get_or new q 0 ≡ first_from n j (is_past parent q)
        go (yes e) =
            rw (
              put,
              from-turn n (is_past parent q) j below small,
              eq-eqb (at parent j) q (sym e),
              ← down,
              ← was q h,
              ← e,
            )
            (get_or-set_same t q (cond (ltb (at parent q) j) j (get_or t q 0)) 0 (omega (arith, h, full)))
        go (no e) =
            rw (put, from-turn n (is_past parent q) j below small, ne_eqb (at parent j) q (λ i. e (sym i)), ← down)
            (get_or-set_other t (at parent j) q (cond (ltb (at parent (at parent j)) j) j (get_or t (at parent j) 0)) 0
            e
            ∙ was q h)

    pub later-turn : (eldest t new : List ℕ) → length t ≡ 256 → Eldest 256 n k parent eldest → Later n k parent t
        → new ≡ set t j (get_or eldest (at parent j) 0) → Later n j parent new
    later-turn eldest t new full known was put w h l s p = go (ℕ_discrete w j)
      where
        go : Dec (w ≡ j) → get_or new w 0 ≡ first_from n (w + 1) (is_child parent (at parent w))
        go (yes e) =
            let is : get_or eldest (at parent w) 0 ≡ first_from n k (is_child parent (at parent w)) =
            known (at parent w) p in
            rw (put, ← e) (get_or-set_same t w (get_or eldest (at parent w) 0) 0 (omega (arith, s, full))
            ∙ rw (down, ← e) at is)
        go (no e) = rw put (get_or-set_other t j w (get_or eldest (at parent j) 0) 0 e
            ∙ was w (omega (arith, e, h, down)) l s p)
