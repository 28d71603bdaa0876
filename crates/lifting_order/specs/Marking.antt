-- What is done where a unit comes to stand: the units linked to it are marked, and those that a pair has wait for it
-- wait for one less.
use Rattle.std.specs.Prelude.{◌≡◌, Bool, true, false, cond, ◌&&◌, ◌||◌, List, eqb, length, get_or, set}
use Rattle.std.proofs.Math.Path.{refl, ap}
use Rattle.std.proofs.Common.{sym, ◌∙◌, length-set, get_or-set_same, get_or-set_other, eq-eqb, ne_eqb}
use Prim.Native.Nat.{ℕ, zero, suc, ◌+◌, ◌-◌, ◌*◌, ◌%◌, ◌<◌}
use Rattle.std.proofs.Math.Decide.{ℕ_discrete}
use native.Mathlib.Omega.{arith}
use Rattle.base_lists.specs.Folds.{some, count}
use Rattle.table.specs.Table.{link_count, end_a, end_b}
use Rattle.lifting_order.specs.Chains.{through}

-- the place of the other end of the link, or of the other unit of the pair, that has place i
abbrev pub other_of : ℕ → ℕ
other_of i = cond (eqb (i % 2) 0) (i + 1) (i - 1)

-- at place i the entry of the unit at the other place becomes f of what it was
abbrev pub acts : List ℕ → (ℕ → ℕ → ℕ) → ℕ → List ℕ → List ℕ
acts t f i x = set x (get_or t (other_of i) 0) (f i (get_or x (get_or t (other_of i) 0) 0))

-- it is marked; or it becomes one less, where i is the place of a pair's second
abbrev pub does : Bool → ℕ → ℕ → ℕ
does mark i y = cond mark 1 (y - i % 2)

-- this at each place that holds v
unfoldable pub walked : Bool → List ℕ → ℕ → List ℕ → List ℕ
walked mark t v x = through t v (acts t (does mark)) (length t) x

-- link j joins v and w; pair k says w before v
abbrev pub joins : List ℕ → ℕ → ℕ → ℕ → Bool
joins t v w j = (eqb (end_b t j) v && eqb (end_a t j) w) || (eqb (end_a t j) v && eqb (end_b t j) w)

abbrev pub precedes : List ℕ → ℕ → ℕ → ℕ → Bool
precedes p v w k = eqb (end_b p k) v && eqb (end_a p k) w

-- ---- an entry after a store

pub set_at : (x : List ℕ) (i w y : ℕ) → w < length x → get_or (set x i y) w 0 ≡ cond (eqb i w) y (get_or x w 0)
set_at x i w y l = go (ℕ_discrete w i)
  where
    go : Dec (w ≡ i) → get_or (set x i y) w 0 ≡ cond (eqb i w) y (get_or x w 0)
    go (yes e) = rw (eq-eqb i w (sym e)) (ap (λ (z : ℕ). get_or (set x i y) z 0) e
        ∙ get_or-set_same x i y 0 (rw (sym e) l))
    go (no e) = rw (ne_eqb i w (λ q. e (sym q))) (get_or-set_other x i w y 0 e)

even-other : (j : ℕ) → other_of (2 * j) ≡ 2 * j + 1
even-other j = rw (eq-eqb (2 * j % 2) 0 (omega arith)) refl

odd-other : (j : ℕ) → other_of (2 * j + 1) ≡ 2 * j
odd-other j = rw (ne_eqb ((2 * j + 1) % 2) 0 (omega arith)) (omega arith)

module _ (t : List ℕ) (v : ℕ) (f : ℕ → ℕ → ℕ) where
  -- what happens at place i, and at the two places of link or pair j
  abbrev at_place : ℕ → List ℕ → List ℕ
  at_place i x = cond (eqb (get_or t i 0) v) (acts t f i x) x

  abbrev at_both : ℕ → List ℕ → List ℕ
  at_both j x = at_place (2 * j) (at_place (2 * j + 1) x)

  through-two : (j : ℕ) (x : List ℕ) → through t v (acts t f) (2 * suc j) x
      ≡ through t v (acts t f) (2 * j) (at_both j x)
  unfolding through
  through-two j x =
      let e : 2 * suc j ≡ suc (suc (2 * j)) = omega arith in
      let g : 2 * j + 1 ≡ suc (2 * j) = omega arith in
      ap (λ (k : ℕ). through t v (acts t f) k x) e
      ∙ ap (λ (k : ℕ). through t v (acts t f) (2 * j) (at_place (2 * j) (at_place k x))) (sym g)

  place-length : (i : ℕ) (x : List ℕ) → length (at_place i x) ≡ length x
  place-length i x = go (eqb (get_or t i 0) v)
    where
      go : (b : Bool) → length (cond b (acts t f i x) x) ≡ length x
      go true = length-set x (get_or t (other_of i) 0) (f i (get_or x (get_or t (other_of i) 0) 0))
      go false = refl

  both-length : (j : ℕ) (x : List ℕ) → length (at_both j x) ≡ length x
  both-length j x = place-length (2 * j) (at_place (2 * j + 1) x) ∙ place-length (2 * j + 1) x

  pub through-length : (c : ℕ) (x : List ℕ) → length (through t v (acts t f) c x) ≡ length x
  unfolding through
  through-length zero x = refl
  through-length (suc i) x = through-length i (at_place i x) ∙ place-length i x

  -- the entry of w after place i
  place_at : (i o w : ℕ) (x : List ℕ) → w < length x → other_of i ≡ o
      → get_or (at_place i x) w 0
      ≡ cond (eqb (get_or t i 0) v && eqb (get_or t o 0) w) (f i (get_or x w 0)) (get_or x w 0)
  place_at i o w x l e = rw (sym e) (go (eqb (get_or t i 0) v))
    where
      u : ℕ
      u = get_or t (other_of i) 0

      same : Dec (u ≡ w) → cond (eqb u w) (f i (get_or x u 0)) (get_or x w 0)
          ≡ cond (eqb u w) (f i (get_or x w 0)) (get_or x w 0)
      same (yes q) = rw q refl
      same (no q) = rw (ne_eqb u w q) refl

      go : (b : Bool) → get_or (cond b (acts t f i x) x) w 0 ≡ cond (b && eqb u w) (f i (get_or x w 0)) (get_or x w 0)
      go true = set_at x u w (f i (get_or x u 0)) l ∙ same (ℕ_discrete u w)
      go false = refl

  -- and after link or pair j
  both_at : (j w : ℕ) (x : List ℕ) → w < length x
      → get_or (at_both j x) w 0
      ≡ cond (eqb (end_a t j) v && eqb (end_b t j) w)
      (f (2 * j) (cond (eqb (end_b t j) v && eqb (end_a t j) w) (f (2 * j + 1) (get_or x w 0)) (get_or x w 0)))
      (cond (eqb (end_b t j) v && eqb (end_a t j) w) (f (2 * j + 1) (get_or x w 0)) (get_or x w 0))
  both_at j w x l =
      let one = place_at (2 * j + 1) (2 * j) w x l (odd-other j) in
      let two = place_at (2 * j) (2 * j + 1) w (at_place (2 * j + 1) x) (omega (arith, place-length (2 * j + 1) x))
      (even-other j) in
      rw one at two

-- ---- the store of a walk

pub walk_store : (mark : Bool) (t x new : List ℕ) (i o w y z u : ℕ) → o ≡ other_of i → w ≡ get_or t o 0 → y
    ≡ get_or x w 0 →
    z ≡ y - i % 2
    → u ≡ cond mark 1 z → new ≡ set x w u → new ≡ acts t (does mark) i x
walk_store mark t x new i o w y z u eo ew ey ez eu en = rw (en, eu, ez, ey, ew, eo) refl

-- ---- what the walks come to

touch_two : (t : List ℕ) (v w j : ℕ) (x : List ℕ) → w < length x →
    get_or (through t v (acts t (does true)) (2 * j) x) w 0 ≡ cond (some j (joins t v w)) 1 (get_or x w 0)
unfolding through
touch_two t v w zero x l = refl
touch_two t v w (suc j) x l =
    ap (λ (y : List ℕ). get_or y w 0) (through-two t v (does true) j x)
    ∙ (touch_two t v w j (at_both t v (does true) j x) (omega (arith, both-length t v (does true) j x))
    ∙ (ap (λ (y : ℕ). cond (some j (joins t v w)) 1 y) (both_at t v (does true) j w x l)
    ∙ go (some j (joins t v w)) (eqb (end_b t j) v && eqb (end_a t j) w) (eqb (end_a t j) v && eqb (end_b t j) w)))
  where
    go : (a b c : Bool) → cond a 1 (cond c 1 (cond b 1 (get_or x w 0))) ≡ cond (a || (b || c)) 1 (get_or x w 0)
    go true b c = refl
    go false true true = refl
    go false true false = refl
    go false false c = refl

-- the units linked to v are marked, and no other
pub touched-at : (t : List ℕ) (v w : ℕ) (x : List ℕ) → length t ≡ 2 * link_count t → w < length x
    → get_or (walked true t v x) w 0 ≡ cond (some (link_count t) (joins t v w)) 1 (get_or x w 0)
unfolding walked
touched-at t v w x e l = ap (λ (k : ℕ). get_or (through t v (acts t (does true)) k x) w 0) e
    ∙ touch_two t v w (link_count t) x l

release_two : (p : List ℕ) (v w j : ℕ) (x : List ℕ) → w < length x →
    get_or (through p v (acts p (does false)) (2 * j) x) w 0 ≡ get_or x w 0 - count j (precedes p v w)
unfolding through
release_two p v w zero x l = omega arith
release_two p v w (suc j) x l =
    ap (λ (y : List ℕ). get_or y w 0) (through-two p v (does false) j x)
    ∙ (release_two p v w j (at_both p v (does false) j x) (omega (arith, both-length p v (does false) j x))
    ∙ (ap (λ (y : ℕ). y - count j (precedes p v w)) (both_at p v (does false) j w x l)
    ∙ go (eqb (end_b p j) v && eqb (end_a p j) w) (eqb (end_a p j) v && eqb (end_b p j) w)))
  where
    go : (b c : Bool) → cond c (cond b (get_or x w 0 - (2 * j + 1) % 2) (get_or x w 0) - 2 * j % 2)
        (cond b (get_or x w 0 - (2 * j + 1) % 2) (get_or x w 0)) - count j (precedes p v w)
        ≡ get_or x w 0 - (count j (precedes p v w) + cond b 1 0)
    go true true = omega arith
    go true false = omega arith
    go false true = omega arith
    go false false = omega arith

-- each unit waits for as many less as pairs have it go before v
pub released_at : (p : List ℕ) (v w : ℕ) (x : List ℕ) → length p ≡ 2 * link_count p → w < length x
    → get_or (walked false p v x) w 0 ≡ get_or x w 0 - count (link_count p) (precedes p v w)
unfolding walked
released_at p v w x e l = ap (λ (k : ℕ). get_or (through p v (acts p (does false)) k x) w 0) e
    ∙ release_two p v w (link_count p) x l

pub walked-length : (mark : Bool) (t : List ℕ) (v : ℕ) (x : List ℕ) → length (walked mark t v x) ≡ length x
unfolding walked
walked-length mark t v x = through-length t v (does mark) (length t) x
