-- Tables made by scattering: an item at a time takes its value to its target's entry. `op` is min or max.
use Rattle.std.specs.Prelude.{◌≡◌, refl, Bool, true, false, cond, ◌⊎◌, List, ℕ, zero, suc, ◌≤◌, ◌<◌, min, max, ltb, eqb}
use Rattle.std.specs.Prelude.{get_or, set}
use Rattle.std.proofs.Math.Path.{sym}
use Rattle.std.proofs.Common.{◌∙◌, inl, inr, arith, length-set, get_or-set_same, get_or-set_other}
use Rattle.std.proofs.Math.Decide.{ℕ_discrete}
use Rattle.std.proofs.Math.ListN.{length}
use borrow.Author.Tests.{ltb-true, ltb-false, eq-eqb, ne_eqb}
use Rattle.base_lists.specs.Tests.{either, cond_false}
use Rattle.base_lists.specs.Tables.{over, length_over, get_d_over, get_d_over_past, over_cong}
use Rattle.base_lists.specs.Folds.{fold}
use Rattle.base_lists.specs.Rounds.{over_ext}

-- the greatest, or the least
abbrev pub op_of : Bool → ℕ → ℕ → ℕ
op_of true = max
op_of false = min

op_same : (b : Bool) (x : ℕ) → op_of b x x ≡ x
op_same true x = omega arith
op_same false x = omega arith

op_twice : (b : Bool) (x y : ℕ) → op_of b (op_of b x y) y ≡ op_of b x y
op_twice true x y = omega arith
op_twice false x y = omega arith

op_swap : (b : Bool) (x y z : ℕ) → op_of b (op_of b x y) z ≡ op_of b (op_of b x z) y
op_swap true x y z = omega arith
op_swap false x y z = omega arith

-- a fold takes in without change what its start has taken in
pub fold_absorbs : (b : Bool) (k : ℕ) (f : ℕ → ℕ) (x y : ℕ) → op_of b x y ≡ x →
    op_of b (fold (op_of b) k f x) y ≡ fold (op_of b) k f x
fold_absorbs b zero f x y h = h
fold_absorbs b (suc k) f x y h = rw (op_swap b (fold (op_of b) k f x) (f k) y, fold_absorbs b k f x y h)

-- and its start
pub fold_again : (b : Bool) (k : ℕ) (f : ℕ → ℕ) (x : ℕ) → op_of b (fold (op_of b) k f x) x ≡ fold (op_of b) k f x
fold_again b k f x = fold_absorbs b k f x x (op_same b x)

-- entry a, below n, takes in x
unfoldable pub takes_in : (ℕ → ℕ → ℕ) → ℕ → List ℕ → ℕ → ℕ → List ℕ
takes_in op n t a x = cond (ltb a n) (set t a (op (get_or t a 0) x)) t

module _ (op : ℕ → ℕ → ℕ) (n : ℕ) (f : ℕ → ℕ) (old : List ℕ) (a x : ℕ) where
  -- the entries after it
  abbrev with_in : ℕ → ℕ
  with_in v = cond (eqb a v) (op (f v) x) (f v)

  put_below : (i : ℕ) → Dec (a ≡ i) → i < n → i < length old
      → get_or (set (over n f old) a (op (get_or (over n f old) a 0) x)) i 0 ≡ with_in i
  put_below i (yes e) h l =
      let h' : a < n = rw e h in
      let l' : a < length old = rw e l in
      rw (
        ← e,
        get_or-set_same (over n f old) a (op (get_or (over n f old) a 0) x) 0 (omega (arith, length_over n f old)),
        get_d_over n f old a 0 h' l',
        eq-eqb a a refl,
      )
  put_below i (no e) h l =
      rw (
        get_or-set_other (over n f old) a i (op (get_or (over n f old) a 0) x) 0 (λ q. e (sym q)),
        get_d_over n f old i 0 h l,
        ne_eqb a i e,
      )

  put_past : (i : ℕ) → a < n → n ≤ i → get_or (set (over n f old) a (op (get_or (over n f old) a 0) x)) i 0
      ≡ get_or old i 0
  put_past i h l =
      let ne : i ≡ a → ⊥ = λ q. (omega arith) in
      get_or-set_other (over n f old) a i (op (get_or (over n f old) a 0) x) 0 ne ∙ get_d_over_past n f old i 0 l

  takes-go : (ltb a n ≡ true) ⊎ (ltb a n ≡ false) → takes_in op n (over n f old) a x ≡ over n with_in old
  unfolding takes_in
  takes-go (inl e) =
      rw e
      (over_ext 0 n with_in old (set (over n f old) a (op (get_or (over n f old) a 0) x))
      (length-set (over n f old) a (op (get_or (over n f old) a 0) x) ∙ length_over n f old)
      (λ (i : ℕ) (h : i < n) (l : i < length old). put_below i (ℕ_discrete a i) h l)
      (λ (i : ℕ) (h : n ≤ i) (l : i < length old). put_past i (ltb-true a n e) h))
  takes-go (inr e) =
      rw e
      (over_cong n f with_in old
      (λ (i : ℕ) (h : i < n). sym (cond_false (eqb a i) (op (f i) x) (f i)
      (ne_eqb a i (λ q. omega (arith, ltb-false a n e))))))

  pub takes-over : takes_in op n (over n f old) a x ≡ over n (λ (v : ℕ). cond (eqb a v) (op (f v) x) (f v)) old
  takes-over = takes-go (either (ltb a n))

-- an item with two targets, which take in x and y: the same where they are one target. `rest` is what the others hear,
-- and have taken in already
module _ (b : Bool) (v z a c x y rest : ℕ) (same : a ≡ c → x ≡ y) (own : op_of b z rest ≡ z) where
  abbrev once : ℕ
  once = cond (eqb a v) (op_of b z x) z

  pair_one : Dec (a ≡ v) → Dec (c ≡ v) →
      cond (eqb c v) (op_of b once y) once ≡ op_of b z (cond (eqb a v) x (cond (eqb c v) y rest))
  pair_one (yes p) (yes q) = rw (eq-eqb a v p, eq-eqb c v q, ← same (p ∙ sym q)) (op_twice b z x)
  pair_one (yes p) (no q) = rw (eq-eqb a v p, ne_eqb c v q)
  pair_one (no p) (yes q) = rw (ne_eqb a v p, eq-eqb c v q)
  pair_one (no p) (no q) = rw (ne_eqb a v p, ne_eqb c v q) (sym own)

module _ (b : Bool) (n : ℕ) (f rest : ℕ → ℕ) (old : List ℕ) (a c x y : ℕ) where
  pub pair-over : (a ≡ c → x ≡ y) → ((v : ℕ) → op_of b (f v) (rest v) ≡ f v)
      → takes_in (op_of b) n (takes_in (op_of b) n (over n f old) a x) c y
      ≡ over n (λ (v : ℕ). op_of b (f v) (cond (eqb a v) x (cond (eqb c v) y (rest v)))) old
  pair-over same own =
      rw (
        takes-over (op_of b) n f old a x,
        takes-over (op_of b) n (λ (v : ℕ). cond (eqb a v) (op_of b (f v) x) (f v)) old c y,
      )
      (over_cong n
      (λ (v : ℕ). cond (eqb c v) (op_of b (cond (eqb a v) (op_of b (f v) x) (f v)) y)
      (cond (eqb a v) (op_of b (f v) x) (f v)))
      (λ (v : ℕ). op_of b (f v) (cond (eqb a v) x (cond (eqb c v) y (rest v)))) old
      (λ (v : ℕ) (l : v < n). pair_one b v (f v) a c x y (rest v) same (own v) (ℕ_discrete a v) (ℕ_discrete c v)))

-- an item with one target
module _ (b : Bool) (n : ℕ) (f rest : ℕ → ℕ) (old : List ℕ) (a x : ℕ) where
  single-one : (v : ℕ) → op_of b (f v) (rest v) ≡ f v → Dec (a ≡ v)
      → cond (eqb a v) (op_of b (f v) x) (f v) ≡ op_of b (f v) (cond (eqb a v) x (rest v))
  single-one v own (yes p) = rw (eq-eqb a v p)
  single-one v own (no p) = rw (ne_eqb a v p) (sym own)

  pub single-over : ((v : ℕ) → op_of b (f v) (rest v) ≡ f v)
      → takes_in (op_of b) n (over n f old) a x ≡ over n (λ (v : ℕ). op_of b (f v) (cond (eqb a v) x (rest v))) old
  single-over own =
      takes-over (op_of b) n f old a x
      ∙ over_cong n (λ (v : ℕ). cond (eqb a v) (op_of b (f v) x) (f v))
      (λ (v : ℕ). op_of b (f v) (cond (eqb a v) x (rest v))) old
      (λ (v : ℕ) (l : v < n). single-one v (own v) (ℕ_discrete a v))
