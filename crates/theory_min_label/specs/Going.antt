-- Passes one after the other: those made and those to come are all of them.
use Rattle.std.specs.Prelude.{◌≡◌, refl, true, false, List, ℕ, zero, suc, ◌+◌, ◌-◌, ◌≤◌, ◌<◌, length}
use Rattle.std.proofs.Common.{sym, ◌∙◌, arith}
use Rattle.theory_min_label.specs.MinLabel.{at, min_forward, min_backward, remaining, unfinished, passes}
use Rattle.theory_min_label.specs.Hands.{Lives, Ends}
use Rattle.theory_min_label.specs.Keys.{Passed, lives-begun}

-- after so many passes over the links of t from x the links left are those of t', as the keys say, and the numbers are
-- x'
pub record Going (n : ℕ) (t x : List ℕ) (made : ℕ) (key x' : List ℕ) : Type 0 where
  pub t' : List ℕ
  pub lives : Lives t key t'
  pub numbers : (passes n n t x).0 ≡ (passes (n - made) n t' x').0
  pub count : (passes n n t x).1 ≡ made + (passes (n - made) n t' x').1

pub going-begun : (n : ℕ) (t x key : List ℕ) (k : ℕ) → Ends (length key) t → ((v : ℕ) → v < length key → at key v ≡ k) →
    Going n t x 0 key x
going-begun n t x key k ends same =
    let e : n - 0 ≡ n = omega arith in
    record { t' = t; lives = lives-begun t key k ends same; numbers = rw e refl; count = rw e (omega arith) }

pub going_on : (n : ℕ) (t x : List ℕ) (made : ℕ) (key key' x' x'' : List ℕ) → made < n → unfinished n x' ≡ true
    → Passed n t key key' x' x'' → Going n t x made key x' → Going n t x (made + 1) key' x''
unfolding passes
going_on n t x made key key' x' x'' l u p g =
    let e : n - made ≡ suc (n - (made + 1)) = omega arith in
    let a = g.numbers in
    let b = g.count in
    let q = p.numbers g.t' g.lives in
    record {
      t' = remaining (min_forward n g.t') (min_backward n g.t' (min_forward n g.t')) g.t';
      lives = p.links g.t' g.lives;
      numbers = rw q (rw (e, u) at a);
      count = rw q ((rw (e, u) at b) ∙ shift made (passes (n - (made + 1)) n _ _).1);
    }
  where
    shift : (m k : ℕ) → m + suc k ≡ (m + 1) + k
    shift m k = omega arith

still : (k n : ℕ) (t x : List ℕ) → unfinished n x ≡ false → ((passes k n t x).0 ≡ x) × ((passes k n t x).1 ≡ 0)
unfolding passes
still zero n t x u = (refl, refl)
still (suc k) n t x u = rw u (refl, refl)

none : (k n : ℕ) (t x : List ℕ) → k ≡ 0 → ((passes k n t x).0 ≡ x) × ((passes k n t x).1 ≡ 0)
unfolding passes
none k n t x e = rw e (refl, refl)

-- at the end: every unit has its number, or n passes are made
module _ (n : ℕ) (t x : List ℕ) (made : ℕ) (key x' : List ℕ) (g : Going n t x made key x') where
  over_by : ((passes (n - made) n g.t' x').0 ≡ x') × ((passes (n - made) n g.t' x').1 ≡ 0) →
      (x' ≡ (passes n n t x).0) × (made ≡ (passes n n t x).1)
  over_by s = (sym (g.numbers ∙ s.0), omega (arith, g.count, s.1))

  pub going-stop : unfinished n x' ≡ false → (x' ≡ (passes n n t x).0) × (made ≡ (passes n n t x).1)
  going-stop u = over_by (still (n - made) n g.t' x' u)

  pub going_end : n ≤ made → (x' ≡ (passes n n t x).0) × (made ≡ (passes n n t x).1)
  going_end l = over_by (none (n - made) n g.t' x' (omega arith))
