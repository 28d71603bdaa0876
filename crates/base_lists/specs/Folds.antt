-- Folds over the numbers below a count: least, sums, counts, and tests of all or some.
use Rattle.std.specs.Prelude.{Bool, true, false, cond, ◌&&◌, ◌||◌, List, [], ◌∷◌, ℕ, zero, suc, ◌+◌, min, eqb}

-- x joined by op with f 0, f 1, .., f (n − 1)
abbrev pub fold : (ℕ → ℕ → ℕ) → ℕ → (ℕ → ℕ) → ℕ → ℕ
fold op zero f x = x
fold op (suc n) f x = op (fold op n f x) (f n)

-- the least of x and of f at 0 .. n − 1
abbrev pub least : ℕ → (ℕ → ℕ) → ℕ → ℕ
least n f x = fold min n f x

-- f 0 + .. + f (n − 1)
abbrev pub sum : ℕ → (ℕ → ℕ) → ℕ
sum n f = fold ◌+◌ n f 0

-- how many of 0 .. n − 1 pass the test
abbrev pub count : ℕ → (ℕ → Bool) → ℕ
count n p = sum n (λ (i : ℕ). cond (p i) 1 0)

-- some number below n passes the test
abbrev pub some : ℕ → (ℕ → Bool) → Bool
some zero p = false
some (suc n) p = some n p || p n

-- the first n entries of two lists agree
abbrev pub agree : ℕ → List ℕ → List ℕ → Bool
agree zero s t = true
agree (suc n) [] t = true
agree (suc n) (x ∷ s) [] = true
agree (suc n) (x ∷ s) (y ∷ t) = eqb x y && agree n s t

-- every entry of a list passes the test
module _ {A : Type 0} where
  abbrev pub every : (A → Bool) → List A → Bool
  every p [] = true
  every p (x ∷ s) = p x && every p s
