-- Folds by any operation: equal term by term, what they keep, and folds by one that picks the least or the greatest of
-- its two operands.
use Rattle.std.specs.Prelude.{◌≡◌, refl, ◌⊎◌, ℕ, zero, suc, ◌≤◌, ◌<◌, min, max}
use Rattle.std.proofs.Common.{ap₂, ◌∙◌, inl, inr, le_refl, not-suc-le-zero, arith}
use Rattle.std.proofs.Math.Nat.{le_step}
use Rattle.std.proofs.Math.Decide.{dec_le}
use Rattle.base_lists.specs.Below.{below_suc}
use Rattle.base_lists.specs.Folds.{fold}

pub fold_cong : (op : ℕ → ℕ → ℕ) (n : ℕ) (f g : ℕ → ℕ) (x : ℕ) → ((i : ℕ) → i < n → f i ≡ g i) →
    fold op n f x ≡ fold op n g x
fold_cong op zero f g x h = refl
fold_cong op (suc n) f g x h =
    ap₂ op (fold_cong op n f g x (λ (i : ℕ) (l : i < n). h i (le_step l))) (h n (le_refl (suc n)))

-- a fold keeps what its operation keeps
fold-keeps : (P : ℕ → Type 0) (op : ℕ → ℕ → ℕ) → ((x y : ℕ) → P x → P y → P (op x y))
    → (n : ℕ) (f : ℕ → ℕ) (x : ℕ) → ((i : ℕ) → i < n → P (f i)) → P x → P (fold op n f x)
fold-keeps P op h zero f x a b = b
fold-keeps P op h (suc n) f x a b =
    h (fold op n f x) (f n) (fold-keeps P op h n f x (λ (i : ℕ) (l : i < n). a i (le_step l)) b) (a n (le_refl (suc n)))

-- an operation that gives one of its two operands
abbrev pub Picks : (ℕ → ℕ → ℕ) → Type 0
Picks op = (x y : ℕ) → (op x y ≡ x) ⊎ (op x y ≡ y)

pub min_picks : Picks min
min_picks x y = go (dec_le x y)
  where
    go : Dec (x ≤ y) → (min x y ≡ x) ⊎ (min x y ≡ y)
    go (yes h) = inl (omega arith)
    go (no h) = inr (omega arith)

pub max_picks : Picks max
max_picks x y = go (dec_le x y)
  where
    go : Dec (x ≤ y) → (max x y ≡ x) ⊎ (max x y ≡ y)
    go (yes h) = inr (omega arith)
    go (no h) = inl (omega arith)

pub picks-keep : (P : ℕ → Type 0) (op : ℕ → ℕ → ℕ) → Picks op → (x y : ℕ) → P x → P y → P (op x y)
picks-keep P op h x y a b = go (h x y)
  where
    go : (op x y ≡ x) ⊎ (op x y ≡ y) → P (op x y)
    go (inl e) = rw e a
    go (inr e) = rw e b

-- so a fold of it keeps what its parts have
pub fold-picks : (P : ℕ → Type 0) (op : ℕ → ℕ → ℕ) → Picks op → (n : ℕ) (f : ℕ → ℕ) (x : ℕ)
    → ((i : ℕ) → i < n → P (f i)) → P x → P (fold op n f x)
fold-picks P op h n f x a b = fold-keeps P op (picks-keep P op h) n f x a b

-- ---- the choice between two values, with its order

pub record Choice (op : ℕ → ℕ → ℕ) (le : ℕ → ℕ → Type 0) : Type 0 where
  pub left : (x y : ℕ) → le (op x y) x
  pub right : (x y : ℕ) → le (op x y) y
  pub picks : Picks op
  pub same : (x : ℕ) → le x x
  pub through : (x y z : ℕ) → le x y → le y z → le x z

abbrev pub AtLeast : ℕ → ℕ → Type 0
AtLeast x y = y ≤ x

pub min_choice : Choice min ◌≤◌
min_choice = record {
  left = λ (x y : ℕ). omega arith;
  right = λ (x y : ℕ). omega arith;
  picks = min_picks;
  same = λ (x : ℕ). omega arith;
  through = λ (x y z : ℕ) (p : x ≤ y) (q : y ≤ z). omega arith;
}

pub max_choice : Choice max AtLeast
max_choice = record {
  left = λ (x y : ℕ). omega arith;
  right = λ (x y : ℕ). omega arith;
  picks = max_picks;
  same = λ (x : ℕ). omega arith;
  through = λ (x y z : ℕ) (p : y ≤ x) (q : z ≤ y). omega arith;
}

module _ {op : ℕ → ℕ → ℕ} {le : ℕ → ℕ → Type 0} (choice : Choice op le) where
  pub fold_start : (n : ℕ) (f : ℕ → ℕ) (x : ℕ) → le (fold op n f x) x
  fold_start zero f x = choice.same x
  fold_start (suc n) f x = choice.through (fold op (suc n) f x) (fold op n f x) x (choice.left (fold op n f x) (f n))
      (fold_start n f x)

  pub fold-before : (n : ℕ) (f : ℕ → ℕ) (x i : ℕ) → i < n → le (fold op n f x) (f i)
  fold-before zero f x i l = absurd (not-suc-le-zero l)
  fold-before (suc n) f x i l =
      below_suc (λ (j : ℕ). le (fold op (suc n) f x) (f j)) n
      (λ (j : ℕ) (h : j < n). choice.through (fold op (suc n) f x) (fold op n f x) (f j)
      (choice.left (fold op n f x) (f n)) (fold-before n f x j h))
      (choice.right (fold op n f x) (f n)) i l

  pub fold_is : (n : ℕ) (f : ℕ → ℕ) (x : ℕ) → (fold op n f x ≡ x) ⊎ ((i : ℕ) × (i < n) × (fold op n f x ≡ f i))
  fold_is zero f x = inl refl
  fold_is (suc n) f x = go (choice.picks (fold op n f x) (f n)) (fold_is n f x)
    where
      go : (op (fold op n f x) (f n) ≡ fold op n f x) ⊎ (op (fold op n f x) (f n) ≡ f n)
          → (fold op n f x ≡ x) ⊎ ((i : ℕ) × (i < n) × (fold op n f x ≡ f i))
          → (fold op (suc n) f x ≡ x) ⊎ ((i : ℕ) × (i < suc n) × (fold op (suc n) f x ≡ f i))
      go (inl e) (inl w) = inl (e ∙ w)
      go (inl e) (inr w) = inr (w.0, le_step w.1, e ∙ w.2)
      go (inr e) w = inr (n, le_refl (suc n), e)
