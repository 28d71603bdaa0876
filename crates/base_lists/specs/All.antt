-- A property of every entry of a list: the words for the test `every`, and how tables keep it.
use Rattle.std.specs.Prelude.{◌≡◌, refl, Bool, true, false, cond, ◌&&◌, ◌↔◌, List, [], ◌∷◌, ◌++◌, ℕ, zero, suc, ◌<◌}
use Rattle.std.specs.Prelude.{length, get_or, drop, replicate}
use Rattle.std.proofs.Common.{sym, zero-le, suc-le-suc, le_of_suc-le-suc, not-suc-le-zero}
use Rattle.std.proofs.Math.Bool.{and_assoc}
use Rattle.base_lists.specs.Folds.{every}
use Rattle.base_lists.specs.Tables.{over}
use Rattle.base_lists.specs.Tests.{and_left, and_right, and-true}

module _ {A : Type 0} where
  abbrev pub All : (A → Type 0) → List A → Type 0
  All P [] = Unit
  All P (x ∷ t) = P x × All P t

  -- an entry, or what is read past the end
  pub all-at : (P : A → Type 0) (t : List A) (i : ℕ) (d : A) → P d → All P t → P (get_or t i d)
  all-at P [] i d h a = h
  all-at P (x ∷ t) zero d h a = a.0
  all-at P (x ∷ t) (suc i) d h a = all-at P t i d h a.1

  pub all-over : (P : A → Type 0) (n : ℕ) (f : ℕ → A) (t : List A) → ((i : ℕ) → i < n → P (f i)) → All P t →
      All P (over n f t)
  all-over P zero f t h a = a
  all-over P (suc n) f [] h a = a
  all-over P (suc n) f (x ∷ t) h a = (
    h zero (suc-le-suc zero-le),
    all-over P n (λ (k : ℕ). f (suc k)) t
        (λ (i : ℕ) (l : i < n). h (suc i) (suc-le-suc l)) a.1,
  )

  pub all_append : (P : A → Type 0) (s t : List A) → All P s → All P t → All P (s ++ t)
  all_append P [] t a b = b
  all_append P (x ∷ s) t a b = (a.0, all_append P s t a.1 b)

  pub all_drop : (P : A → Type 0) (n : ℕ) (t : List A) → All P t → All P (drop n t)
  all_drop P zero t a = a
  all_drop P (suc n) [] a = a
  all_drop P (suc n) (x ∷ t) a = all_drop P n t a.1

  pub all_replicate : (P : A → Type 0) (n : ℕ) (x : A) → P x → All P (replicate n x)
  all_replicate P zero x h = tt
  all_replicate P (suc n) x h = (h, all_replicate P n x h)

  -- by index
  pub all_of : (P : A → Type 0) (t : List A) (d : A) → ((i : ℕ) → i < length t → P (get_or t i d)) → All P t
  all_of P [] d h = tt
  all_of P (x ∷ t) d h = (
    h zero (suc-le-suc zero-le),
    all_of P t d (λ (i : ℕ) (l : i < length t). h (suc i) (suc-le-suc l)),
  )

  -- the test `every` decides it, where p decides P
  pub every-exact : (p : A → Bool) (P : A → Type 0) → ((x : A) → (p x ≡ true) ↔ P x) → (t : List A) →
      (every p t ≡ true) ↔ All P t
  every-exact p P h [] = (λ e. tt, λ a. refl)
  every-exact p P h (x ∷ t) = (
    λ (e : (p x && every p t) ≡ true). (
      (h x).0 (and_left (p x) (every p t) e),
      (every-exact p P h t).0 (and_right (p x) (every p t) e),
    ),
    λ (a : P x × All P t). and-true (p x) (every p t) ((h x).1 a.0) ((every-exact p P h t).1 a.1),
  )

  -- an entry
  pub every-at : (p : A → Bool) (t : List A) (i : ℕ) (d : A) → every p t ≡ true → i < length t → p (get_or t i d) ≡ true
  every-at p [] i d e h = absurd (not-suc-le-zero h)
  every-at p (x ∷ t) zero d e h = and_left (p x) (every p t) e
  every-at p (x ∷ t) (suc i) d e h = every-at p t i d (and_right (p x) (every p t) e) (le_of_suc-le-suc h)

  -- two lists in a row
  pub every_append : (p : A → Bool) (s t : List A) → every p (s ++ t) ≡ (every p s && every p t)
  every_append p [] t = refl
  every_append p (x ∷ s) t = rw (every_append p s t) (sym (and_assoc (p x) (every p s) (every p t)))

-- a choice keeps what both sides have
pub cond-keeps {ℓ} : {A : Type ℓ} (P : A → Type 0) (b : Bool) (x y : A) → P x → P y → P (cond b x y)
cond-keeps P true x y a b = a
cond-keeps P false x y a b = b
