-- A least that is not lowered: by what it has taken in already, or by what differs only above it.
use Rattle.std.specs.Prelude.{◌≡◌, refl, ℕ, zero, suc, ◌≤◌, ◌<◌, min}
use Rattle.std.proofs.Common.{le_refl, arith}
use Rattle.std.proofs.Math.Nat.{le_step}
use Rattle.std.proofs.Math.Decide.{dec_lt}
use Rattle.base_lists.specs.Folds.{least}
use Rattle.base_lists.specs.LeastLaws.{least_start}

-- two families that lower every value up to `most` alike
pub least-alike : (k : ℕ) (f g : ℕ → ℕ) (x most : ℕ) → x ≤ most
    → ((i z : ℕ) → i < k → z ≤ most → min z (f i) ≡ min z (g i)) → least k f x ≡ least k g x
least-alike zero f g x most h alike = refl
least-alike (suc k) f g x most h alike =
    rw (least-alike k f g x most h (λ (i z : ℕ) (l : i < k). alike i z (le_step l)))
    (alike k (least k g x) (le_refl (suc k)) (omega (arith, least_start k g x)))

-- from k on nothing lowers the start
pub least-rest : (m k : ℕ) (f : ℕ → ℕ) (x : ℕ) → k ≤ m → ((i : ℕ) → k ≤ i → i < m → f i ≡ x) → least k f x ≡ least m f x
least-rest zero k f x l rest =
    let none : k ≡ 0 = omega arith in
    rw none
least-rest (suc m) k f x l rest =
    go (dec_lt m k) (λ (h : k ≤ m). least-rest m k f x h (λ (i : ℕ) (a : k ≤ i) (b : i < m). rest i a (le_step b)))
  where
    go : Dec (m < k) → (k ≤ m → least k f x ≡ least m f x) → least k f x ≡ min (least m f x) (f m)
    go (yes h) before =
        let all : k ≡ suc m = omega arith in
        rw all
    go (no h) before = rw (
      before (omega arith),
      rest m (omega arith) (le_refl (suc m)),
    ) (omega (arith, least_start m f x))

-- one of the family, c at v, lowers besides: it may as well come last
pub least_aside : (k v c : ℕ) (f g : ℕ → ℕ) (x most : ℕ) → x ≤ most → v < k
    → ((z : ℕ) → z ≤ most → min (min z (f v)) c ≡ min z (g v))
    → ((i z : ℕ) → i < k → (i ≡ v → ⊥) → z ≤ most → min z (f i) ≡ min z (g i))
    → min (least k f x) c ≡ least k g x
least_aside zero v c f g x most h l here there = omega arith
least_aside (suc k) v c f g x most h l here there =
    go (dec_lt v k)
    (λ (l' : v < k). least_aside k v c f g x most h l' here (λ (i z : ℕ) (a : i < k). there i z (le_step a)))
  where
    low : least k g x ≤ most
    low = omega (arith, least_start k g x)

    last : v ≡ k → min (min (least k f x) (f k)) c ≡ min (least k g x) (g k)
    last e =
        let ends : (z : ℕ) → z ≤ most → min (min z (f k)) c ≡ min z (g k) = rw e at here in
        rw (least-alike k f g x most h (λ (i z : ℕ) (a : i < k). there i z (le_step a) (λ (q : i ≡ v). omega arith)))
        (ends (least k g x) low)

    go : Dec (v < k) → (v < k → min (least k f x) c ≡ least k g x) →
        min (min (least k f x) (f k)) c ≡ min (least k g x) (g k)
    go (yes a) before =
        omega (arith, before a, there k (least k g x) (le_refl (suc k)) (λ (q : k ≡ v). omega arith) low)
    go (no a) before = last (omega arith)
