-- Pieces one after the other; where they have one length, their total length and each piece at its place.
use Rattle.std.specs.Prelude.{◌≡◌, refl, List, [], ◌++◌, ℕ, zero, suc, ◌*◌, ◌<◌, length, take, drop}
use Rattle.std.proofs.Common.{◌∙◌, append_assoc, le_refl, not-suc-le-zero, arith, length-append, take_at, drop_at}
use Rattle.std.proofs.Math.Nat.{le_step}
use Rattle.base_lists.specs.Below.{below_suc}

-- f 0 ++ f 1 ++ .. ++ f (n − 1)
module _ {ℓ} {A : Type ℓ} where
  abbrev pub gathered : ℕ → (ℕ → List A) → List A
  gathered zero f = []
  gathered (suc n) f = gathered n f ++ f n

module _ {A : Type 0} where
  pub length-gathered : (n k : ℕ) (f : ℕ → List A) → ((i : ℕ) → i < n → length (f i) ≡ k) →
      length (gathered n f) ≡ k * n
  length-gathered zero k f h = omega arith
  length-gathered (suc n) k f h =
      length-append (gathered n f) (f n)
      ∙ omega (arith, length-gathered n k f (λ (i : ℕ) (l : i < n). h i (le_step l)), h n (le_refl (suc n)))

  pub gathered_cong : (n : ℕ) (f g : ℕ → List A) → ((i : ℕ) → i < n → f i ≡ g i) → gathered n f ≡ gathered n g
  gathered_cong zero f g h = refl
  gathered_cong (suc n) f g h = rw (gathered_cong n f g (λ (i : ℕ) (l : i < n). h i (le_step l)), h n (le_refl (suc n)))

  -- piece i stands k · i places on
  pub gathered-at : (n k : ℕ) (f : ℕ → List A) (rest : List A) → ((i : ℕ) → i < n → length (f i) ≡ k) → (i : ℕ) → i < n
      → take k (drop (k * i) (gathered n f ++ rest)) ≡ f i
  gathered-at zero k f rest h i l = absurd (not-suc-le-zero l)
  gathered-at (suc n) k f rest h i l =
      below_suc (λ (j : ℕ). take k (drop (k * j) (gathered n f ++ f n ++ rest)) ≡ f j) n
      (λ (j : ℕ) (m : j < n).
      rw (append_assoc (gathered n f) (f n) rest)
      (gathered-at n k f (f n ++ rest) (λ (q : ℕ) (b : q < n). h q (le_step b)) j m)) last i l
    where
      last : take k (drop (k * n) (gathered n f ++ f n ++ rest)) ≡ f n
      last =
          let d : drop (k * n) (gathered n f ++ (f n ++ rest)) ≡ f n ++ rest =
          drop_at (gathered n f) (f n ++ rest) (k * n)
          (length-gathered n k f (λ (j : ℕ) (q : j < n). h j (le_step q))) in
          rw (append_assoc (gathered n f) (f n) rest, d) (take_at (f n) rest k (h n (le_refl (suc n))))
