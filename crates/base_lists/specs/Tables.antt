-- Tables made over a range: entry i is f i. The head waits in a `let`, so that a table costs its length and not its
-- square.
use Rattle.std.specs.Prelude.{◌≡◌, refl, List, [], ◌∷◌, ℕ, zero, suc, ◌≤◌, ◌<◌, length, get_or, set}
use Rattle.std.proofs.Common.{ap, ap₂, ◌∙◌, zero-le, suc-le-suc, le_of_suc-le-suc, not-suc-le-zero}

module _ {ℓ} {A : Type ℓ} where
  -- f 0, f 1, .., f (n − 1)
  abbrev pub tab : ℕ → (ℕ → A) → List A
  tab zero f = []
  tab (suc n) f = let h = f zero in h ∷ tab n (λ (k : ℕ). f (suc k))

  pub get_d_tab : (n : ℕ) (f : ℕ → A) (i : ℕ) (d : A) → i < n → get_or (tab n f) i d ≡ f i
  get_d_tab zero f i d h = absurd (not-suc-le-zero h)
  get_d_tab (suc n) f zero d h = refl
  get_d_tab (suc n) f (suc i) d h = get_d_tab n (λ (k : ℕ). f (suc k)) i d (le_of_suc-le-suc h)

  listed : (l : List A) (d : A) → l ≡ tab (length l) (λ (i : ℕ). get_or l i d)
  listed [] d = refl
  listed (x ∷ l) d = ap (λ (t : List A). x ∷ t) (listed l d)

  -- a list of known length is the table of its elements, so that they can be written out
  pub listed_as : (l : List A) (d : A) (n : ℕ) → length l ≡ n → l ≡ tab n (λ (i : ℕ). get_or l i d)
  listed_as l d n e = listed l d ∙ ap (λ (k : ℕ). tab k (λ (i : ℕ). get_or l i d)) e

-- A table after a round: its entries below n made anew, those from n on as they were.
module _ {ℓ} {A : Type ℓ} where
  abbrev pub over : ℕ → (ℕ → A) → List A → List A
  over zero f old = old
  over (suc n) f [] = []
  over (suc n) f (x ∷ old) = let h = f zero in h ∷ over n (λ (k : ℕ). f (suc k)) old

  pub length_over : (n : ℕ) (f : ℕ → A) (old : List A) → length (over n f old) ≡ length old
  length_over zero f old = refl
  length_over (suc n) f [] = refl
  length_over (suc n) f (x ∷ old) = ap suc (length_over n (λ (k : ℕ). f (suc k)) old)

  -- an entry below n
  pub get_d_over : (n : ℕ) (f : ℕ → A) (old : List A) (i : ℕ) (d : A) → i < n → i < length old →
      get_or (over n f old) i d ≡ f i
  get_d_over zero f old i d h l = absurd (not-suc-le-zero h)
  get_d_over (suc n) f [] i d h l = absurd (not-suc-le-zero l)
  get_d_over (suc n) f (x ∷ old) zero d h l = refl
  get_d_over (suc n) f (x ∷ old) (suc i) d h l =
      get_d_over n (λ (k : ℕ). f (suc k)) old i d (le_of_suc-le-suc h) (le_of_suc-le-suc l)

  -- an entry from n on
  pub get_d_over_past : (n : ℕ) (f : ℕ → A) (old : List A) (i : ℕ) (d : A) → n ≤ i →
      get_or (over n f old) i d ≡ get_or old i d
  get_d_over_past zero f old i d h = refl
  get_d_over_past (suc n) f [] i d h = refl
  get_d_over_past (suc n) f (x ∷ old) zero d h = absurd (not-suc-le-zero h)
  get_d_over_past (suc n) f (x ∷ old) (suc i) d h =
      get_d_over_past n (λ (k : ℕ). f (suc k)) old i d (le_of_suc-le-suc h)

  -- one entry more, as a loop stores it
  pub set-over : (n : ℕ) (f : ℕ → A) (old : List A) → set (over n f old) n (f n) ≡ over (suc n) f old
  set-over zero f [] = refl
  set-over zero f (x ∷ old) = refl
  set-over (suc n) f [] = refl
  set-over (suc n) f (x ∷ old) = ap {B = List A} (λ (l : List A). f zero ∷ l) (set-over n (λ (k : ℕ). f (suc k)) old)

  -- made anew twice is made anew once: what the entries below n were does not matter
  pub over-over : (n : ℕ) (f g : ℕ → A) (old : List A) → over n f (over n g old) ≡ over n f old
  over-over zero f g old = refl
  over-over (suc n) f g [] = refl
  over-over (suc n) f g (x ∷ old) = ap {B = List A} (λ (l : List A). f zero ∷ l)
      (over-over n (λ (k : ℕ). f (suc k)) (λ (k : ℕ). g (suc k)) old)

  pub over_cong : (n : ℕ) (f g : ℕ → A) (old : List A) → ((i : ℕ) → i < n → f i ≡ g i) → over n f old ≡ over n g old
  over_cong zero f g old h = refl
  over_cong (suc n) f g [] h = refl
  over_cong (suc n) f g (x ∷ old) h =
      ap₂ (λ (y : A) (l : List A). y ∷ l) (h zero (suc-le-suc zero-le))
      (over_cong n (λ (k : ℕ). f (suc k)) (λ (k : ℕ). g (suc k)) old (λ (i : ℕ) (l : i < n). h (suc i) (suc-le-suc l)))
