-- Numbers and tests that may have no value, and the words of the rules over them. A read at an absent or missing place,
-- half of an odd number and a difference below 0 have none; whatever needs one that is missing has none either, and
-- what is not needed is not looked at.
use Rattle.std.specs.Prelude.{◌≡◌, refl, Bool, true, false, cond, not, ◌&&◌, ◌||◌, List, [], ◌∷◌, ℕ, zero, suc, ◌+◌}
use Rattle.std.specs.Prelude.{◌*◌, ◌-◌, ◌/◌, ◌%◌, ◌≤◌, ◌<◌, min, eqb, leb, ltb}
use Rattle.std.proofs.Math.Option.{Option, none, some, map}
use Rattle.std.proofs.Common.{zero-le, suc-le-suc, le_refl, arith, eq-eqb, le-leb, lt-ltb}
use Rattle.std.proofs.Math.Nat.{le_step}
use Rattle.base_lists.specs.Tables.{over}
use Rattle.base_lists.specs.Folds.{fold, count, some as any}
use Rattle.spec_rules.specs.Basics.{ABSENT, at}

infixl 20 ◌>>=◌
abbrev pub Value : Type 0
Value = Option ℕ

abbrev pub Test : Type 0
Test = Option Bool

-- ---- what may have no value

-- the entry at an index below k. The arrays have k entries and more (`Sized`), so that each such index has one
unfoldable pub at? : ℕ → List ℕ → Value → Value
at? k t none = none
at? k t (some i) = cond (ltb i k) (some (at t i)) none

unfoldable pub half? : Value → Value
half? none = none
half? (some a) = cond (eqb (a % 2) 0) (some (a / 2)) none

unfoldable pub minus? : Value → Value → Value
minus? none b = none
minus? (some a) none = none
minus? (some a) (some b) = cond (leb b a) (some (a - b)) none

-- at the edges there is none
no_absent : (t : List ℕ) → at? 2 t (some ABSENT) ≡ none
unfolding at?
no_absent t = refl

no_missing : (t : List ℕ) → at? 2 t (some 2) ≡ none
unfolding at?
no_missing t = refl

no_half : half? (some 3) ≡ none
unfolding half?
no_half = refl

no_negative : minus? (some 1) (some 2) ≡ none
unfolding minus?
no_negative = refl

-- ---- what has a value where its parts have

abbrev pub absent : Value
absent = some ABSENT

module _ {A B : Type 0} where
  -- go on with a value
  abbrev pub ◌>>=◌ : Option A → (A → Option B) → Option B
  ◌>>=◌ none f = none
  ◌>>=◌ (some a) f = f a

-- an operation on two values
unfoldable pub both? : {A B C : Type 0} → (A → B → C) → Option A → Option B → Option C
both? f none b = none
both? f (some a) none = none
both? f (some a) (some b) = some (f a b)

abbrev pub plus? : Value → Value → Value
plus? = both? ◌+◌

abbrev pub times? : Value → Value → Value
times? = both? ◌*◌

abbrev pub remainder? : Value → Value → Value
remainder? = both? ◌%◌

abbrev pub eq? : Value → Value → Test
eq? = both? eqb

abbrev pub lt? : Value → Value → Test
lt? = both? ltb

abbrev pub le? : Value → Value → Test
le? = both? leb

-- ---- tests: the second part, or a branch, counts only where it is needed

unfoldable pub not? : Test → Test
not? none = none
not? (some b) = some (not b)

unfoldable pub and? : Test → Test → Test
and? none u = none
and? (some b) u = cond b u (some false)

unfoldable pub or? : Test → Test → Test
or? none u = none
or? (some b) u = cond b (some true) u

unfoldable pub if? : {A : Type 0} → Test → Option A → Option A → Option A
if? none x y = none
if? (some b) x y = cond b x y

-- ---- folds over the numbers below n, and tables

unfoldable pub fold? : (ℕ → ℕ → ℕ) → ℕ → (Value → Value) → Value → Value
fold? op zero f x = x
fold? op (suc n) f x = both? op (fold? op n f x) (f (some n))

abbrev pub least? : ℕ → (Value → Value) → Value → Value
least? = fold? min

abbrev pub count? : ℕ → (Value → Test) → Value
count? n p = fold? ◌+◌ n (λ (i : Value). if? (p i) (some 1) (some 0)) (some 0)

unfoldable pub any? : ℕ → (Value → Test) → Test
any? zero p = some false
any? (suc n) p = or? (any? n p) (p (some n))

-- a table after a round: its entries below n made anew
unfoldable pub over? : ℕ → (Value → Value) → List ℕ → Option (List ℕ)
over? zero f old = some old
over? (suc n) f [] = some []
over? (suc n) f (x ∷ old) = both? ◌∷◌ (f (some zero)) (over? n (λ (i : Value). f (map suc i)) old)

-- ---- each has the value of the plain word

pub read : (k : ℕ) (t : List ℕ) {j : Value} {i : ℕ} → j ≡ some i → i < k → at? k t j ≡ some (at t i)
unfolding at?
read k t {j} {i} e l = rw (e, lt-ltb i k l) refl

pub half : {x : Value} {a : ℕ} (b : ℕ) → x ≡ some a → a ≡ 2 * b → half? x ≡ some b
unfolding half?
half {x} {a} b e h =
    let even : a % 2 ≡ 0 = omega arith in
    let twice : a / 2 ≡ b = omega arith in
    rw (e, eq-eqb (a % 2) 0 even, twice) refl

pub minus : {x y : Value} {a b : ℕ} → x ≡ some a → y ≡ some b → b ≤ a → minus? x y ≡ some (a - b)
unfolding minus?
minus {x} {y} {a} {b} e f l = rw (e, f, le-leb b a l) refl

pub both : {A B C : Type 0} (f : A → B → C) {x : Option A} {y : Option B} {a : A} {b : B} → x ≡ some a → y ≡ some b →
    both? f x y ≡ some (f a b)
unfolding both?
both f e g = rw (e, g) refl

pub nots : {t : Test} {b : Bool} → t ≡ some b → not? t ≡ some (not b)
unfolding not?
nots e = rw e refl

pub ands : {t u : Test} {b c : Bool} → t ≡ some b → (b ≡ true → u ≡ some c) → and? t u ≡ some (b && c)
unfolding and?
ands {b = true} e f = rw e (f refl)
ands {b = false} e f = rw e refl

pub ors : {t u : Test} {b c : Bool} → t ≡ some b → (b ≡ false → u ≡ some c) → or? t u ≡ some (b || c)
unfolding or?
ors {b = true} e f = rw e refl
ors {b = false} e f = rw e (f refl)

pub ifs : {A : Type 0} {t : Test} {b : Bool} {x y : Option A} {u v : A} → t ≡ some b → (b ≡ true → x ≡ some u) →
    (b ≡ false → y ≡ some v) → if? t x y ≡ some (cond b u v)
unfolding if?
ifs {b = true} e f g = rw e (f refl)
ifs {b = false} e f g = rw e (g refl)

-- the same of a test that has its value
pub conds : {A : Type 0} (b : Bool) {x y : Option A} {u v : A} → (b ≡ true → x ≡ some u) → (b ≡ false → y ≡ some v) →
    cond b x y ≡ some (cond b u v)
conds true f g = f refl
conds false f g = g refl

pub folds : (op : ℕ → ℕ → ℕ) (n : ℕ) (f : Value → Value) (g : ℕ → ℕ) {x : Value} {a : ℕ} →
    ((i : ℕ) → i < n → f (some i) ≡ some (g i)) → x ≡ some a
    → fold? op n f x ≡ some (fold op n g a)
unfolding fold?
folds op zero f g h e = e
folds op (suc n) f g h e = both op (folds op n f g (λ (i : ℕ) (l : i < n). h i (le_step l)) e) (h n (le_refl (suc n)))

pub counts : (n : ℕ) (p : Value → Test) (q : ℕ → Bool) → ((i : ℕ) → i < n → p (some i) ≡ some (q i)) →
    count? n p ≡ some (count n q)
counts n p q h = folds ◌+◌ n _ (λ (i : ℕ). cond (q i) 1 0) (λ i l. ifs (h i l) (λ e. refl) (λ e. refl)) refl

pub anys : (n : ℕ) (p : Value → Test) (q : ℕ → Bool) → ((i : ℕ) → i < n → p (some i) ≡ some (q i)) →
    any? n p ≡ some (any n q)
unfolding any?
anys zero p q h = refl
anys (suc n) p q h = ors (anys n p q (λ (i : ℕ) (l : i < n). h i (le_step l))) (λ e. h n (le_refl (suc n)))

pub overs : (n : ℕ) (f : Value → Value) (g : ℕ → ℕ) (old : List ℕ) → ((i : ℕ) → i < n → f (some i) ≡ some (g i)) →
    over? n f old ≡ some (over n g old)
unfolding over?
overs zero f g old h = refl
overs (suc n) f g [] h = refl
overs (suc n) f g (x ∷ old) h =
    both ◌∷◌ (h zero (suc-le-suc zero-le))
    (overs n (λ (i : Value). f (map suc i)) (λ (k : ℕ). g (suc k)) old
    (λ (i : ℕ) (l : i < n). h (suc i) (suc-le-suc l)))
