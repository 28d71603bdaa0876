-- What a search finds of a unit is one number: the value that it ends with times 65,536 and the rounds in which it gets
-- there. The tests that code makes of these numbers, and that they say what Settling asks.
use Rattle.std.specs.Prelude.{◌≡◌, ℕ, suc, ◌+◌, ◌-◌, ◌*◌, ◌/◌, ◌%◌, ◌<◌, ◌≤◌, max, Bool, true, cond, ◌&&◌, ◌||◌, ltb}
use Rattle.std.specs.Prelude.{◌⊎◌, List, length, take, ◌==◌, nat_lt, slice_index}
use Rattle.std.proofs.Math.Path.{refl}
use Rattle.std.proofs.Common.{sym, ◌∙◌, inl, inr, add-one, arith, length-take, get_or-take}
use borrow.Author.Tests.{eqb-true, eq-eqb, ne_eqb, ltb-true}
use Rattle.base_lists.specs.Below.{below_more}
use Rattle.base_lists.specs.All.{every-at}
use Rattle.base_lists.specs.Folds.{fold, every}
use Rattle.base_lists.specs.FoldLaws.{max_choice, fold-before, fold_is}
use Rattle.base_lists.specs.Tables.{over}
use Rattle.base_lists.specs.Tests.{and_left, and_right, or_cases}
use Rattle.table.specs.Table.{end_a, end_b}
use Rattle.spec_rules.specs.Basics.{at}
use Rattle.spec_rules.specs.Fits.{EndsWithin}
use Rattle.leap_tests.specs.Settling.{Sooner, Settling}

abbrev pub last_in : ℕ → ℕ
last_in key = key / 65536

abbrev pub wait_in : ℕ → ℕ
wait_in key = key % 65536

-- the same value, and at most one round apart, where both waits are below 65,535
abbrev pub Close : ℕ → ℕ → Type 0
Close x y = wait_in x < 65535 → wait_in y < 65535 →
    (last_in x ≡ last_in y) × ((wait_in x ≤ suc (wait_in y)) × (wait_in y ≤ suc (wait_in x)))

-- a pair of a and b joins v with a unit whose number is one less
abbrev pub leads : List ℕ → ℕ → ℕ → ℕ → Bool
leads key a b v = (a == v && at key b == at key v - 1) || (b == v && at key a == at key v - 1)

-- pair j does
unfoldable pub led : ℕ → List ℕ → List ℕ → ℕ → ℕ → Bool
led m ends key j v = nat_lt j m && leads key (end_a ends j) (end_b ends j) v

-- a unit has the value that it ends with, or a greater one and a neighbour that gets there a round before it
unfoldable pub unit_right : ℕ → List ℕ → List ℕ → List ℕ → List ℕ → ℕ → Bool
unit_right m ends value key via v =
    cond (wait_in (at key v) == 0) (at value v == last_in (at key v))
    (nat_lt (last_in (at key v)) (at value v) && led m ends key (at via v) v)

module _ (m : ℕ) (ends key : List ℕ) (j v : ℕ) (waits : 1 ≤ wait_in (at key v)) where
  led-by : (first second : Bool) → first ≡ (end_a ends j == v && at key (end_b ends j) == at key v - 1)
      → second ≡ (end_b ends j == v && at key (end_a ends j) == at key v - 1) → (first ≡ true) ⊎ (second ≡ true) →
      j < m
      → Sooner m ends (λ (u : ℕ). wait_in (at key u)) v
  led-by first second is is' (inl e) l =
      let t = sym is ∙ e in
      let less : at key (end_b ends j) ≡ at key v - 1 =
      eqb-true (at key (end_b ends j)) (at key v - 1)
      (and_right (end_a ends j == v) (at key (end_b ends j) == at key v - 1) t) in
      record {
        pair = j;
        below = l;
        from = end_b ends j;
        joins = inl (
          eqb-true (end_a ends j) v
              (and_left (end_a ends j == v) (at key (end_b ends j) == at key v - 1) t),
          refl,
        );
        sooner = omega (arith, less, waits);
      }
  led-by first second is is' (inr e) l =
      let t = sym is' ∙ e in
      let less : at key (end_a ends j) ≡ at key v - 1 =
      eqb-true (at key (end_a ends j)) (at key v - 1)
      (and_right (end_b ends j == v) (at key (end_a ends j) == at key v - 1) t) in
      record {
        pair = j;
        below = l;
        from = end_a ends j;
        joins = inr (
          refl,
          eqb-true (end_b ends j) v
              (and_left (end_b ends j == v) (at key (end_a ends j) == at key v - 1) t),
        );
        sooner = omega (arith, less, waits);
      }

  led-sooner : led m ends key j v ≡ true → Sooner m ends (λ (u : ℕ). wait_in (at key u)) v
  unfolding led
  led-sooner e =
      led-by _ _ refl refl
      (or_cases (end_a ends j == v && at key (end_b ends j) == at key v - 1)
      (end_b ends j == v && at key (end_a ends j) == at key v - 1) (and_right (nat_lt j m) _ e))
      (ltb-true j m (and_left (nat_lt j m) _ e))

module _ (m : ℕ) (ends value key via : List ℕ) (v : ℕ) (e : unit_right m ends value key via v ≡ true) where
  unit-there : wait_in (at key v) ≡ 0 → at value v ≡ last_in (at key v)
  unfolding unit_right
  unit-there z = eqb-true (at value v) (last_in (at key v)) (rw (eq-eqb (wait_in (at key v)) 0 z) at e)

  unit-waits : 1 ≤ wait_in (at key v) → (nat_lt (last_in (at key v)) (at value v) && led m ends key (at via v) v) ≡ true
  unfolding unit_right
  unit-waits z = rw (ne_eqb (wait_in (at key v)) 0 (λ q. omega arith)) at e

-- what the tests say
pub settling-found : (n m : ℕ) (ends value key via : List ℕ) → n ≤ length value → EndsWithin n m ends →
    ((v : ℕ) → v < n → wait_in (at key v) < 65535)
    → ((j : ℕ) → j < m → Close (at key (end_a ends j)) (at key (end_b ends j))) →
    ((v : ℕ) → v < n → unit_right m ends value key via v ≡ true)
    → Settling n m ends value (λ (v : ℕ). last_in (at key v)) (λ (v : ℕ). wait_in (at key v))
settling-found n m ends value key via room ok few pairs units =
    record {
      room = room;
      within = within;
      same = λ j l. (close j l).0;
      near = λ j l. (close j l).1;
      there = λ v h z. unit-there m ends value key via v (units v h) z;
      above = λ v h z. ltb-true (last_in (at key v)) (at value v)
          (and_left _ (led m ends key (at via v) v) (unit-waits m ends value key via v (units v h) z));
      way = λ v h z.
          led-sooner m ends key (at via v) v z
          (and_right (nat_lt (last_in (at key v)) (at value v)) (led m ends key (at via v) v)
          (unit-waits m ends value key via v (units v h) z));
    }
  where
    within : (j : ℕ) → j < m → (end_a ends j < n) × (end_b ends j < n)
    within j l = (ok.1 (2 * j) (omega arith), ok.1 (2 * j + 1) (omega arith))

    close : (j : ℕ) → (l : j < m)
        → (last_in (at key (end_a ends j)) ≡ last_in (at key (end_b ends j)))
        × ((wait_in (at key (end_a ends j)) ≤ suc (wait_in (at key (end_b ends j))))
        × (wait_in (at key (end_b ends j)) ≤ suc (wait_in (at key (end_a ends j)))))
    close j l = pairs j l (few (end_a ends j) (within j l).0) (few (end_b ends j) (within j l).1)

-- what the units end with, and after how many rounds the last of them has it
pub record Found (n m : ℕ) (ends value ended : List ℕ) (rounds : ℕ) : Type 0 where
  pub last : ℕ → ℕ
  pub wait : ℕ → ℕ
  pub settling : Settling n m ends value last wait
  pub all : ended ≡ over n last value
  pub most : (v : ℕ) → v < n → wait v ≤ rounds
  pub some : (rounds ≡ 0) ⊎ ((v : ℕ) × (v < n) × (rounds ≡ wait v))

pub found : (n m : ℕ) (ends value key via ended : List ℕ) (rounds : ℕ) → n ≤ length value → EndsWithin n m ends →
    rounds < 65535
    → ((j : ℕ) → j < m → Close (at key (end_a ends j)) (at key (end_b ends j))) →
    ((v : ℕ) → v < n → unit_right m ends value key via v ≡ true)
    → rounds ≡ fold max n (λ (v : ℕ). wait_in (at key v)) 0 → ended ≡ over n (λ (v : ℕ). last_in (at key v)) value
    → Found n m ends value ended rounds
found n m ends value key via ended rounds room ok few pairs units is all =
    record {
      last = λ (v : ℕ). last_in (at key v);
      wait = λ (v : ℕ). wait_in (at key v);
      settling = settling-found n m ends value key via room ok (λ v h. omega (arith, most v h, few)) pairs units;
      all = all;
      most = most;
      some = rw is (fold_is max_choice n (λ (v : ℕ). wait_in (at key v)) 0);
    }
  where
    most : (v : ℕ) → v < n → wait_in (at key v) ≤ rounds
    most v h = rw is (fold-before max_choice n (λ (v : ℕ). wait_in (at key v)) 0 v h)

-- ---- loops over pairs and units

-- a test of one number more
pub all_more : (p : ℕ → Bool) (k : ℕ) (was new : Bool) → (was ≡ true → (i : ℕ) → i < k → p i ≡ true) →
    new ≡ (was && p k)
    → new ≡ true → (i : ℕ) → i < k + 1 → p i ≡ true
all_more p k was new before put e =
    let both : (was && p k) ≡ true = sym put ∙ e in
    below_more (λ (i : ℕ). p i ≡ true) k (before (and_left was (p k) both)) (and_right was (p k) both)

-- the greatest of one more
pub fold_more : (f : ℕ → ℕ) (k most new : ℕ) → most ≡ fold max k f 0 → new ≡ max most (f k) → new ≡ fold max (k + 1) f 0
fold_more f k most new was put = rw (put, was, add-one k) refl

-- a bound of one more
pub bound-more : (P : ℕ → Type 0) (k most new x : ℕ) → (most ≤ 2 → (i : ℕ) → i < k → P i) → (x ≤ 2 → P k) →
    new ≡ max most x
    → new ≤ 2 → (i : ℕ) → i < k + 1 → P i
bound-more P k most new x before here put l = below_more P k (before (omega (arith, put))) (here (omega (arith, put)))

-- ends that are all below n, as a test of the first words of a table says
pub within_all : (n m : ℕ) (ends : List ℕ) → 2 * m ≤ length ends →
    every (λ (x : ℕ). ltb x n) (take (2 * m) ends) ≡ true → EndsWithin n m ends
within_all n m ends room e = (room, below)
  where
    below : (i : ℕ) → i < 2 * m → slice_index ends i < n
    below i h =
        let t = take (2 * m) ends in
        let in-t : i < length t = rw (length-take (2 * m) ends) (omega (arith, h, room)) in
        rw (get_or-take (2 * m) ends i 0 h) at
        (ltb-true (slice_index t i) n (every-at (λ (x : ℕ). ltb x n) t i 0 e in-t))

-- units that exist are below 256
pub within-few : (n m : ℕ) (ends : List ℕ) → n ≤ 256 → EndsWithin n m ends → EndsWithin 256 m ends
within-few n m ends few ok = (ok.0, λ i h. omega (arith, ok.1 i h))

-- all tests together
pub found-by : (n m : ℕ) (ends value key via ended : List ℕ) (rounds : ℕ) (one two both right : Bool) →
    n ≤ length value → EndsWithin n m ends
    → (one ≡ true → (j : ℕ) → j < m → Close (at key (end_a ends j)) (at key (end_b ends j))) →
    (two ≡ true → (v : ℕ) → v < n → unit_right m ends value key via v ≡ true)
    → rounds ≡ fold max n (λ (v : ℕ). wait_in (at key v)) 0 → ended ≡ over n (λ (v : ℕ). last_in (at key v)) value
    → both ≡ (one && two) → right ≡ (nat_lt rounds 65535 && both) → right ≡ true → Found n m ends value ended rounds
found-by n m ends value key via ended rounds one two both right room ok pairs units is all b r e =
    let t : (nat_lt rounds 65535 && both) ≡ true = sym r ∙ e in
    let u : (one && two) ≡ true = sym b ∙ and_right (nat_lt rounds 65535) both t in
    found n m ends value key via ended rounds room ok (ltb-true rounds 65535 (and_left (nat_lt rounds 65535) both t))
    (pairs (and_left one two u)) (units (and_right one two u)) is all
