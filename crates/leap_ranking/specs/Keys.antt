-- What a walk finds of an object is one number, its key: the rank times 65,536 and the sum. The tests that code makes
-- of these numbers, and that they say what Found asks.
use Rattle.std.specs.Prelude.{◌≡◌, ℕ, ◌+◌, ◌/◌, ◌%◌, ◌<◌, ◌≤◌, max, Bool, true, cond, ◌&&◌, ◌⊎◌, List, length, ◌==◌}
use Rattle.std.specs.Prelude.{◌≢◌, nat_lt, refl}
use Rattle.std.proofs.Common.{sym, ap, ◌∙◌, inl, inr, add-one, arith}
use Rattle.std.proofs.Math.Decide.{ℕ_discrete}
use borrow.Author.Tests.{eqb-true, eq-eqb, ne_eqb, ltb-true, leb-true}
use Rattle.base_lists.specs.All.{every-at}
use Rattle.base_lists.specs.Folds.{fold, every}
use Rattle.base_lists.specs.Folds as Folds
use Rattle.base_lists.specs.FoldLaws.{max_choice, fold_cong, fold-before, fold_is}
use Rattle.base_lists.specs.Sums.{sum_cong}
use Rattle.base_lists.specs.Tables.{over, length_over, get_d_over}
use Rattle.base_lists.specs.Tests.{and_left, and_right}
use Rattle.spec_rules.specs.Basics.{ABSENT, MAX-NUMBER, at}
use Rattle.spec_rules.specs.Bounds.{number_ok}
use Rattle.leap_ranking.specs.Ranked.{digits, digits_of, First, Follows, Ranked}
use Rattle.leap_ranking.specs.Leapt.{Found}

abbrev pub rank_in : ℕ → ℕ
rank_in key = key / 65536

abbrev pub sum_in : ℕ → ℕ
sum_in key = key % 65536

-- object a is the first of its list and has its own sum, or comes one rank after its predecessor and adds its own sum
unfoldable pub key_right : ℕ → List ℕ → List ℕ → List ℕ → ℕ → Bool
key_right k jump sum key a =
    cond (at jump a == ABSENT) (at key a == at sum a)
    (nat_lt (at jump a) k && at key a == at key (at jump a) + (65536 + at sum a))

-- how often an object asks, by a table of ranks
abbrev pub digits_at : List ℕ → ℕ → ℕ
digits_at rank a = digits (at rank a)

-- numbers whose sums pass no bound
pub numbers-below : (t : List ℕ) (i : ℕ) → i < length t → every number_ok t ≡ true → at t i ≤ MAX-NUMBER
numbers-below t i l e = leb-true (at t i) MAX-NUMBER (every-at number_ok t i 0 e l)

module _ (k : ℕ) (jump sum key : List ℕ) (a : ℕ) (e : key_right k jump sum key a ≡ true) where
  first_key : at jump a ≡ ABSENT → at key a ≡ at sum a
  unfolding key_right
  first_key z = eqb-true (at key a) (at sum a) (rw (eq-eqb (at jump a) ABSENT z) at e)

  next-key : (at jump a ≢ ABSENT) → (at jump a < k) × (at key a ≡ at key (at jump a) + (65536 + at sum a))
  unfolding key_right
  next-key z =
      let t : (nat_lt (at jump a) k && at key a == at key (at jump a) + (65536 + at sum a)) ≡ true =
      rw (ne_eqb (at jump a) ABSENT z) at e in (
        ltb-true (at jump a) k (and_left (nat_lt (at jump a) k) _ t),
        eqb-true (at key a) (at key (at jump a) + (65536 + at sum a)) (and_right (nat_lt (at jump a) k) _ t),
      )

-- what the tests say
module _ (k : ℕ) (jump sum key ended : List ℕ) (few : k ≤ 512) (jumps : k ≤ length jump) (sums : k ≤ length sum)
    (all : ended ≡ over k (λ (a : ℕ). sum_in (at key a)) sum)
    (own : every number_ok sum ≡ true) (whole : every number_ok ended ≡ true) (each : (a : ℕ) → a < k →
    key_right k jump sum key a ≡ true) where
  own_below : (a : ℕ) → a < k → at sum a ≤ MAX-NUMBER
  own_below a l = numbers-below sum a (omega (arith, l, sums)) own

  sum_below : (a : ℕ) → a < k → sum_in (at key a) ≤ MAX-NUMBER
  sum_below a l =
      let long : length ended ≡ length sum = rw all (length_over k (λ (a : ℕ). sum_in (at key a)) sum) in
      let is : at ended a ≡ sum_in (at key a) =
      rw all (get_d_over k (λ (a : ℕ). sum_in (at key a)) sum a 0 l (omega (arith, l, sums))) in
      omega (arith, is, numbers-below ended a (omega (arith, l, sums, long)) whole)

  ranked-keys : Ranked k jump sum (λ (a : ℕ). rank_in (at key a)) (λ (a : ℕ). sum_in (at key a))
  ranked-keys =
      record {
        few = omega (arith, few);
        jumps = jumps;
        sums = sums;
        each = λ a l. go a l (ℕ_discrete (at jump a) ABSENT);
        small = sum_below;
      }
    where
      go : (a : ℕ) → a < k → Dec (at jump a ≡ ABSENT)
          → First jump sum (λ (a : ℕ). rank_in (at key a)) (λ (a : ℕ). sum_in (at key a)) a
          ⊎ Follows k jump sum (λ (a : ℕ). rank_in (at key a)) (λ (a : ℕ). sum_in (at key a)) a
      go a l (yes e) =
          let is : at key a ≡ at sum a = first_key k jump sum key a (each a l) e in
          inl (record { none = e; ranks = omega (arith, is, own_below a l); sums = omega (arith, is, own_below a l) })
      go a l (no e) =
          let (below, is) = next-key k jump sum key a (each a l) e in
          let b = sum_below (at jump a) below in
          inr (record {
            below = below;
            ranks = omega (arith, is, own_below a l, b);
            sums = omega (arith, is, own_below a l, b);
          })

  module _ (ranks : List ℕ) (ranked : ranks ≡ over k (λ (a : ℕ). rank_in (at key a)) sum) where
    rank-at : (a : ℕ) → a < k → digits_at ranks a ≡ digits (rank_in (at key a))
    rank-at a l = ap digits
        (rw ranked (get_d_over k (λ (a : ℕ). rank_in (at key a)) sum a 0 l (omega (arith, l, sums))))

    found-keys : (requests rounds : ℕ) → requests ≡ Folds.sum k (digits_at ranks) →
        rounds ≡ fold max k (digits_at ranks) 0 → Found k jump sum ended requests rounds
    unfolding digits_of
    found-keys requests rounds asks is =
        let each-asks : ℕ → ℕ = λ (a : ℕ). digits (rank_in (at key a)) in
        let most : rounds ≡ fold max k each-asks 0 = is ∙ fold_cong max k (digits_at ranks) each-asks 0 rank-at in
        record {
          rank = λ (a : ℕ). rank_in (at key a);
          total = λ (a : ℕ). sum_in (at key a);
          ranked = ranked-keys;
          all = all;
          asked = asks ∙ sum_cong k (digits_at ranks) each-asks rank-at;
          most = λ a l. rw most (fold-before max_choice k each-asks 0 a l);
          some = rw most (fold_is max_choice k each-asks 0);
        }

-- all tests together
pub found-by : (k : ℕ) (jump sum key ended ranks : List ℕ) (requests rounds : ℕ) (one two three both right : Bool) →
    k ≤ 512 → k ≤ length jump → k ≤ length sum
    → ended ≡ over k (λ (a : ℕ). sum_in (at key a)) sum → ranks ≡ over k (λ (a : ℕ). rank_in (at key a)) sum →
    one ≡ every number_ok sum → two ≡ every number_ok ended
    → (three ≡ true → (a : ℕ) → a < k → key_right k jump sum key a ≡ true)
    → requests ≡ Folds.sum k (digits_at ranks) → rounds ≡ fold max k (digits_at ranks) 0
    → both ≡ (one && two) → right ≡ (both && three) → right ≡ true → Found k jump sum ended requests rounds
found-by k jump sum key ended ranks requests rounds one two three both right few jumps sums all ranked own whole each
    asks is b r e =
    let t : (both && three) ≡ true = sym r ∙ e in
    let u : (one && two) ≡ true = sym b ∙ and_left both three t in
    found-keys k jump sum key ended few jumps sums all (sym own ∙ and_left one two u) (sym whole
    ∙ and_right one two u) (each (and_right both three t)) ranks ranked requests rounds asks is

-- ---- loops over objects

-- a fold over one object more
pub fold_more : (op : ℕ → ℕ → ℕ) (f : ℕ → ℕ) (k was new : ℕ) → was ≡ fold op k f 0 → new ≡ op was (f k) →
    new ≡ fold op (k + 1) f 0
fold_more op f k was new before put = rw (put, before, add-one k) refl
