-- Objects ranked ahead: for each the objects that stand before it in its list, and the sum over these and itself, right
-- over every object. A round leaves the sums right and halves the ranks; where they come from does not matter.
use Rattle.std.specs.Prelude.{◌≡◌, ℕ, zero, suc, ◌+◌, ◌/◌, ◌^◌, ◌<◌, ◌≤◌, true, false, cond, ◌⊎◌, List, length, ◌==◌}
use Rattle.std.specs.Prelude.{refl}
use Rattle.std.proofs.Math.Path.{sym, ap}
use Rattle.std.proofs.Common.{◌∙◌, inl, inr, le_antisymm, arith}
use borrow.Author.Tests.{eq-eqb, ne_eqb}
use Rattle.base_lists.specs.Counts.{count_none, count-positive}
use Rattle.base_lists.specs.Folds.{count}
use Rattle.base_lists.specs.Folds as Folds
use Rattle.base_lists.specs.Sums.{sum_cong, sum-add}
use Rattle.base_lists.specs.Tables.{over}
use Rattle.base_lists.specs.Rounds.{over-same}
use Rattle.base_log2.specs.Lg.{lg}
use Rattle.base_log2.specs.LgLaws.{lg-reaches, lg-least, lg-small}
use Rattle.spec_rules.specs.Basics.{ABSENT, MAX-NUMBER, at}
use Rattle.spec_rules.specs.Ranking.{asks, jump_round, sum_round, requests_of, ranking_ends}
use Rattle.spec_rules.specs.RankingLaws.{length-jumps, length-sums, silent, asking, jump_kept, jump-taken, sum_kept}
use Rattle.spec_rules.specs.RankingLaws.{sum-taken, sums-still}

-- ---- digits

-- the binary digits of a rank: how often it is halved until it is 0
abbrev pub digits : ℕ → ℕ
digits r = lg (r + 1)

pub digits-none : digits 0 ≡ 0
digits-none = sym (lg-small 1 (omega arith))

-- a half has one less
pub digits-half : (r : ℕ) → 1 ≤ r → digits r ≡ suc (digits (r / 2))
digits-half r h = le_antisymm most (least (lg (r + 1)) (lg-reaches (r + 1)))
  where
    most : lg (r + 1) ≤ suc (lg (r / 2 + 1))
    most = lg-least (r + 1) (suc (lg (r / 2 + 1))) (omega (arith, lg-reaches (r / 2 + 1)))

    least : (k : ℕ) → r + 1 ≤ 2 ^ k → suc (lg (r / 2 + 1)) ≤ k
    least zero l = absurd (omega arith)
    least (suc k) l = omega (arith, lg-least (r / 2 + 1) k (omega arith))

-- the digits of all ranks
unfoldable pub digits_of : ℕ → (ℕ → ℕ) → ℕ
digits_of k rank = Folds.sum k (λ (a : ℕ). digits (rank a))

-- ---- ranks and sums that are right

-- object a is the first of its list, or follows another
pub record First (jump sum : List ℕ) (rank total : ℕ → ℕ) (a : ℕ) : Type 0 where
  pub none : at jump a ≡ ABSENT
  pub ranks : rank a ≡ 0
  pub sums : total a ≡ at sum a

pub record Follows (k : ℕ) (jump sum : List ℕ) (rank total : ℕ → ℕ) (a : ℕ) : Type 0 where
  pub below : at jump a < k
  pub ranks : rank a ≡ suc (rank (at jump a))
  pub sums : total a ≡ at sum a + total (at jump a)

pub record Ranked (k : ℕ) (jump sum : List ℕ) (rank total : ℕ → ℕ) : Type 0 where
  pub few : k ≤ ABSENT
  pub jumps : k ≤ length jump
  pub sums : k ≤ length sum
  pub each : (a : ℕ) → a < k → First jump sum rank total a ⊎ Follows k jump sum rank total a
  pub small : (a : ℕ) → a < k → total a ≤ MAX-NUMBER

-- ---- one round

module _ (k : ℕ) (jump sum : List ℕ) (rank total : ℕ → ℕ) (s : Ranked k jump sum rank total) where
  -- the first of a list stays
  first-stays : (a : ℕ) → a < k → First jump sum rank total a →
      First (jump_round k jump) (sum_round k jump sum) (λ (a : ℕ). rank a / 2) total a
  first-stays a l f =
      record {
        none = jump_kept k jump a l s.jumps f.none ∙ f.none;
        ranks = rw f.ranks refl;
        sums = f.sums ∙ sym (sum_kept k jump sum a l s.sums f.none);
      }

  -- who follows it is a first one now; who follows another follows the one before that
  follows_on : (a : ℕ) → a < k → (f : Follows k jump sum rank total a)
      → First jump sum rank total (at jump a) ⊎ Follows k jump sum rank total (at jump a)
      → First (jump_round k jump) (sum_round k jump sum) (λ (a : ℕ). rank a / 2) total a
      ⊎ Follows k (jump_round k jump) (sum_round k jump sum) (λ (a : ℕ). rank a / 2) total a
  follows_on a l f (inl g) =
      let b = at jump a in
      let some : b < ABSENT = omega (arith, f.below, s.few) in
      let new : at (sum_round k jump sum) a ≡ total a =
      sum-taken k jump sum a l s.sums some ∙ omega (arith, f.sums, g.sums, s.small a l) in
      inl (record {
        none = jump-taken k jump a l s.jumps some ∙ g.none;
        ranks = omega (arith, f.ranks, g.ranks);
        sums = sym new;
      })
  follows_on a l f (inr g) =
      let b = at jump a in
      let some : b < ABSENT = omega (arith, f.below, s.few) in
      let new : at (jump_round k jump) a ≡ at jump b = jump-taken k jump a l s.jumps some in
      let own : at (sum_round k jump sum) a ≡ at sum a + at sum b =
      sum-taken k jump sum a l s.sums some ∙ omega (arith, f.sums, g.sums, s.small a l) in
      inr (record {
        below = rw new g.below;
        ranks = rw new (omega (arith, f.ranks, g.ranks));
        sums = rw (new, own) (omega (arith, f.sums, g.sums));
      })

  pub ranked-round : Ranked k (jump_round k jump) (sum_round k jump sum) (λ (a : ℕ). rank a / 2) total
  ranked-round =
      record {
        few = s.few;
        jumps = omega (arith, s.jumps, length-jumps k jump);
        sums = omega (arith, s.sums, length-sums k jump sum);
        each = λ a l. go a l (s.each a l);
        small = s.small;
      }
    where
      go : (a : ℕ) → a < k → First jump sum rank total a ⊎ Follows k jump sum rank total a
          → First (jump_round k jump) (sum_round k jump sum) (λ (a : ℕ). rank a / 2) total a
          ⊎ Follows k (jump_round k jump) (sum_round k jump sum) (λ (a : ℕ). rank a / 2) total a
      go a l (inl f) = inl (first-stays a l f)
      go a l (inr f) = follows_on a l f (s.each (at jump a) f.below)

  -- ---- requests

  -- an object asks once for each digit of its rank
  asks-once : (a : ℕ) → a < k → digits (rank a) ≡ cond (asks jump a) 1 0 + digits (rank a / 2)
  asks-once a l = go (s.each a l)
    where
      go : First jump sum rank total a ⊎ Follows k jump sum rank total a →
          digits (rank a) ≡ cond (asks jump a) 1 0 + digits (rank a / 2)
      go (inl f) =
          let half : rank a / 2 ≡ rank a = omega (arith, f.ranks) in
          rw (silent jump a f.none, half) (omega arith)
      go (inr f) =
          let some : at jump a < ABSENT = omega (arith, f.below, s.few) in
          rw (asking jump a some) (omega (arith, digits-half (rank a) (omega (arith, f.ranks))))

  pub requests-now : digits_of k rank ≡ requests_of k jump + digits_of k (λ (a : ℕ). rank a / 2)
  unfolding digits_of requests_of
  requests-now =
      sum_cong k (λ (a : ℕ). digits (rank a)) (λ (a : ℕ). cond (asks jump a) 1 0 + digits (rank a / 2)) asks-once
      ∙ sum-add k (λ (a : ℕ). cond (asks jump a) 1 0) (λ (a : ℕ). digits (rank a / 2))

  -- where an object has a rank the stage goes on
  pub goes_on : (a : ℕ) → a < k → 1 ≤ digits (rank a) → ranking_ends k jump ≡ false
  unfolding ranking_ends requests_of
  goes_on a l h = go (s.each a l)
    where
      go : First jump sum rank total a ⊎ Follows k jump sum rank total a → (count k (asks jump) == 0) ≡ false
      go (inl f) = let none : digits (rank a) ≡ 0 =
          ap digits f.ranks ∙ digits-none in absurd (omega (arith, none, h))
      go (inr f) =
          let some : at jump a < ABSENT = omega (arith, f.below, s.few) in
          let one : 1 ≤ count k (asks jump) = count-positive k (asks jump) a l (asking jump a some) in
          ne_eqb (count k (asks jump)) 0 (λ q. omega (arith, q, one))

  -- where none has, no object has a predecessor, and each has its sum
  module _ (none : (a : ℕ) → a < k → digits (rank a) ≡ 0) where
    firsts : (a : ℕ) → a < k → First jump sum rank total a
    firsts a l = go (s.each a l)
      where
        go : First jump sum rank total a ⊎ Follows k jump sum rank total a → First jump sum rank total a
        go (inl f) = f
        go (inr f) = absurd (omega (arith, none a l, digits-half (rank a) (omega (arith, f.ranks))))

    pub asks_none : requests_of k jump ≡ 0
    unfolding requests_of
    asks_none = count_none k (asks jump) (λ a l. silent jump a (firsts a l).none)

    pub ends : ranking_ends k jump ≡ true
    unfolding ranking_ends
    ends = eq-eqb (requests_of k jump) 0 asks_none

    pub jumps-done : jump ≡ over k (λ (a : ℕ). ABSENT) jump
    jumps-done = over-same 0 k (λ (a : ℕ). ABSENT) jump (λ a l. (firsts a l).none)

    pub sums-done : sum ≡ over k total sum
    sums-done = over-same 0 k total sum (λ a l. sym (firsts a l).sums)

    pub jumps-stay : jump_round k jump ≡ jump
    unfolding jump_round
    jumps-stay = sym (over-same 0 k _ jump (λ (a : ℕ) (l : a < k). rw (silent jump a (firsts a l).none)))

    pub sums-stay : sum_round k jump sum ≡ sum
    sums-stay = sums-still k jump sum (λ a l. (firsts a l).none)
