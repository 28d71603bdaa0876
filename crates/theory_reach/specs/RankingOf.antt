-- The potentials of the two rankings, and what they give: no sum is clamped, the ceiling is not met, and each makes at
-- most 4,079 requests.
use Rattle.std.specs.Prelude.{◌≡◌, refl, Bool, true, false, cond, ◌⊎◌, List, ℕ, suc, ◌+◌, ◌*◌, ◌-◌, ◌≤◌, ◌<◌, max}
use Rattle.std.proofs.Common.{sym, ap, ◌∙◌, inl, inr, arith}
use Rattle.std.proofs.Math.Decide.{dec_lt}
use Rattle.base_lists.specs.Tables.{tab, get_d_tab}
use Rattle.base_lists.specs.All.{cond-keeps}
use Rattle.base_lists.specs.Folds.{count}
use Rattle.base_log2.specs.Lg.{lg}
use Rattle.base_log2.specs.LgLaws.{lg-small}
use Rattle.spec_rules.specs.Basics.{ABSENT, MAX-NUMBER, at}
use Rattle.spec_rules.specs.Ceilings.{ranking_ceiling}
use Rattle.spec_rules.specs.Tour.{is_arc, follower, predecessor}
use Rattle.spec_machine.specs.State.{State}
use Rattle.spec_machine.specs.State.{units}
use Rattle.theory_reach.specs.Potentials.{Step, rank-positive, rank_le-all, forward_le}
use Rattle.theory_reach.specs.TourOf.{Preceded, none, start, after, preceded, arcs_le}
use Rattle.theory_reach.specs.Doubling.{Potential, asked, asked-few}
use Rattle.theory_reach.specs.Invariant.{Base, Treed, rank, ranks, sums}

module _ (s : State) (b : Base s) (t : Treed s) where
  few_arcs : 2 * units s ≤ 512
  few_arcs = omega (arith, b.site.few_units)

  rank-small : (a : ℕ) → rank s t a ≤ max 1 (2 * units s - 2)
  rank-small a = rank_le-all t.rooted a

  pub first-potential : Potential (2 * units s) (rank s t) (ranks s t)
  first-potential =
      record {
        few = omega (arith, few_arcs);
        positive = λ a l. rank-positive t.rooted a;
        small = λ a l. cond-keeps (λ (x : ℕ). x ≤ MAX-NUMBER) (is_arc s.tree.parent a) (rank s t a) 0
            (omega (arith, rank-small a, few_arcs)) (omega arith);
      }

  pub second-potential : Potential (2 * units s) (rank s t) (sums s t)
  second-potential =
      record {
        few = omega (arith, few_arcs);
        positive = λ a l. rank-positive t.rooted a;
        small = λ a l. omega (arith, forward_le t.rooted a, few_arcs);
      }

  -- behind each arc but the first ones stands another
  behind : (a : ℕ) → a < 2 * units s → 1 < rank s t a
      → (is_arc s.tree.parent a ≡ true)
      × ((c : ℕ) × (c < 2 * units s) × (is_arc s.tree.parent c ≡ true) × (suc (rank s t c) ≡ rank s t a))
  behind a l h =
      go (preceded b.site t.rooted followers
      (λ i k. get_d_tab (2 * units s) (follower (units s) s.tree.parent) i 0 k) a l)
    where
      followers : List ℕ
      followers = tab (2 * units s) (follower (units s) s.tree.parent)

      go : {c : ℕ} → Preceded (units s) s.tree.parent t.depth a c
          → (is_arc s.tree.parent a ≡ true)
          × ((e : ℕ) × (e < 2 * units s) × (is_arc s.tree.parent e ≡ true) × (suc (rank s t e) ≡ rank s t a))
      go (none e f r z) = absurd (omega arith)
      go (start e f g r z) = absurd (omega arith)
      go {c} (after e f k g r) = (e, (c, k, g, omega (arith, r.rank)))

  pub requests-few : (k : ℕ) → asked (2 * units s) (rank s t) k ≤ 4079
  requests-few =
      asked-few (2 * units s) (rank s t) (is_arc s.tree.parent) behind
      (omega (arith, arcs_le b.site t.rooted, b.site.few_units))

  -- a ranking that goes on leaves room below its ceiling
  pub room-left : (k : ℕ) → suc k ≤ lg (max 1 (2 * units s - 2)) → k + 1 < ranking_ceiling (units s)
  room-left k h = go (dec_lt (units s) 2)
    where
      go : Dec (units s < 2) → k + 1 < ranking_ceiling (units s)
      go (yes l) = let e : max 1 (2 * units s - 2) ≡ 1 = omega arith in let f : suc k ≤ lg 1 =
          rw e at h in absurd (omega (arith, lg-small 1 (omega arith)))
      go (no l) = let e : max 1 (2 * units s - 2) ≡ 2 * units s - 2 =
          omega arith in let f : suc k ≤ lg (2 * units s - 2) = rw e at h in omega arith
