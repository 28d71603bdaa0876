-- What a planner's tree leaves is within bounds, and 18's test in words.
use Rattle.std.specs.Prelude.{◌≡◌, refl, Bool, true, false, cond, not, ◌&&◌, ◌||◌, ◌⊎◌, ◌↔◌, ◌≢◌, List, ℕ, zero, suc}
use Rattle.std.specs.Prelude.{◌+◌, ◌≤◌, ◌<◌, eqb, ltb}
use Rattle.std.proofs.Common.{inl, inr, arith, eqb-true, eq-eqb, ltb-true, lt-ltb}
use Rattle.std.proofs.lemmas.Bool.{eqb-false}
use Rattle.base_lists.specs.All.{All, all-over, cond-keeps}
use Rattle.base_lists.specs.Folds.{some}
use Rattle.base_lists.specs.Some.{some-exact}
use Rattle.base_lists.specs.Tests.{either, and_exact, or_exact, not_exact}
use Rattle.table.specs.Table.{end_a, end_b}
use Rattle.spec_rules.specs.Basics.{ABSENT, MAX-NUMBER, at}
use Rattle.spec_rules.specs.BoundLaws.{Names, Distance, names_at, eq_exact}
use Rattle.spec_rules.specs.Planned.{onward, steps_to, planned_parents, planned_dists, top_of, parent_link}
use Rattle.spec_rules.specs.Planned.{stray_parent, stray_top, splits, plan_unfit}

-- ---- bounds

-- fewer steps than units looked at, or absent
pub steps-few : (plan : List ℕ) (c k v : ℕ) → (steps_to plan c k v < k) ⊎ (steps_to plan c k v ≡ ABSENT)
steps-few plan c zero v = inr refl
steps-few plan c (suc k) v =
    cond-keeps Within (eqb v c) _ _ (inl (omega arith))
    (cond-keeps Within (eqb (at plan v) ABSENT) _ _ (inr refl)
    (more (steps_to plan c k (at plan v)) (steps-few plan c k (at plan v))))
  where
    Within : ℕ → Type 0
    Within x = (x < suc k) ⊎ (x ≡ ABSENT)

    more : (x : ℕ) → (x < k) ⊎ (x ≡ ABSENT) → (onward x < suc k) ⊎ (onward x ≡ ABSENT)
    more x (inl l) = cond-keeps Within (eqb x ABSENT) _ _ (inr refl) (inl (omega arith))
    more x (inr e) = inl_or (eq-eqb x ABSENT e)
      where
        inl_or : eqb x ABSENT ≡ true → (onward x < suc k) ⊎ (onward x ≡ ABSENT)
        inl_or t = rw t (inr refl)

pub planned-names : (n : ℕ) (plan parent : List ℕ) → 0 < n → All (Names n) plan → All (Names n) parent →
    All (Names n) (planned_parents n plan parent)
unfolding planned_parents
planned-names n plan parent h w old = all-over (Names n) n (at plan) parent
    (λ (v : ℕ) (l : v < n). names_at n plan v h w) old

pub planned-distances : (n : ℕ) (plan color dist : List ℕ) → n ≤ MAX-NUMBER → All Distance dist →
    All Distance (planned_dists n plan color dist)
unfolding planned_dists
planned-distances n plan color dist h old =
    all-over Distance n (λ (v : ℕ). steps_to plan (at color v) n v) dist
    (λ (v : ℕ) (l : v < n). small (steps_to plan (at color v) n v) (steps-few plan (at color v) n v)) old
  where
    small : (x : ℕ) → (x < n) ⊎ (x ≡ ABSENT) → Distance x
    small x (inl l) = inl (omega arith)
    small x (inr e) = inr e

-- ---- 18's test in words

-- link j joins v and its parent
abbrev pub ParentLink : List ℕ → List ℕ → ℕ → ℕ → Type 0
ParentLink ends plan v j = ((end_a ends j ≡ v) × (end_b ends j ≡ at plan v))
    ⊎ ((end_b ends j ≡ v) × (end_a ends j ≡ at plan v))

abbrev pub StrayParent : ℕ → List ℕ → List ℕ → ℕ → Type 0
StrayParent m ends plan v = (at plan v ≢ ABSENT) × (((j : ℕ) × (j < m) × ParentLink ends plan v j) → ⊥)

-- some unit has a parent that is not its neighbour, or a chain of parents that does not end at a unit not above it; or
-- the chains of a link's ends end apart
abbrev pub PlanUnfit : ℕ → ℕ → List ℕ → List ℕ → Type 0
PlanUnfit n m ends plan =
    ((v : ℕ) × (v < n) × StrayParent m ends plan v)
    ⊎ (((v : ℕ) × (v < n) × (v < top_of plan n v))
    ⊎ ((j : ℕ) × (j < m) × (top_of plan n (end_a ends j) ≢ top_of plan n (end_b ends j))))

some_words : (n : ℕ) (p : ℕ → Bool) (P : ℕ → Type 0) → ((i : ℕ) → (p i ≡ true) ↔ P i) →
    (some n p ≡ true) ↔ ((i : ℕ) × (i < n) × P i)
some_words n p P h = (
  λ e. let w = (some-exact n p).0 e in (w.0, w.1, (h w.0).0 w.2),
  λ w. (some-exact n p).1 (w.0, w.1, (h w.0).1 w.2),
)

-- some link joins v and its parent
pub parent-linked : (m : ℕ) (ends plan : List ℕ) (v : ℕ) →
    (some m (parent_link ends plan v) ≡ true) ↔ ((j : ℕ) × (j < m) × ParentLink ends plan v j)
parent-linked m ends plan v = some_words m (parent_link ends plan v) (ParentLink ends plan v) joins
  where
    joins : (j : ℕ) → (parent_link ends plan v j ≡ true) ↔ ParentLink ends plan v j
    joins j =
        or_exact _ _ (and_exact _ _ (eq_exact (end_a ends j) v) (eq_exact (end_b ends j) (at plan v)))
        (and_exact _ _ (eq_exact (end_b ends j) v) (eq_exact (end_a ends j) (at plan v)))

stray-exact : (m : ℕ) (ends plan : List ℕ) (v : ℕ) → (stray_parent m ends plan v ≡ true) ↔ StrayParent m ends plan v
stray-exact m ends plan v =
    and_exact (not (eqb (at plan v) ABSENT)) (not (some m (parent_link ends plan v)))
    (not_exact (eqb (at plan v) ABSENT) (eq_exact (at plan v) ABSENT))
    (not_exact (some m (parent_link ends plan v)) (parent-linked m ends plan v))

pub unfit_exact : (n m : ℕ) (ends plan : List ℕ) → (plan_unfit n m ends plan ≡ true) ↔ PlanUnfit n m ends plan
unfolding plan_unfit
unfit_exact n m ends plan =
    or_exact _ _ (some_words n (stray_parent m ends plan) (StrayParent m ends plan) (stray-exact m ends plan))
    (or_exact _ _ (some_words n (stray_top n plan) (λ (v : ℕ). v < top_of plan n v)
    (λ v. (ltb-true v (top_of plan n v), lt-ltb v (top_of plan n v))))
    (some_words m (splits n ends plan) (λ (j : ℕ). top_of plan n (end_a ends j) ≢ top_of plan n (end_b ends j))
    (λ j. not_exact _ (eq_exact (top_of plan n (end_a ends j)) (top_of plan n (end_b ends j))))))
