-- The exact rules of stage 2 with a planner's tree have the values of the rules, where its parents are units.
use Rattle.std.specs.Prelude.{◌≡◌, Bool, true, cond, ◌⊎◌, List}
use Rattle.std.proofs.Math.Path.{refl}
use Rattle.std.proofs.Math.Bool.{false}
use Rattle.std.proofs.Common.{inl, inr}
use Rattle.std.proofs.Math.Option.{some}
use Prim.Native.Nat.{ℕ, zero, suc, ◌+◌, ◌<◌}
use Rattle.std.proofs.Math.Dec.{eqb}
use Rattle.std.proofs.lemmas.Bool.{eqb-false}
use Rattle.spec_rules.specs.Basics.{ABSENT, at}
use Rattle.spec_rules.specs.BoundLaws.{Names}
use Rattle.spec_rules.specs.Planned.{onward, steps_to, planned_parents, planned_dists}
use Rattle.theory_reach.specs.Partial.{Value, read, both, ifs, overs}
use Rattle.theory_reach.specs.ExactRules

module _ (n : ℕ) (plan : List ℕ) where
  pub planned-parents : (parent : List ℕ) →
      ExactRules.planned_parents? n plan parent ≡ some (planned_parents n plan parent)
  unfolding ExactRules.planned_parents? planned_parents
  planned-parents parent = overs n _ (at plan) parent (λ v l. read n plan refl l)

  module _ (names : (v : ℕ) → v < n → Names n (at plan v)) where
    onwards : {x : Value} {a : ℕ} → x ≡ some a → ExactRules.onward? x ≡ some (onward a)
    unfolding ExactRules.onward?
    onwards e = ifs (both eqb e refl) (λ q. refl) (λ q. both ◌+◌ e refl)

    steps : (k : ℕ) {x y : Value} {c v : ℕ} → y ≡ some c → x ≡ some v → v < n →
        ExactRules.steps_to? n plan y k x ≡ some (steps_to plan c k v)
    unfolding ExactRules.steps_to?
    steps zero f e l = refl
    steps (suc k) {x} {y} {c} {v} f e l =
        ifs (both eqb e f) (λ q. refl)
        (λ q. ifs (both eqb (read n plan e l) refl) (λ r. refl)
        (λ r. onwards (steps k f (read n plan e l) (below r (names v l)))))
      where
        below : eqb (at plan v) ABSENT ≡ false → Names n (at plan v) → at plan v < n
        below r (inl h) = h
        below r (inr h) = absurd (eqb-false (at plan v) ABSENT r h)

    pub planned-dists : (color dist : List ℕ) →
        ExactRules.planned_dists? n plan color dist ≡ some (planned_dists n plan color dist)
    unfolding ExactRules.planned_dists? planned_dists
    planned-dists color dist = overs n _ (λ (v : ℕ). steps_to plan (at color v) n v) dist
        (λ v l. steps n (read n color refl l) refl l)
