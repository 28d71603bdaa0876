-- The rounds of one stage: at most so many, while a test holds; and what a loop over them keeps.
use Rattle.std.specs.Prelude.{◌≡◌, refl, Bool, true, false, cond, ◌&&◌, ℕ, zero, suc, ◌+◌, ◌-◌, ◌≤◌, ◌<◌, ltb}
use Rattle.std.proofs.Common.{sym, ap, ◌∙◌, arith, lt-ltb, ltb-true}
use Rattle.std.proofs.Math.Decide.{dec_lt}
use Rattle.base_lists.specs.Tests.{and_left, and_right}

-- what at most b rounds leave of x
unfoldable pub stage_run : {X : Type 0} → (X → Bool) → (X → X) → ℕ → X → X
stage_run on one zero x = x
stage_run on one (suc b) x = let later = stage_run on one b (one x) in cond (on x) later x

pub stage-on : {X : Type 0} (on : X → Bool) (one : X → X) (b : ℕ) (x : X) → on x ≡ true →
    stage_run on one (suc b) x ≡ stage_run on one b (one x)
unfolding stage_run
stage-on on one b x h = rw h refl

pub stage-off : {X : Type 0} (on : X → Bool) (one : X → X) (b : ℕ) (x : X) → on x ≡ false → stage_run on one b x ≡ x
unfolding stage_run
stage-off on one zero x h = refl
stage-off on one (suc b) x h = rw h refl

stage-none : {X : Type 0} (on : X → Bool) (one : X → X) (x : X) → stage_run on one 0 x ≡ x
unfolding stage_run
stage-none on one x = refl

-- x after so many rounds of a run from x₀: what is still to run from x leaves what the run from x₀ leaves
pub record Turning {X : Type 0} (on : X → Bool) (one : X → X) (budget : ℕ) (x₀ : X) (made : ℕ) (x : X) : Type 0 where
  pub within : made ≤ budget
  pub left : stage_run on one budget x₀ ≡ stage_run on one (budget - made) x

pub turns_begin : {X : Type 0} (on : X → Bool) (one : X → X) (budget : ℕ) (x : X) → Turning on one budget x 0 x
turns_begin on one budget x =
    let all : budget ≡ budget - 0 = omega arith in
    record { within = omega arith; left = ap (λ (b : ℕ). stage_run on one b x) all }

pub turns_on : {X : Type 0} (on : X → Bool) (one : X → X) (budget : ℕ) (x₀ : X) (made : ℕ) (x x' : X)
    → Turning on one budget x₀ made x → (ltb made budget && on x) ≡ true → x' ≡ one x →
    Turning on one budget x₀ (made + 1) x'
turns_on on one budget x₀ made x x' t g e =
    let l : made < budget = ltb-true made budget (and_left (ltb made budget) (on x) g) in
    let h : on x ≡ true = and_right (ltb made budget) (on x) g in
    let more : budget - made ≡ suc (budget - (made + 1)) = omega arith in
    let after : stage_run on one (budget - made) x ≡ stage_run on one (budget - (made + 1)) (one x) =
    ap (λ b. stage_run on one b x) more ∙ stage-on on one (budget - (made + 1)) x h in
    record { within = omega arith; left = rw e (t.left ∙ after) }

-- the budget is spent, or the test fails
pub turns_over : {X : Type 0} (on : X → Bool) (one : X → X) (budget : ℕ) (x₀ : X) (made : ℕ) (x : X)
    → Turning on one budget x₀ made x → (ltb made budget && on x) ≡ false → x ≡ stage_run on one budget x₀
turns_over on one budget x₀ made x t h = sym (t.left ∙ go (dec_lt made budget))
  where
    go : Dec (made < budget) → stage_run on one (budget - made) x ≡ x
    go (yes l) = stage-off on one (budget - made) x (rw (lt-ltb made budget l) at h)
    go (no l) =
        let none : budget - made ≡ 0 = omega arith in
        ap (λ b. stage_run on one b x) none ∙ stage-none on one x
