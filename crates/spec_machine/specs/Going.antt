-- A run on its way: what its loop keeps from round to round, and what that says at its end.
use Rattle.std.specs.Prelude.{◌≡◌, refl, true, false, ℕ, zero, suc, ◌+◌, ◌-◌, ◌≤◌, ◌<◌}
use Rattle.std.proofs.Common.{sym, ap, ◌∙◌, add-one, arith, ne_eqb, eq-eqb}
use Rattle.spec_machine.specs.State.{State}
use Rattle.spec_machine.specs.State.{finished, FINISHED}
use Rattle.spec_machine.specs.WellFormed.{well_formed}
use Rattle.spec_machine.specs.Kept.{Kept, kept-exact}
use Rattle.spec_machine.specs.Step.{step}
use Rattle.spec_machine.specs.StepLaws.{step-well_formed}
use Rattle.spec_machine.specs.Run.{ran}

-- s after so many rounds of a run from s₀: what is still to run from s leaves what the run from s₀ leaves
pub record Going (budget : ℕ) (s₀ : State) (made : ℕ) (s : State) : Type 0 where
  pub well : well_formed s ≡ true
  pub within : made ≤ budget
  pub left : ran budget 0 s₀ ≡ ran (budget - made) made s

pub begins : (budget : ℕ) (s : State) → well_formed s ≡ true → Going budget s 0 s
begins budget s w =
    let all : budget ≡ budget - 0 = omega arith in
    record { well = w; within = omega arith; left = ap (λ (b : ℕ). ran b 0 s) all }

-- an unfinished state makes one round more
ran-more : (b k : ℕ) (s : State) → finished s ≡ false → ran (suc b) k s ≡ ran b (suc k) (step s)
unfolding ran
ran-more b k s f = rw f refl

pub goes_on : (budget : ℕ) (s₀ : State) (made : ℕ) (s s' : State) → Going budget s₀ made s → made < budget →
    (s.clock.stage ≡ FINISHED → ⊥) → s' ≡ step s
    → Going budget s₀ (made + 1) s'
goes_on budget s₀ made s s' g l h e =
    let f : finished s ≡ false = ne_eqb s.clock.stage FINISHED h in
    let more : budget - made ≡ suc (budget - (made + 1)) = omega arith in
    let one : made + 1 ≡ suc made = add-one made in
    let after : ran (budget - made) made s ≡ ran (budget - (made + 1)) (made + 1) (step s) =
    ap (λ (b : ℕ). ran b made s) more ∙ ran-more (budget - (made + 1)) made s f
    ∙ ap (λ (k : ℕ). ran (budget - (made + 1)) k (step s)) (sym one) in
    record {
      well = rw e (step-well_formed s g.well f);
      within = omega arith;
      left = rw e (g.left ∙ after);
    }

-- the budget is spent
ran-none : (k : ℕ) (s : State) → ran 0 k s ≡ (s, k)
unfolding ran
ran-none k s = refl

-- a finished state makes no round
ran-finished : (b k : ℕ) (s : State) → finished s ≡ true → ran b k s ≡ (s, k)
unfolding ran
ran-finished zero k s f = refl
ran-finished (suc b) k s f = rw f refl

pub spent : (budget : ℕ) (s₀ : State) (made : ℕ) (s : State) → Going budget s₀ made s → budget ≤ made →
    ran budget 0 s₀ ≡ (s, made)
spent budget s₀ made s g l =
    let none : budget - made ≡ 0 = omega arith in
    g.left ∙ ap (λ (b : ℕ). ran b made s) none ∙ ran-none made s

-- a stage past the tenth is the end
pub ended : (budget : ℕ) (s₀ : State) (made : ℕ) (s : State) → Going budget s₀ made s → 10 < s.clock.stage →
    ran budget 0 s₀ ≡ (s, made)
ended budget s₀ made s g h =
    let k : Kept s = (kept-exact s).0 g.well in
    let e : s.clock.stage ≡ FINISHED = omega (arith, k.to) in
    g.left ∙ ran-finished (budget - made) made s (eq-eqb s.clock.stage FINISHED e)

-- what is at least m and not m is above it
pub above : (k m : ℕ) → m ≤ k → (k ≡ m → ⊥) → suc m ≤ k
above k m h n = omega arith

-- a round is a run of one
pub ran-one : (s : State) → finished s ≡ false → (ran 1 0 s).0 ≡ step s
unfolding ran
ran-one s f = rw f refl
