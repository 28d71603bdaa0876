-- The lifting call on a state in words: its number and the slice, by 10 and 12 of the state and by what `lifting_order`
-- tells of its tables.
use Rattle.std.specs.Prelude.{◌≡◌, true, List, ℕ, length}
use Rattle.std.proofs.Common.{sym, ap, ◌∙◌}
use Rattle.std.proofs.Math.Decide.{ℕ_discrete}
use Rattle.spec_machine.specs.Calls.{question_refusal}
use Rattle.spec_machine.specs.State.{State, units, links}
use Rattle.lifting_order.specs.Written.{order_refusal, order_written}
use Rattle.value_lifting.specs.Lifting.{Answer, number_of, early_refusal, lifting_answer, lifted}
use Rattle.value_lifting.specs.LiftingLaws.{told-early, told-refused, told-lifted}

module _ (s : State) where
  early : (r : ℕ) → r ≡ question_refusal s true → r ≡ early_refusal s
  unfolding question_refusal early_refusal
  early r e = e

  module _ (p out : List ℕ) where
    abbrev pub Said : ℕ → List ℕ → Type 0
    Said number new = (number ≡ number_of (lifting_answer p (length out) s).reply) × (new ≡ lifted p s out)

    said : (answer : Answer) (new : List ℕ) → (answer ≡ lifting_answer p (length out) s) × (new ≡ lifted p s out) →
        Said (number_of answer.reply) new
    said answer new t = (ap (λ (a : Answer). number_of a.reply) t.0, t.1)

    pub lifting_early : (r : ℕ) → r ≡ question_refusal s true → (r ≡ 0 → ⊥) → Said r out
    lifting_early r e h = said _ out (told-early s p out r (early r e) h)

    pub lifting_late : (q r : ℕ) (new : List ℕ) → q ≡ question_refusal s true → q ≡ 0 → length s.table.ends ≡ 2048
        → r ≡ order_refusal (units s) (links s) s.table.ends p (length out) →
        new ≡ order_written (units s) (links s) s.table.ends p out → Said r new
    lifting_late q r new e z long number slice = go (ℕ_discrete r 0)
      where
        none : early_refusal s ≡ 0
        none = sym (early q e) ∙ z

        go : Dec (r ≡ 0) → Said r new
        go (yes f) = let t = said _ new (told-lifted s p out r new none long number slice f) in (f ∙ t.0, t.1)
        go (no f) = said _ new (told-refused s p out r new none long number slice f)
