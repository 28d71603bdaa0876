-- What T-07 asks of the lifting call, for any state, pairs p and slice `out`: each number exactly for its cause; a
-- refusal hands back the state and writes nothing; else an order stands at the front of the slice, which lifts all
-- units, and read from unit 0 on it is the least of all that do.
use Rattle.std.specs.Prelude.{◌≡◌, ◌↔◌, List, [], ◌∷◌, ◌++◌, ℕ, length, drop}
use Rattle.table.specs.RefusalLaws.{FirstCause, SomeCause}
use Rattle.spec_machine.specs.State.{State, units, words}
use Rattle.lifting_order.specs.Lifts.{Lifts, LeastEach, NotAfter}
use Rattle.lifting_order.specs.Order.{Joins, Pair}
use Rattle.value_lifting.specs.Lifting.{number_of, values_of, lifting_answer, lifted}
use Rattle.value_lifting.specs.LiftingCauses.{lifting_reasons}

-- n units, links E, pairs P: the order that is written
pub record Ordered (n : ℕ) (E P : ℕ → ℕ → Type 0) (out new : List ℕ) : Type 0 where
  pub order : List ℕ
  pub lifts : Lifts n E P order
  pub each : LeastEach n E P order
  pub least : (o : List ℕ) → Lifts n E P o → NotAfter order o
  pub front : new ≡ order ++ drop n out

abbrev pub number : List ℕ → List ℕ → State → ℕ
number p out s = number_of (lifting_answer p (length out) s).reply

pub record LiftingRight (p out : List ℕ) (s : State) : Type 0 where
  pub cause : (k : ℕ) → (k ≡ 0 → ⊥) → (number p out s ≡ k) ↔ FirstCause (lifting_reasons p (length out) s) k
  pub refused : (number p out s ≡ 0 → ⊥) ↔ SomeCause (lifting_reasons p (length out) s)
  pub state : (lifting_answer p (length out) s).state ≡ s
  pub unwritten : (number p out s ≡ 0 → ⊥) → lifted p s out ≡ out
  pub values : number p out s ≡ 0 → values_of (lifting_answer p (length out) s).reply ≡ units s ∷ []
  pub written : number p out s ≡ 0 → Ordered (units s) (Joins (words s)) (Pair p) out (lifted p s out)

abbrev pub LiftingCall : Type 0
LiftingCall = (p out : List ℕ) (s : State) → LiftingRight p out s
