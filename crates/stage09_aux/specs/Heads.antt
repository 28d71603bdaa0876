-- Stage 9 unit by unit: what a unit says, its head, and what a round leaves of it.
use Rattle.std.specs.Prelude.{◌≡◌, refl, cond, ◌||◌, List, ℕ, ◌<◌, min, eqb}
use Rattle.std.proofs.Common.{arith}
use Rattle.base_lists.specs.Tables.{over, over_cong}
use Rattle.spec_rules.specs.Basics.{ABSENT, at, is_root}

-- what unit v says: a root takes no part
abbrev pub said_by : List ℕ → List ℕ → ℕ → ℕ
said_by parent value v = cond (is_root parent v) ABSENT (at value v)

-- the head of unit u, which it hears and tells: its parent where their join is marked; itself where it is not, or where
-- u is a root
abbrev pub head_of : List ℕ → List ℕ → ℕ → ℕ
head_of parent marks u = cond (eqb (at marks u) 0 || is_root parent u) u (at parent u)

-- the heads of n units, all of which exist
pub record Heads (n : ℕ) (parent marks heads : List ℕ) : Type 0 where
  pub are : (u : ℕ) → u < n → at heads u ≡ head_of parent marks u
  pub exist : (u : ℕ) → u < n → at heads u < n

-- what a round leaves of unit v: what v took in, as a link's end and as others' head, and what it was told by its own
-- head; roots are absent
abbrev pub least_of : List ℕ → List ℕ → List ℕ → ℕ → ℕ
least_of parent told t v = cond (is_root parent v) ABSENT (min (at t v) (at told v))

-- of a value and itself, what the unit says
pub least-said : (n : ℕ) (parent value : List ℕ) →
    over n (least_of parent value value) value ≡ over n (said_by parent value) value
least-said n parent value =
    over_cong n (least_of parent value value) (said_by parent value) value
    (λ (v : ℕ) (l : v < n). let one : min (at value v) (at value v) ≡ at value v = omega arith in rw one refl)
