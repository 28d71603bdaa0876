-- A list of calls on words, given as words, two a call: its kind and a number. Reports go to one lent slice of bytes.
use Rattle.std.specs.Prelude.{◌≡◌, cond, List, [], ◌∷◌, ℕ, eqb}
use Rattle.spec_machine.specs.State.{State}
use Rattle.spec_machine.specs.Load.{Input, loaded}
use Rattle.words_layout.specs.Layout.{state_of}
use Rattle.spec_claim.specs.Play.{Call, round, run, status, unit, link, report, answer_to, slice_after}
use Rattle.spec_claim.specs.Claim.{Claim}
use Rattle.words_claim.specs.Exchange.{Exchange, CallMade, CallsMade, calls_of, used_of}
use Rattle.words_claim.specs.WordsClaim.{LoadedWords}

-- 1 round, 2 run with budget a, 4 unit a, 5 link a, 6 report; any other kind is a status call
abbrev pub call_of : ℕ → ℕ → List ℕ → Call
call_of kind a out =
    cond (eqb kind 1) round
    (cond (eqb kind 2) (run a) (cond (eqb kind 4) (unit a) (cond (eqb kind 5) (link a)
    (cond (eqb kind 6) (report out) status))))

-- the slice after it
abbrev pub out_after : ℕ → List ℕ → State → List ℕ
out_after kind out s = cond (eqb kind 6) (slice_after (report out) s) out

-- the calls that the words make, from a state on
unfoldable pub calls_in : List ℕ → State → List ℕ → List Call
calls_in [] s out = []
calls_in (k ∷ []) s out = []
calls_in (k ∷ a ∷ ws) s out = call_of k a out ∷ calls_in ws (answer_to (call_of k a out) s).state (out_after k out s)

-- the slice after them
unfoldable pub out_in : List ℕ → State → List ℕ → List ℕ
out_in [] s out = out
out_in (k ∷ []) s out = out
out_in (k ∷ a ∷ ws) s out = out_in ws (answer_to (call_of k a out) s).state (out_after k out s)

-- one call, with all that came back
pub record OneMade (call : Call) (before after : List ℕ) : Type 0 where
  pub exchange : Exchange
  pub is : exchange.call ≡ call
  pub made : CallMade exchange before after

-- these calls, one after the other
pub record AllMade (calls : List Call) (before after : List ℕ) : Type 0 where
  pub exchanges : List Exchange
  pub are : calls_of exchanges ≡ calls
  pub made : CallsMade exchanges before after

-- and so demand 3 of them from the words that a load left, with the rounds counted from what came back
abbrev pub Claimed : List Call → List ℕ → List ℕ → Type 0
Claimed calls before after =
    (input : Input) → LoadedWords input before
    → (xs : List Exchange) × (calls_of xs ≡ calls) × CallsMade xs before after
    × Claim input (state_of before) calls (state_of after) (used_of xs)

-- the same from the load on: `last` are the words after a load of this input that was not refused and these calls
abbrev pub ClaimedFrom : Input → List ℕ → List ℕ → List ℕ → Type 0
ClaimedFrom input ws out last =
    (xs : List Exchange) × (calls_of xs ≡ calls_in ws (loaded input) out)
    × Claim input (loaded input) (calls_in ws (loaded input) out) (state_of last) (used_of xs)
