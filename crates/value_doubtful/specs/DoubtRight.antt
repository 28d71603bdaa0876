-- What T-08 asks of the call about doubtful links, for any state, positions i and j and marks: each number exactly for
-- its cause; else "always" exactly where a ring holds both in each setting, "never" exactly where in none, and
-- "perhaps" exactly where in some but not each.
use Rattle.std.specs.Prelude.{◌≡◌, ◌↔◌, List, ℕ, ◌<◌, length}
use Rattle.table.specs.RefusalLaws.{FirstCause, SomeCause}
use Rattle.spec_machine.specs.State.{State, links}
use Rattle.theory_reach.specs.Site.{Site}
use Rattle.value_doubtful.specs.declared.Verdict.{Verdict}
use Rattle.value_doubtful.specs.declared.Verdict.TheVariants.{Always, Perhaps, Never}
use Rattle.value_doubtful.specs.Doubtful.{Answer, number_of, doubt_reasons}
use Rattle.value_doubtful.specs.Settings.{InEach, InSome}

-- the verdict on links i and j of m links
pub record Says (m : ℕ) (ends marks : List ℕ) (i j : ℕ) (reply : Verdict) : Type 0 where
  pub always : (reply ≡ Always) ↔ InEach m ends marks i j
  pub perhaps : (reply ≡ Perhaps) ↔ (InSome m ends marks i j × (InEach m ends marks i j → ⊥))
  pub never : (reply ≡ Never) ↔ (InSome m ends marks i j → ⊥)

-- of any site and two positions
abbrev pub VerdictTold : ℕ → ℕ → List ℕ → List ℕ → ℕ → ℕ → Verdict → Type 0
VerdictTold n m ends marks i j reply = Site n m ends → i < m → j < m → Says m ends marks i j reply

pub record DoubtRight (i j : ℕ) (marks : List ℕ) (s : State) (answer : Answer) : Type 0 where
  pub cause : (k : ℕ) → (k ≡ 0 → ⊥) → (number_of answer.reply ≡ k) ↔ FirstCause (doubt_reasons i j (length marks) s) k
  pub refused : (number_of answer.reply ≡ 0 → ⊥) ↔ SomeCause (doubt_reasons i j (length marks) s)
  pub state : answer.state ≡ s
  pub told : number_of answer.reply ≡ 0 → Says (links s) s.table.ends marks i j answer.reply
