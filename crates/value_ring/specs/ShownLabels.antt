-- T-04 and demand 3 agree: after a load and enough rounds, however they were asked for, "no ring" is the reply exactly
-- where the labels of the two links differ, or, for one position twice, where the link is lone.
use Rattle.std.specs.Prelude.{◌≡◌, true, ◌↔◌, List, ℕ, ◌≤◌}
use Rattle.spec_machine.specs.Load.{Input}
use Rattle.spec_machine.specs.Report.{link_label, link_lone}
use Rattle.spec_machine.specs.State.{State}
use Rattle.spec_machine.specs.Step.{countdown}
use Rattle.spec_claim.specs.Claim.{Loaded}
use Rattle.spec_claim.specs.Play.{Call, play, asked}
use Rattle.value_ring.specs.declared.Shown.{Shown}
use Rattle.value_ring.specs.declared.Shown.TheVariants.{NoRing}
use Rattle.value_ring.specs.Shown.{Answer, number_of}
use Rattle.value_ring.specs.ShownRight.{ShownRight}

pub record Agrees (e : State) (i j : ℕ) (reply : Shown) : Type 0 where
  pub two : (i ≡ j → ⊥) → (reply ≡ NoRing) ↔ (link_label e i ≡ link_label e j → ⊥)
  pub one : i ≡ j → (reply ≡ NoRing) ↔ (link_lone e i ≡ true)

abbrev pub ShownAfterLoad : Type 0
ShownAfterLoad =
    (input : Input) (s : State) → Loaded input s → (calls : List Call) → countdown s ≤ asked calls
    → (i j : ℕ) (out : List ℕ) (answer : Answer) (new : List ℕ) → ShownRight i j (play calls s).last out answer new →
    number_of answer.reply ≡ 0
    → Agrees (play calls s).last i j answer.reply
