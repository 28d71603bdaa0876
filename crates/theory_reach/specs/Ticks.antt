-- The clock after a round, and that a stage's own rule ends it: the ceiling never does before.
use Rattle.std.specs.Prelude.{◌≡◌, refl, Bool, true, false, cond, ◌||◌, ◌⊎◌, ℕ, suc, ◌+◌, ◌≤◌, ◌<◌, min, leb}
use Rattle.std.proofs.Common.{ap, ◌∙◌, inl, inr, arith}
use Rattle.std.proofs.lemmas.Bool.{lt-leb}
use Rattle.base_lists.specs.Tests.{either, not_both}
use Rattle.spec_rules.specs.Ceilings.{ceiling}
use Rattle.spec_machine.specs.State.{State}
use Rattle.spec_state.specs.declared.groups.Clock.{Clock}
use Rattle.spec_machine.specs.State.{units, MAX-REQUESTS}
use Rattle.spec_machine.specs.Step
use Rattle.spec_machine.specs.StageLaws.{ticked}
use Rattle.theory_reach.specs.Invariant.{Reached}

-- a round of a reached state: not cut short by the ceiling, its requests within their limit, and it leaves a reached
-- state
pub record Goes (s : State) : Type 0 where
  pub uncut : Step.last_round s ≡ Step.rule_ends s
  pub unclamped : s.clock.requests + Step.round_requests s ≤ MAX-REQUESTS
  pub after : Reached (Step.step s)

-- where a round that does not end the stage leaves room below the ceiling, the rule alone decides
uncut : (s : State) → (Step.rule_ends s ≡ false → s.clock.made + 1 < ceiling (units s) s.clock.stage) →
    Step.last_round s ≡ Step.rule_ends s
unfolding Step.last_round
uncut s h = go (either (Step.rule_ends s))
  where
    go : (Step.rule_ends s ≡ true) ⊎ (Step.rule_ends s ≡ false) → Step.last_round s ≡ Step.rule_ends s
    go (inl e) = rw e refl
    go (inr e) = rw (e, lt-leb (ceiling (units s) s.clock.stage) (s.clock.made + 1) (h e)) refl

-- a round after which the stage goes on, and one that ends it, over the tables that it leaves
module _ (s tables : State) (within : s.clock.requests + Step.round_requests s ≤ MAX-REQUESTS)
    (is : Step.step s ≡ ticked s tables) where
  pub goes-within : Step.rule_ends s ≡ false → s.clock.made + 1 < ceiling (units s) s.clock.stage →
      (Step.last_round s ≡ false → Reached (ticked s tables)) → Goes s
  goes-within r room after =
      let u : Step.last_round s ≡ Step.rule_ends s = uncut s (λ q. room) in
      record { uncut = u; unclamped = within; after = rw is (after (u ∙ r)) }

  pub goes_over : Step.rule_ends s ≡ true → (Step.last_round s ≡ true → Reached (ticked s tables)) → Goes s
  goes_over r after =
      let u : Step.last_round s ≡ Step.rule_ends s = uncut s (λ q. absurd (not_both (Step.rule_ends s) r q)) in
      record { uncut = u; unclamped = within; after = rw is (after (u ∙ r)) }

  -- whichever its rule says
  pub goes-either : {ends : Bool} → Step.rule_ends s ≡ ends →
      (ends ≡ true → Step.last_round s ≡ true → Reached (ticked s tables))
      → (ends ≡ false → (s.clock.made + 1 < ceiling (units s) s.clock.stage)
      × (Step.last_round s ≡ false → Reached (ticked s tables))) → Goes s
  goes-either {ends = true} rule over on = goes_over rule (over refl)
  goes-either {ends = false} rule over on = goes-within rule (on refl).0 (on refl).1

-- ---- the clock within a stage, and over its end

pub stage-on : (last : Bool) (r : ℕ) (c : Clock) → last ≡ false → (Step.next_clock last r c).stage ≡ c.stage
unfolding Step.next_clock
stage-on last r c e = rw e refl

pub made-on : (last : Bool) (r : ℕ) (c : Clock) → last ≡ false → (Step.next_clock last r c).made ≡ c.made + 1
unfolding Step.next_clock
made-on last r c e = rw e refl

pub stage-over : (last : Bool) (r : ℕ) (c : Clock) → last ≡ true → (Step.next_clock last r c).stage ≡ c.stage + 1
unfolding Step.next_clock
stage-over last r c e = rw e refl

pub made-over : (last : Bool) (r : ℕ) (c : Clock) → last ≡ true → (Step.next_clock last r c).made ≡ 0
unfolding Step.next_clock
made-over last r c e = rw e refl

-- requests within their limit are added up
pub requests-next : (last : Bool) (r : ℕ) (c : Clock) → c.requests + r ≤ MAX-REQUESTS →
    (Step.next_clock last r c).requests ≡ c.requests + r
unfolding Step.next_clock
requests-next last r c h = omega arith
