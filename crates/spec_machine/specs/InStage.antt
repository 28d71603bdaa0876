-- A clock that stands in a stage with room for one more round, and the stage's last round.
use Rattle.std.specs.Prelude.{◌≡◌, Bool, true, ◌&&◌, ◌||◌, ℕ, ◌+◌, ◌≤◌, ◌<◌, eqb, leb, ltb}
use Rattle.std.proofs.Common.{arith, eqb-true, leb-true, ltb-true, eq-eqb, le-leb}
use Rattle.base_lists.specs.Tests.{and_left, and_right, and-true}
use Rattle.table.proofs.Passes.{passes}
use Rattle.spec_rules.specs.Ceilings.{ceiling}
use Rattle.spec_rules.specs.CeilingLaws.{ceiling-small}
use Rattle.spec_state.specs.declared.groups.Clock.{Clock}
use Rattle.spec_machine.specs.State.{State, units, words, FINISHED, MAX-ROUNDS, MAX-REQUESTS}
use Rattle.spec_machine.specs.WellFormed.{well_formed}
use Rattle.spec_machine.specs.Kept.{Kept, kept-exact}
use Rattle.spec_machine.specs.StepKept.{made-below, stage-small}

-- what the code of a round may rely on: so many units, and a clock that still has room
pub record Ready (n : ℕ) (c : Clock) : Type 0 where
  pub few : n ≤ 256
  pub from : 1 ≤ c.stage
  pub to : c.stage ≤ 10
  pub made : c.made ≤ 256
  pub rounds : c.rounds ≤ MAX-ROUNDS
  pub requests : c.requests ≤ MAX-REQUESTS

-- a well-formed state that is not finished is
pub ready : (s : State) → well_formed s ≡ true → (s.clock.stage ≡ FINISHED → ⊥) → Ready (units s) s.clock
ready s w h =
    let k : Kept s = (kept-exact s).0 w in
    let few : units s ≤ 256 = (passes (units s) (words s) k.passes).few_units in
    let to : s.clock.stage ≤ 10 = stage-small s k h in
    record {
      few = few;
      from = k.from;
      to = to;
      made = omega (arith, made-below s k h, ceiling-small (units s) s.clock.stage few k.from to);
      rounds = k.rounds;
      requests = k.requests;
    }

-- the last round of a stage: its rule ends it, or its ceiling
unfoldable pub last_at : ℕ → Bool → Clock → Bool
last_at n ends c = ends || leb (ceiling n c.stage) (c.made + 1)

-- the clock stands in stage k, one of the ten, with room for a round
unfoldable pub in_stage : ℕ → ℕ → Clock → Bool
in_stage n k c = (leb n 256 && (leb k 10 && eqb c.stage k))
    && (leb c.made 256 && (leb c.rounds MAX-ROUNDS && leb c.requests MAX-REQUESTS))

pub stands : (n k : ℕ) (c : Clock) → in_stage n k c ≡ true → c.stage ≡ k
unfolding in_stage
stands n k c h =
    let place = and_right (leb n 256) _ (and_left (leb n 256 && (leb k 10 && eqb c.stage k)) _ h) in
    eqb-true c.stage k (and_right (leb k 10) _ place)

-- then a round may be made
pub may : (n k : ℕ) (c : Clock) → 1 ≤ k → in_stage n k c ≡ true → Ready n c
unfolding in_stage
may n k c from h =
    let here : c.stage ≡ k = stands n k c h in
    let front = and_left (leb n 256 && (leb k 10 && eqb c.stage k)) _ h in
    let room = and_right (leb n 256 && (leb k 10 && eqb c.stage k)) _ h in
    let more = and_right (leb c.made 256) _ room in
    let to : k ≤ 10 = leb-true k 10 (and_left (leb k 10) _ (and_right (leb n 256) _ front)) in
    record {
      few = leb-true n 256 (and_left (leb n 256) _ front);
      from = omega (arith, here, from);
      to = omega (arith, here, to);
      made = leb-true c.made 256 (and_left (leb c.made 256) _ room);
      rounds = leb-true c.rounds MAX-ROUNDS (and_left (leb c.rounds MAX-ROUNDS) _ more);
      requests = leb-true c.requests MAX-REQUESTS (and_right (leb c.rounds MAX-ROUNDS) _ more);
    }

-- a clock with room stands in its stage
pub in_stage_lem : (n k : ℕ) (c : Clock) → Ready n c → c.stage ≡ k → in_stage n k c ≡ true
unfolding in_stage
in_stage_lem n k c r e =
    let to : k ≤ 10 = omega (arith, r.to, e) in
    and-true _ _ (and-true _ _ (le-leb n 256 r.few) (and-true _ _ (le-leb k 10 to) (eq-eqb c.stage k e)))
    (and-true _ _ (le-leb c.made 256 r.made)
    (and-true _ _ (le-leb c.rounds MAX-ROUNDS r.rounds) (le-leb c.requests MAX-REQUESTS r.requests)))

-- what the clock's own code needs, of any stage
pub may-tick : (n k : ℕ) (c : Clock) → in_stage n k c ≡ true →
    (n ≤ 256) × ((c.stage ≤ 10) × ((c.made ≤ 256) × (c.rounds ≤ MAX-ROUNDS)))
unfolding in_stage
may-tick n k c h =
    let front = and_left (leb n 256 && (leb k 10 && eqb c.stage k)) _ h in
    let room = and_right (leb n 256 && (leb k 10 && eqb c.stage k)) _ h in
    let to : k ≤ 10 = leb-true k 10 (and_left (leb k 10) _ (and_right (leb n 256) _ front)) in (
      leb-true n 256 (and_left (leb n 256) _ front),
      (
        omega (arith, to, stands n k c h),
        (
          leb-true c.made 256 (and_left (leb c.made 256) _ room),
          leb-true c.rounds MAX-ROUNDS
              (and_left (leb c.rounds MAX-ROUNDS) _ (and_right (leb c.made 256) _ room)),
        ),
      ),
    )

-- what the test of a stage's loop says where it makes a round
pub record Goes (n k made budget : ℕ) (fits : Bool) (c : Clock) : Type 0 where
  pub test : (ltb made budget && (fits && in_stage n k c)) ≡ true
  pub below : made < budget
  pub fit : fits ≡ true
  pub inside : in_stage n k c ≡ true
  pub few : n ≤ 256

pub goes : (n k made budget : ℕ) (fits : Bool) (c : Clock) → (ltb made budget && (fits && in_stage n k c)) ≡ true →
    Goes n k made budget fits c
goes n k made budget fits c g =
    let on = and_right (ltb made budget) (fits && in_stage n k c) g in
    record {
      test = g;
      below = ltb-true made budget (and_left (ltb made budget) _ g);
      fit = and_left fits (in_stage n k c) on;
      inside = and_right fits (in_stage n k c) on;
      few = (may-tick n k c (and_right fits (in_stage n k c) on)).0;
    }
