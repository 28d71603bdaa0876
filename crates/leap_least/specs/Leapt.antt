-- The rounds of a stage that a leap stands for, and that a run of the stage leaves what the leap gives.
use Rattle.std.specs.Prelude.{◌≡◌, refl, Bool, true, false, cond, ◌⊎◌, List, ℕ, zero, suc, ◌+◌, ◌-◌, ◌≤◌, ◌<◌, min, max}
use Rattle.std.specs.Prelude.{eqb, leb}
use Rattle.std.proofs.Common.{sym, ap, ◌∙◌, inl, inr, arith, eq-eqb, ne_eqb, leb-true}
use Rattle.std.proofs.Math.Decide.{ℕ_discrete}
use Rattle.base_lists.specs.Folds.{agree}
use Rattle.base_lists.specs.Agreement.{agree_differ}
use Rattle.base_lists.specs.Tables.{over, over-over}
use Rattle.base_lists.specs.Rounds.{over-same}
use Rattle.base_lists.specs.Tests.{either, refuted}
use Rattle.spec_rules.specs.Ceilings.{ceiling}
use Rattle.spec_rules.specs.CeilingLaws.{ceiling-small}
use Rattle.spec_rules.specs.Components.{least_heard}
use Rattle.spec_state.specs.declared.groups.Clock.{Clock}
use Rattle.spec_machine.specs.State.{MAX-ROUNDS, MAX-REQUESTS}
use Rattle.spec_machine.specs.Step.{next_clock}
use Rattle.spec_machine.specs.InStage.{Ready, last_at, in_stage, stands, may, in_stage_lem}
use Rattle.spec_machine.specs.StageRun.{stage_run, stage-on, stage-off}
use Rattle.leap_tests.specs.Settling.{spread, Settling, settling-round, goes_on, stays}
use Rattle.leap_tests.specs.Found.{Found}

-- the rounds of the stage still to come: those that change something and the one that does not, which is never the
-- first of a stage
abbrev pub rounds_in : ℕ → ℕ → ℕ
rounds_in made rounds = cond (eqb made 0) (max rounds 1) rounds + 1

-- the clock after so many rounds, the last of which ends the stage
abbrev pub passed : ℕ → Clock → Clock
passed rounds c = record {
  stage = c.stage + 1;
  made = 0;
  rounds = min (c.rounds + rounds) MAX-ROUNDS;
  requests = min c.requests MAX-REQUESTS;
}

-- what a leap gives of a stage that has at most `most` rounds: what the units end with, within the ceiling and the
-- budget, and the clock
pub record Leapt (n m : ℕ) (ends : List ℕ) (most budget : ℕ) (value : List ℕ) (c : Clock) (made : ℕ) (ended : List ℕ)
    (c' : Clock) (made' : ℕ) : Type 0 where
  pub rounds : ℕ
  pub found : Found n m ends value ended rounds
  pub covered : made + rounds_in c.made rounds ≤ budget
  pub below : c.made + rounds_in c.made rounds ≤ most
  pub ticked : c' ≡ passed (rounds_in c.made rounds) c
  pub counted : made' ≡ made + rounds_in c.made rounds

-- ---- one round

agree-self : (n : ℕ) (t : List ℕ) → agree n t t ≡ true
agree-self n t = go (either (agree n t t))
  where
    go : (agree n t t ≡ true) ⊎ (agree n t t ≡ false) → agree n t t ≡ true
    go (inl e) = e
    go (inr e) = absurd ((agree_differ n t t 0 e).2 refl)

not_last : (n k : ℕ) (c : Clock) → c.stage ≡ k → c.made + 2 ≤ ceiling n k → last_at n false c ≡ false
unfolding last_at
not_last n k c s l = rw s (refuted (leb (ceiling n k) (c.made + 1))
    (λ t. omega (arith, l, leb-true (ceiling n k) (c.made + 1) t)))

is_last : (n : ℕ) (c : Clock) → last_at n true c ≡ true
unfolding last_at
is_last n c = refl

-- a round that ends the stage, and one that does not
next-passed : (c : Clock) → next_clock true 0 c ≡ passed 1 c
unfolding next_clock
next-passed c = let all : c.requests + 0 ≡ c.requests = omega arith in rw all refl

passed-more : (r : ℕ) (c : Clock) → passed (r + 1) (next_clock false 0 c) ≡ passed (suc r + 1) c
unfolding next_clock
passed-more r c =
    let rounds : min (min (c.rounds + 1) MAX-ROUNDS + (r + 1)) MAX-ROUNDS ≡ min (c.rounds + (suc r + 1)) MAX-ROUNDS =
    omega arith in
    let requests : min (min (c.requests + 0) MAX-REQUESTS) MAX-REQUESTS ≡ min c.requests MAX-REQUESTS =
    omega arith in
    rw (rounds, requests) refl

next-made : (c : Clock) → (next_clock false 0 c).made ≡ c.made + 1
unfolding next_clock
next-made c = refl

next-inside : (n k : ℕ) (c : Clock) → 1 ≤ k → k ≤ 10 → in_stage n k c ≡ true → c.made + 2 ≤ ceiling n k →
    in_stage n k (next_clock false 0 c) ≡ true
unfolding next_clock
next-inside n k c from to on l =
    let r : Ready n c = may n k c from on in
    let here : c.stage ≡ k = stands n k c on in
    in_stage_lem n k (next_clock false 0 c)
    (record {
      few = r.few;
      from = r.from;
      to = r.to;
      made = omega (arith, l, ceiling-small n k r.few from to);
      rounds = omega arith;
      requests = omega arith;
    })
    here

-- ---- all of them

-- a stage of x made of its values, clock and rounds: a round is one of the least value over the pairs, of what is said
-- in the first
pub record Spreads {X : Type 0} (mk : List ℕ → Clock → ℕ → X) (on : X → Bool) (one : X →
    X) (n m k : ℕ) (ends : List ℕ) (said : List ℕ → List ℕ) (Fine : List ℕ → Type 0) : Type 0 where
  pub from : 1 ≤ k
  pub to : k ≤ 10
  pub runs : (value : List ℕ) (c : Clock) (made : ℕ) → in_stage n k c ≡ true → on (mk value c made) ≡ true
  pub rests : (value : List ℕ) (c : Clock) (made : ℕ) → c.stage ≡ k + 1 → on (mk value c made) ≡ false
  pub first : (value : List ℕ) (c : Clock) (made : ℕ) → c.made ≡ 0 → Fine (said value)
      → one (mk value c made) ≡ mk (spread n m ends (said value)) (next_clock (last_at n false c) 0 c) (made + 1)
  pub later : (value : List ℕ) (c : Clock) (made : ℕ) → (c.made ≡ 0 → ⊥) → Fine value
      → one (mk value c made) ≡ mk (spread n m ends value)
      (next_clock (last_at n (agree n value (spread n m ends value)) c) 0 c) (made + 1)
  pub keeps : (value : List ℕ) → Fine value → Fine (spread n m ends value)

-- ends with the value of each unit, after so many rounds that change something
record Waits (n m : ℕ) (ends value : List ℕ) (last wait : ℕ → ℕ) (rounds : ℕ) : Type 0 where
  settling : Settling n m ends value last wait
  most : (v : ℕ) → v < n → wait v ≤ rounds
  some : (rounds ≡ 0) ⊎ ((v : ℕ) × (v < n) × (rounds ≡ wait v))

waits-less : (n m : ℕ) (ends value : List ℕ) (last wait : ℕ → ℕ) (r r' : ℕ) → r' ≡ r - 1 →
    Waits n m ends value last wait r
    → Waits n m ends (spread n m ends value) last (λ (v : ℕ). wait v - 1) r'
waits-less n m ends value last wait r r' is w =
    record {
      settling = settling-round n m ends value last wait w.settling;
      most = λ v h. omega (arith, is, w.most v h);
      some = go w.some;
    }
  where
    go : (r ≡ 0) ⊎ ((v : ℕ) × (v < n) × (r ≡ wait v)) → (r' ≡ 0) ⊎ ((v : ℕ) × (v < n) × (r' ≡ wait v - 1))
    go (inl e) = inl (omega (arith, is, e))
    go (inr (v, h, e)) = inr (v, h, omega (arith, is, e))

module _ {X : Type 0} (mk : List ℕ → Clock → ℕ → X) (on : X → Bool) (one : X →
    X) (n m k : ℕ) (ends : List ℕ) (said : List ℕ → List ℕ) (Fine : List ℕ → Type 0)
    (s : Spreads mk on one n m k ends said Fine) where
  -- where no unit waits the next round ends the stage
  over-at_once : (b : ℕ) (value : List ℕ) (c : Clock) (made : ℕ) (last wait : ℕ → ℕ) →
      Waits n m ends value last wait 0 → Fine value → in_stage n k c ≡ true
      → (c.made ≡ 0 → ⊥) → stage_run on one (suc b) (mk value c made) ≡ mk (over n last value) (passed 1 c) (made + 1)
  over-at_once b value c made last wait w fine inside later =
      let none : (v : ℕ) → v < n → wait v ≡ 0 = λ v h. omega (arith, w.most v h) in
      let same : spread n m ends value ≡ value = stays n m ends value last wait w.settling none in
      let all : value ≡ over n last value = over-same 0 n last value (λ v h. w.settling.there v h (none v h)) in
      let after : one (mk value c made) ≡ mk value (passed 1 c) (made + 1) =
      s.later value c made later fine ∙ rw (same, agree-self n value, is_last n c, next-passed c) refl in
      let here : c.stage ≡ k = stands n k c inside in
      stage-on on one b (mk value c made) (s.runs value c made inside)
      ∙ ap (stage_run on one b) after
      ∙ stage-off on one b (mk value (passed 1 c) (made + 1)) (s.rests value (passed 1 c) (made + 1) (rw here refl))
      ∙ ap (λ (t : List ℕ). mk t (passed 1 c) (made + 1)) all

  -- where one waits it goes on
  goes-a_round : (r b : ℕ) (value : List ℕ) (c : Clock) (made : ℕ) (last wait : ℕ → ℕ) →
      Waits n m ends value last wait (suc r) → Fine value → in_stage n k c ≡ true
      → (c.made ≡ 0 → ⊥) → c.made + 2 ≤ ceiling n k
      → stage_run on one (suc b) (mk value c made)
      ≡ stage_run on one b (mk (spread n m ends value) (next_clock false 0 c) (made + 1))
  goes-a_round r b value c made last wait w fine inside later room = go w.some
    where
      go : (suc r ≡ 0) ⊎ ((v : ℕ) × (v < n) × (suc r ≡ wait v))
          → stage_run on one (suc b) (mk value c made)
          ≡ stage_run on one b (mk (spread n m ends value) (next_clock false 0 c) (made + 1))
      go (inl e) = absurd (omega (arith, e))
      go (inr (v, h, e)) =
          let here : c.stage ≡ k = stands n k c inside in
          let changes : agree n value (spread n m ends value) ≡ false =
          goes_on n m ends value last wait w.settling v h (omega (arith, e)) in
          let after : one (mk value c made) ≡ mk (spread n m ends value) (next_clock false 0 c) (made + 1) =
          s.later value c made later fine ∙ rw (changes, not_last n k c here room) refl in
          stage-on on one b (mk value c made) (s.runs value c made inside) ∙ ap (stage_run on one b) after

  run-later : (r b : ℕ) (value : List ℕ) (c : Clock) (made : ℕ) (last wait : ℕ → ℕ) → Waits n m ends value last wait r →
      Fine value → in_stage n k c ≡ true
      → (c.made ≡ 0 → ⊥) → r < b → c.made + (r + 1) ≤ ceiling n k
      → stage_run on one b (mk value c made) ≡ mk (over n last value) (passed (r + 1) c) (made + (r + 1))
  run-later r zero value c made last wait w fine inside later l below = absurd (omega arith)
  run-later zero (suc b) value c made last wait w fine inside later l below =
      over-at_once b value c made last wait w fine inside later
  run-later (suc r) (suc b) value c made last wait w fine inside later l below =
      let room : c.made + 2 ≤ ceiling n k = omega (arith, below) in
      let count : made + 1 + (r + 1) ≡ made + (suc r + 1) = omega arith in
      goes-a_round r b value c made last wait w fine inside later room
      ∙ run-later r b (spread n m ends value) (next_clock false 0 c) (made + 1) last (λ (u : ℕ). wait u - 1)
      (waits-less n m ends value last wait (suc r) r (omega arith) w)
      (s.keeps value fine) (next-inside n k c s.from s.to inside room) (λ q. omega (arith, q, next-made c))
      (omega arith) (omega (arith, next-made c, below))
      ∙ rw (over-over n last (least_heard m ends value) value, passed-more r c, count) refl

  -- from the first round of the stage on
  run-first : (r b : ℕ) (value : List ℕ) (c : Clock) (made : ℕ) (last wait : ℕ → ℕ) →
      Waits n m ends (said value) last wait r → Fine (said value) → in_stage n k c ≡ true
      → c.made ≡ 0 → max r 1 < b → c.made + (max r 1 + 1) ≤ ceiling n k
      → stage_run on one b (mk value c made)
      ≡ mk (over n last (said value)) (passed (max r 1 + 1) c) (made + (max r 1 + 1))
  run-first r zero value c made last wait w fine inside none l below = absurd (omega arith)
  run-first r (suc b) value c made last wait w fine inside none l below =
      let here : c.stage ≡ k = stands n k c inside in
      let room : c.made + 2 ≤ ceiling n k = omega (arith, below) in
      let after : one (mk value c made) ≡ mk (spread n m ends (said value)) (next_clock false 0 c) (made + 1) =
      s.first value c made none fine ∙ rw (not_last n k c here room) refl in
      let rest : stage_run on one b (mk (spread n m ends (said value)) (next_clock false 0 c) (made + 1))
      ≡ mk (over n last (spread n m ends (said value))) (passed (r - 1 + 1) (next_clock false 0 c))
      (made + 1 + (r - 1 + 1)) =
      run-later (r - 1) b (spread n m ends (said value)) (next_clock false 0 c) (made + 1) last (λ (u : ℕ). wait u - 1)
      (waits-less n m ends (said value) last wait r (r - 1) refl w)
      (s.keeps (said value) fine) (next-inside n k c s.from s.to inside room)
      (λ q. omega (arith, q, next-made c)) (omega arith) (omega (arith, next-made c, below)) in
      let count : made + 1 + (r - 1 + 1) ≡ made + (max r 1 + 1) = omega arith in
      let all : suc (r - 1) + 1 ≡ max r 1 + 1 = omega arith in
      stage-on on one b (mk value c made) (s.runs value c made inside)
      ∙ ap (stage_run on one b) after
      ∙ rest
      ∙ rw (over-over n last (least_heard m ends (said value)) (said value), passed-more (r - 1) c, all, count) refl

  first_by : (says : List ℕ) (r b : ℕ) (value : List ℕ) → says ≡ said value →
      (c : Clock) (made : ℕ) (last wait : ℕ → ℕ) → Waits n m ends says last wait r → Fine says → in_stage n k c ≡ true
      → c.made ≡ 0 → max r 1 < b → c.made + (max r 1 + 1) ≤ ceiling n k
      → mk (over n last says) (passed (max r 1 + 1) c) (made + (max r 1 + 1)) ≡ stage_run on one b (mk value c made)
  first_by says r b value e = rw e (λ c made last wait w fine inside none l below. sym
      (run-first r b value c made last wait w fine inside none l below))

  later-by : (says : List ℕ) (r b : ℕ) (value : List ℕ) → says ≡ value → (c : Clock) (made : ℕ) (last wait : ℕ → ℕ) →
      Waits n m ends says last wait r → Fine says → in_stage n k c ≡ true
      → (c.made ≡ 0 → ⊥) → r < b → c.made + (r + 1) ≤ ceiling n k
      → mk (over n last says) (passed (r + 1) c) (made + (r + 1)) ≡ stage_run on one b (mk value c made)
  later-by says r b value e = rw e (λ c made last wait w fine inside later l below. sym
      (run-later r b value c made last wait w fine inside later l below))

  three : (t t' : List ℕ) (c c' : Clock) (made made' : ℕ) → t ≡ t' → c ≡ c' → made ≡ made' →
      mk t c made ≡ mk t' c' made'
  three t t' c c' made made' e f g = rw (e, f, g) refl

  -- what the units say
  abbrev said_at : ℕ → List ℕ → List ℕ
  said_at made value = cond (eqb made 0) (said value) value

  pub leapt-run : (budget : ℕ) (value : List ℕ) (c : Clock) (made : ℕ) (ended : List ℕ) (c' : Clock) (made' : ℕ)
      → Leapt n m ends (ceiling n k) budget (said_at c.made value) c made ended c' made' →
      Fine (said_at c.made value) → in_stage n k c ≡ true
      → mk ended c' made' ≡ stage_run on one (budget - made) (mk value c made)
  leapt-run budget value c made ended c' made' l fine inside = go (ℕ_discrete c.made 0)
    where
      f : Found n m ends (said_at c.made value) ended l.rounds
      f = l.found

      waits : Waits n m ends (said_at c.made value) f.last f.wait l.rounds
      waits = record { settling = f.settling; most = f.most; some = f.some }

      total : (r : ℕ) (y : X) → rounds_in c.made l.rounds ≡ r →
          mk (over n f.last (said_at c.made value)) (passed r c) (made + r) ≡ y → mk ended c' made' ≡ y
      total r y e is = three ended (over n f.last (said_at c.made value)) c' (passed r c) made' (made + r) f.all
          (l.ticked ∙ ap (λ (r : ℕ). passed r c) e) (l.counted ∙ ap (λ (r : ℕ). made + r) e) ∙ is

      go : Dec (c.made ≡ 0) → mk ended c' made' ≡ stage_run on one (budget - made) (mk value c made)
      go (yes e) =
          let t : eqb c.made 0 ≡ true = eq-eqb c.made 0 e in
          let all : rounds_in c.made l.rounds ≡ max l.rounds 1 + 1 = rw t refl in
          let says : said_at c.made value ≡ said value = rw t refl in
          total (max l.rounds 1 + 1) _ all
          (first_by (said_at c.made value) l.rounds (budget - made) value says c made f.last
          f.wait waits fine inside e (omega (arith, l.covered, all)) (omega (arith, l.below, all)))
      go (no e) =
          let t : eqb c.made 0 ≡ false = ne_eqb c.made 0 e in
          let all : rounds_in c.made l.rounds ≡ l.rounds + 1 = rw t refl in
          let says : said_at c.made value ≡ value = rw t refl in
          total (l.rounds + 1) _ all
          (later-by (said_at c.made value) l.rounds (budget - made) value says c made f.last
          f.wait waits fine inside e (omega (arith, l.covered, all)) (omega (arith, l.below, all)))
