-- The rounds of a ranking that a leap stands for, and that a run of the stage leaves what the leap gives. One law for
-- stages 4 and 6.
use Rattle.std.specs.Prelude.{◌≡◌, ℕ, zero, suc, ◌+◌, ◌-◌, ◌*◌, ◌/◌, ◌<◌, ◌≤◌, min, Bool, true, false, cond, ◌&&◌, ◌⊎◌}
use Rattle.std.specs.Prelude.{List, nat_le}
use Rattle.std.proofs.Math.Path.{refl, sym, ap}
use Rattle.std.proofs.Common.{◌∙◌, inl, inr, leb-true}
use Rattle.std.proofs.Math.Decide.{ℕ_discrete}
use native.Mathlib.Omega.{arith}
use Rattle.base_lists.specs.Sums.{sum_zero}
use Rattle.base_lists.specs.Tables.{over, over-over}
use Rattle.base_lists.specs.Tests.{refuted}
use Rattle.spec_rules.specs.Basics.{ABSENT}
use Rattle.spec_rules.specs.Ceilings.{ranking_ceiling, ceiling}
use Rattle.spec_rules.specs.CeilingLaws.{ceiling-small}
use Rattle.spec_rules.specs.Ranking.{jump_round, sum_round, requests_of, ranking_ends}
use Rattle.spec_state.specs.declared.groups.Clock.{Clock}
use Rattle.spec_machine.specs.State.{MAX-ROUNDS, MAX-REQUESTS}
use Rattle.spec_machine.specs.Step.{next_clock}
use Rattle.spec_machine.specs.InStage.{Ready, last_at, in_stage, stands, may, in_stage_lem}
use Rattle.spec_machine.specs.StageRun.{stage_run, stage-on, stage-off}
use Rattle.leap_ranking.specs.Ranked.{digits, digits-none, digits-half, digits_of, Ranked, ranked-round}
use Rattle.leap_ranking.specs.Ranked.{requests-now, goes_on, asks_none, ends, jumps-done, sums-done, jumps-stay}
use Rattle.leap_ranking.specs.Ranked.{sums-stay}

-- whether a leap is tried: of a few units rounds cost no more, and no ranking takes more rounds than these
abbrev pub tried : ℕ → ℕ → Bool
tried n budget = nat_le 8 n && nat_le 12 budget

-- no object has a predecessor
abbrev pub cleared : ℕ → List ℕ → List ℕ
cleared k jump = over k (λ (a : ℕ). ABSENT) jump

-- the clock after so many rounds with so many requests, the last of which ends the stage
abbrev pub passed : ℕ → ℕ → Clock → Clock
passed rounds requests c =
    record {
      stage = c.stage + 1;
      made = 0;
      rounds = min (c.rounds + rounds) MAX-ROUNDS;
      requests = min (c.requests + requests) MAX-REQUESTS;
    }

-- the sums of all objects, how often they ask, and after how many rounds the last of them has its sum
pub record Found (k : ℕ) (jump sum ended : List ℕ) (requests rounds : ℕ) : Type 0 where
  pub rank : ℕ → ℕ
  pub total : ℕ → ℕ
  pub ranked : Ranked k jump sum rank total
  pub all : ended ≡ over k total sum
  pub asked : requests ≡ digits_of k rank
  pub most : (a : ℕ) → a < k → digits (rank a) ≤ rounds
  pub some : (rounds ≡ 0) ⊎ ((a : ℕ) × (a < k) × (rounds ≡ digits (rank a)))

-- what a leap gives of a ranking of n units: no predecessor, the sums, within the ceiling and the budget, and the clock
pub record Leapt (n budget : ℕ) (jump sum : List ℕ) (c : Clock) (jump' sum' : List ℕ) (c' : Clock)
    (made' : ℕ) : Type 0 where
  pub requests : ℕ
  pub rounds : ℕ
  pub found : Found (2 * n) jump sum sum' requests rounds
  pub jumps : jump' ≡ cleared (2 * n) jump
  pub covered : rounds + 1 ≤ budget
  pub below : c.made + (rounds + 1) ≤ ranking_ceiling n
  pub ticked : c' ≡ passed (rounds + 1) requests c
  pub counted : made' ≡ rounds + 1

-- ---- the clock

not_last : (n k : ℕ) (c : Clock) → c.stage ≡ k → c.made + 2 ≤ ceiling n k → last_at n false c ≡ false
unfolding last_at
not_last n k c s l = rw s (refuted (nat_le (ceiling n k) (c.made + 1))
    (λ t. omega (arith, l, leb-true (ceiling n k) (c.made + 1) t)))

is_last : (n : ℕ) (c : Clock) → last_at n true c ≡ true
unfolding last_at
is_last n c = refl

next-passed : (c : Clock) → next_clock true 0 c ≡ passed 1 0 c
unfolding next_clock
next-passed c = refl

passed-more : (r q q' : ℕ) (c : Clock) → passed (r + 1) q' (next_clock false q c) ≡ passed (suc r + 1) (q + q') c
unfolding next_clock
passed-more r q q' c =
    let rounds : min (min (c.rounds + 1) MAX-ROUNDS + (r + 1)) MAX-ROUNDS ≡ min (c.rounds + (suc r + 1)) MAX-ROUNDS =
    omega arith in
    let requests : min (min (c.requests + q) MAX-REQUESTS + q') MAX-REQUESTS
    ≡ min (c.requests + (q + q')) MAX-REQUESTS = omega arith in
    rw (rounds, requests) refl

next-made : (q : ℕ) (c : Clock) → (next_clock false q c).made ≡ c.made + 1
unfolding next_clock
next-made q c = refl

next-inside : (n k q : ℕ) (c : Clock) → 1 ≤ k → k ≤ 10 → in_stage n k c ≡ true → c.made + 2 ≤ ceiling n k →
    in_stage n k (next_clock false q c) ≡ true
unfolding next_clock
next-inside n k q c from to on l =
    let r : Ready n c = may n k c from on in
    let here : c.stage ≡ k = stands n k c on in
    in_stage_lem n k (next_clock false q c)
    (record {
      few = r.few;
      from = r.from;
      to = r.to;
      made = omega (arith, l, ceiling-small n k r.few from to);
      rounds = omega arith;
      requests = omega arith;
    })
    here

-- ---- all rounds

-- a stage of x made of its places, jumps, sums, clock and rounds: a round is one of a ranking of 2n objects, the last
-- numbers the places from the sums before it
pub record Ranks {X : Type 0} (mk : List ℕ → List ℕ → List ℕ → Clock → ℕ → X) (on : X → Bool) (one : X →
    X) (n stage : ℕ) (number : List ℕ → List ℕ → List ℕ) : Type 0 where
  pub from : 1 ≤ stage
  pub to : stage ≤ 10
  pub most : ceiling n stage ≡ ranking_ceiling n
  pub runs : (place jump sum : List ℕ) (c : Clock) (made : ℕ) → in_stage n stage c ≡ true →
      on (mk place jump sum c made) ≡ true
  pub rests : (place jump sum : List ℕ) (c : Clock) (made : ℕ) → c.stage ≡ stage + 1 →
      on (mk place jump sum c made) ≡ false
  pub round : (place jump sum : List ℕ) (c : Clock) (made : ℕ)
      → one (mk place jump sum c made)
      ≡ mk (cond (last_at n (ranking_ends (2 * n) jump) c) (number sum place) place) (jump_round (2 * n) jump)
      (sum_round (2 * n) jump sum)
      (next_clock (last_at n (ranking_ends (2 * n) jump) c) (requests_of (2 * n) jump) c) (made + 1)

-- ranked, with so many rounds to come that change something
record Waits (k : ℕ) (jump sum : List ℕ) (rank total : ℕ → ℕ) (rounds : ℕ) : Type 0 where
  ranked : Ranked k jump sum rank total
  most : (a : ℕ) → a < k → digits (rank a) ≤ rounds
  some : (rounds ≡ 0) ⊎ ((a : ℕ) × (a < k) × (rounds ≡ digits (rank a)))

-- a half has a digit less, or none
digits-less : (r : ℕ) → digits (r / 2) ≡ digits r - 1
digits-less r = go (ℕ_discrete r 0)
  where
    go : Dec (r ≡ 0) → digits (r / 2) ≡ digits r - 1
    go (yes e) =
        let half : r / 2 ≡ 0 = omega (arith, e) in
        rw (half, e) (omega (arith, digits-none))
    go (no e) = omega (arith, digits-half r (omega (arith, e)))

waits-less : (k : ℕ) (jump sum : List ℕ) (rank total : ℕ → ℕ) (r : ℕ) → Waits k jump sum rank total (suc r)
    → Waits k (jump_round k jump) (sum_round k jump sum) (λ (a : ℕ). rank a / 2) total r
waits-less k jump sum rank total r w =
    record {
      ranked = ranked-round k jump sum rank total w.ranked;
      most = λ a l. omega (arith, w.most a l, digits-less (rank a));
      some = go w.some;
    }
  where
    go : (suc r ≡ 0) ⊎ ((a : ℕ) × (a < k) × (suc r ≡ digits (rank a))) →
        (r ≡ 0) ⊎ ((a : ℕ) × (a < k) × (r ≡ digits (rank a / 2)))
    go (inl e) = absurd (omega (arith, e))
    go (inr (a, l, e)) = inr (a, l, omega (arith, e, digits-less (rank a)))

module _ {X : Type 0} (mk : List ℕ → List ℕ → List ℕ → Clock → ℕ → X) (on : X → Bool) (one : X →
    X) (n stage : ℕ) (number : List ℕ → List ℕ → List ℕ)
    (s : Ranks mk on one n stage number) where
  -- what a run leaves
  left : (place jump sum : List ℕ) (total : ℕ → ℕ) → Clock → ℕ → X
  left place jump sum total c made = mk (number (over (2 * n) total sum) place) (cleared (2 * n) jump)
      (over (2 * n) total sum) c made

  -- where no object has a rank the next round ends the stage
  over-at_once : (b : ℕ) (place jump sum : List ℕ) (c : Clock) (made : ℕ) (rank total : ℕ → ℕ) →
      Waits (2 * n) jump sum rank total 0 → in_stage n stage c ≡ true
      → stage_run on one (suc b) (mk place jump sum c made)
      ≡ left place jump sum total (passed 1 (digits_of (2 * n) rank) c) (made + 1)
  unfolding left digits_of
  over-at_once b place jump sum c made rank total w inside =
      let k = 2 * n in
      let none : (a : ℕ) → a < k → digits (rank a) ≡ 0 = λ a l. omega (arith, w.most a l) in
      let asked : digits_of k rank ≡ 0 = sum_zero k (λ (a : ℕ). digits (rank a)) none in
      let here : c.stage ≡ stage = stands n stage c inside in
      let after : one (mk place jump sum c made) ≡ mk (number sum place) jump sum (passed 1 0 c) (made + 1) =
      s.round place jump sum c made
      ∙ rw (
        ends k jump sum rank total w.ranked none,
        is_last n c,
        asks_none k jump sum rank total w.ranked none,
        jumps-stay k jump sum rank total w.ranked none,
        sums-stay k jump sum rank total w.ranked none,
        next-passed c,
      ) refl in
      let sums : sum ≡ over k total sum = sums-done k jump sum rank total w.ranked none in
      let jumps : jump ≡ cleared k jump = jumps-done k jump sum rank total w.ranked none in
      stage-on on one b (mk place jump sum c made) (s.runs place jump sum c made inside)
      ∙ ap (stage_run on one b) after
      ∙ stage-off on one b (mk (number sum place) jump sum (passed 1 0 c) (made + 1))
      (s.rests (number sum place) jump sum (passed 1 0 c) (made + 1) (rw here refl))
      ∙ ap (λ (t : List ℕ). mk (number t place) jump t (passed 1 0 c) (made + 1)) sums
      ∙ ap (λ (t : List ℕ). mk (number (over k total sum) place) t (over k total sum) (passed 1 0 c) (made + 1)) jumps
      ∙ ap (λ (q : ℕ). mk (number (over k total sum) place) (cleared k jump) (over k total sum) (passed 1 q c)
      (made + 1)) (sym asked)

  -- where one has it goes on
  goes-a_round : (r b : ℕ) (place jump sum : List ℕ) (c : Clock) (made : ℕ) (rank total : ℕ → ℕ) →
      Waits (2 * n) jump sum rank total (suc r) → in_stage n stage c ≡ true
      → c.made + 2 ≤ ceiling n stage
      → stage_run on one (suc b) (mk place jump sum c made)
      ≡ stage_run on one b (mk place (jump_round (2 * n) jump) (sum_round (2 * n) jump sum)
      (next_clock false (requests_of (2 * n) jump) c) (made + 1))
  goes-a_round r b place jump sum c made rank total w inside room = go w.some
    where
      go : (suc r ≡ 0) ⊎ ((a : ℕ) × (a < 2 * n) × (suc r ≡ digits (rank a)))
          → stage_run on one (suc b) (mk place jump sum c made)
          ≡ stage_run on one b (mk place (jump_round (2 * n) jump) (sum_round (2 * n) jump sum)
          (next_clock false (requests_of (2 * n) jump) c) (made + 1))
      go (inl e) = absurd (omega (arith, e))
      go (inr (a, l, e)) =
          let here : c.stage ≡ stage = stands n stage c inside in
          let on-it : ranking_ends (2 * n) jump ≡ false =
          goes_on (2 * n) jump sum rank total w.ranked a l (omega (arith, e)) in
          let after : one (mk place jump sum c made)
          ≡ mk place (jump_round (2 * n) jump) (sum_round (2 * n) jump sum)
          (next_clock false (requests_of (2 * n) jump) c) (made + 1) =
          s.round place jump sum c made ∙ rw (on-it, not_last n stage c here room) refl in
          stage-on on one b (mk place jump sum c made) (s.runs place jump sum c made inside)
          ∙ ap (stage_run on one b) after

  over-twice : (jump sum : List ℕ) (total : ℕ → ℕ) →
      (cleared (2 * n) (jump_round (2 * n) jump) ≡ cleared (2 * n) jump)
      × (over (2 * n) total (sum_round (2 * n) jump sum) ≡ over (2 * n) total sum)
  unfolding jump_round sum_round
  over-twice jump sum total = (over-over (2 * n) (λ (a : ℕ). ABSENT) _ jump, over-over (2 * n) total _ sum)

  run-ranks : (r b : ℕ) (place jump sum : List ℕ) (c : Clock) (made : ℕ) (rank total : ℕ → ℕ) →
      Waits (2 * n) jump sum rank total r → in_stage n stage c ≡ true
      → r < b → c.made + (r + 1) ≤ ceiling n stage
      → stage_run on one b (mk place jump sum c made)
      ≡ left place jump sum total (passed (r + 1) (digits_of (2 * n) rank) c) (made + (r + 1))
  unfolding left
  run-ranks r zero place jump sum c made rank total w inside l below = absurd (omega arith)
  run-ranks zero (suc b) place jump sum c made rank total w inside l below =
      over-at_once b place jump sum c made rank total w inside
  run-ranks (suc r) (suc b) place jump sum c made rank total w inside l below =
      let k = 2 * n in
      let q = requests_of k jump in
      let room : c.made + 2 ≤ ceiling n stage = omega (arith, below) in
      let count : made + 1 + (r + 1) ≡ made + (suc r + 1) = omega arith in
      let twice = over-twice jump sum total in
      goes-a_round r b place jump sum c made rank total w inside room
      ∙ run-ranks r b place (jump_round k jump) (sum_round k jump sum) (next_clock false q c) (made + 1)
      (λ (a : ℕ). rank a / 2) total (waits-less k jump sum rank total r w)
      (next-inside n stage q c s.from s.to inside room) (omega arith) (omega (arith, next-made q c, below))
      ∙ rw (
        twice.0,
        twice.1,
        passed-more r q (digits_of k (λ (a : ℕ). rank a / 2)) c,
        count,
        requests-now k jump sum rank total w.ranked,
      ) refl

  four : (place : List ℕ) (j j' t t' : List ℕ) (c c' : Clock) (made made' : ℕ) → j ≡ j' → t ≡ t' → c ≡ c' → made ≡ made'
      → mk (number t place) j t c made ≡ mk (number t' place) j' t' c' made'
  four place j j' t t' c c' made made' d e f g = rw (d, e, f, g) refl

  pub leapt-run : (budget : ℕ) (place jump sum : List ℕ) (c : Clock) (jump' sum' : List ℕ) (c' : Clock) (made' : ℕ)
      → Leapt n budget jump sum c jump' sum' c' made' → in_stage n stage c ≡ true
      → mk (number sum' place) jump' sum' c' made' ≡ stage_run on one budget (mk place jump sum c 0)
  unfolding left
  leapt-run budget place jump sum c jump' sum' c' made' l inside =
      let f : Found (2 * n) jump sum sum' l.requests l.rounds = l.found in
      let w : Waits (2 * n) jump sum f.rank f.total l.rounds =
      record { ranked = f.ranked; most = f.most; some = f.some } in
      let none : l.rounds + 1 ≡ 0 + (l.rounds + 1) = omega arith in
      four place jump' (cleared (2 * n) jump) sum' (over (2 * n) f.total sum) c'
      (passed (l.rounds + 1) (digits_of (2 * n) f.rank) c) made' (0 + (l.rounds + 1)) l.jumps f.all
      (l.ticked ∙ ap (λ (q : ℕ). passed (l.rounds + 1) q c) f.asked) (l.counted ∙ none)
      ∙ sym (run-ranks l.rounds budget place jump sum c 0 f.rank f.total w inside (omega (arith, l.covered))
      (omega (arith, l.below, s.most)))
