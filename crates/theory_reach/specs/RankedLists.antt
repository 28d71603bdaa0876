-- Document 01, stages 4 and 6, for all lengths at once: a list of L objects needs lg(L) rounds with requests; of many
-- lists the longest counts, and one round without requests is the last. RankedListsProof.antt proves it.
use Rattle.std.specs.Prelude.{◌≡◌, true, cond, ◌⊎◌, ◌↔◌, List, ℕ, zero, suc, ◌+◌, ◌-◌, ◌≤◌, ◌<◌, ◌^◌, ltb, length}
use Rattle.base_lists.specs.Folds.{sum as total, count}
use Rattle.base_lists.specs.Tables.{tab}
use Rattle.base_log2.specs.Lg.{lg}
use Rattle.spec_rules.specs.Basics.{ABSENT, MAX-NUMBER, at, bounded}
use Rattle.spec_rules.specs.Ranking.{sum_round, jump_round, requests_of, ranking_ends}

-- ---- r rounds over K objects: the working predecessors, and the sums

abbrev pub jumps_after : ℕ → ℕ → List ℕ → List ℕ
jumps_after K zero pred = pred
jumps_after K (suc r) pred = jump_round K (jumps_after K r pred)

abbrev pub sums_after : ℕ → ℕ → List ℕ → List ℕ → List ℕ
sums_after K zero pred value = value
sums_after K (suc r) pred value = sum_round K (jumps_after K r pred) (sums_after K r pred value)

-- the stage from its first round on, as its rule ends it: its rounds, and its requests
abbrev pub ranking : ℕ → ℕ → List ℕ → ℕ × ℕ
ranking zero K jump = (0, 0)
ranking (suc fuel) K jump =
    let later = ranking fuel K (jump_round K jump) in
    let more : ℕ × ℕ = (later.0 + 1, later.1 + requests_of K jump) in
    cond (ranking_ends K jump) (1, 0) more

-- ---- any lists

-- K objects in lists: object a is number `place a` of its list, the head number 1
pub record InLists (K : ℕ) (place : ℕ → ℕ) (pred : List ℕ) : Type 0 where
  pub few : K < ABSENT
  pub entries : K ≤ length pred
  pub object : (a : ℕ) → a < K → ((at pred a ≡ ABSENT) × (place a ≡ 1))
      ⊎ ((at pred a < K) × (place a ≡ place (at pred a) + 1))

-- the longest has L
pub record Longest (K L : ℕ) (place : ℕ → ℕ) : Type 0 where
  pub within : (a : ℕ) → a < K → place a ≤ L
  pub attained : (a : ℕ) × (a < K) × (place a ≡ L)

-- up_to a is the sum of the values from the head of a's list up to a, and within the bound of a stored number
pub record UpTo (K : ℕ) (pred value : List ℕ) (up_to : ℕ → ℕ) : Type 0 where
  pub values : K ≤ length value
  pub head : (a : ℕ) → a < K → at pred a ≡ ABSENT → at value a ≡ up_to a
  pub later : (a : ℕ) → a < K → at pred a < K → up_to a ≡ at value a + up_to (at pred a)
  pub small : (a : ℕ) → a < K → up_to a ≤ MAX-NUMBER

-- the stage follows its longest list
pub record FollowsLongest (K L : ℕ) (place : ℕ → ℕ) (pred : List ℕ) : Type 0 where
  -- round r, counted from 0, makes a request for each object past number 2 ^ r of its list
  pub requests : (r : ℕ) → requests_of K (jumps_after K r pred) ≡ count K (λ (a : ℕ). ltb (2 ^ r) (place a))
  -- the first lg(L) rounds make requests, and no later one does: the round after them ends the stage
  pub ends : (r : ℕ) → (ranking_ends K (jumps_after K r pred) ≡ true) ↔ (lg L ≤ r)
  -- every working predecessor is then absent
  pub absent : (r : ℕ) → lg L ≤ r → (a : ℕ) → a < K → at (jumps_after K r pred) a ≡ ABSENT
  -- and each sum is the sum up to its object
  pub sums : (value : List ℕ) (up_to : ℕ → ℕ) → UpTo K pred value up_to → (r : ℕ) → lg L ≤ r → (a : ℕ) → a < K →
      at (sums_after K r pred value) a ≡ up_to a

-- ---- one list of L objects

-- object i follows object i − 1, the first none
abbrev pub before : ℕ → ℕ
before zero = ABSENT
before (suc i) = i

abbrev pub chain : ℕ → List ℕ
chain L = tab L before

pub record RankedList (L : ℕ) : Type 0 where
  -- round r makes L − 2 ^ r requests,
  pub requests : (r : ℕ) → requests_of L (jumps_after L r (chain L)) ≡ L - 2 ^ r
  -- at least one in each of the first lg(L) rounds, and none in the next
  pub asks : (r : ℕ) → r < lg L → 1 ≤ requests_of L (jumps_after L r (chain L))
  pub ends : (r : ℕ) → (ranking_ends L (jumps_after L r (chain L)) ≡ true) ↔ (lg L ≤ r)
  pub absent : (i : ℕ) → i < L → at (jumps_after L (lg L) (chain L)) i ≡ ABSENT
  -- after r rounds the working predecessor stands 2 ^ r back
  pub back : (r i : ℕ) → i < L → at (jumps_after L r (chain L)) i ≡ cond (ltb i (2 ^ r)) ABSENT (i - 2 ^ r)
  -- any values, up to the bound of a stored number: the sum of object i is that of the values 0 .. i
  pub sums : (value : List ℕ) → L ≤ length value → total L (at value) ≤ MAX-NUMBER → (i : ℕ) → i < L
      → at (sums_after L (lg L) (chain L) value) i ≡ total (suc i) (at value)
  -- past that bound it is stored as the bound
  pub clamped : (value : List ℕ) → L ≤ length value → ((i : ℕ) → i < L → at value i ≤ MAX-NUMBER) → (i : ℕ) → i < L
      → at (sums_after L (lg L) (chain L) value) i ≡ bounded (total (suc i) (at value))
  -- every value 1: the sum is the object's number, from 1 on
  pub ranks : L ≤ MAX-NUMBER → (i : ℕ) → i < L → at (sums_after L (lg L) (chain L) (tab L (λ (j : ℕ). 1))) i ≡ i + 1
  -- the whole stage: lg(L) rounds with requests and one without
  pub stage : ranking L L (chain L) ≡ (lg L + 1, total (lg L) (λ (r : ℕ). L - 2 ^ r))
