-- What T-04 asks of the call that shows a ring, for any state, positions i and j and slice `out`: each number exactly
-- for its cause; a refusal writes nothing; "no ring" exactly where no ring of the site's links holds both, and it
-- writes nothing; else a ring stands at the front of the slice, which holds both links and starts with the two ends of
-- the first. Which ring is the program's choice; this is what every choice has in common.
use Rattle.std.specs.Prelude.{◌≡◌, ◌⊎◌, ◌↔◌, List, ◌∷◌, ◌++◌, ℕ, ◌≤◌, ◌<◌, length, drop}
use Rattle.table.specs.RefusalLaws.{FirstCause, SomeCause}
use Rattle.table.specs.Table.{end_a, end_b}
use Rattle.theory_graph.specs.Rings.{Ring, Holds, OnRing}
use Rattle.spec_machine.specs.State.{State, units, links}
use Rattle.theory_reach.specs.Site.{Site, Link}
use Rattle.value_ring.specs.declared.Shown.{Shown}
use Rattle.value_ring.specs.declared.Shown.TheVariants.{NoRing}
use Rattle.value_ring.specs.declared.Shown.TheVariants as Replies
use Rattle.value_ring.specs.Shown.{Answer, number_of, shown_reasons}

-- n units, m links: r is a ring that holds links i and j, the two ends of i in front
pub record RingThrough (n m : ℕ) (ends : List ℕ) (i j : ℕ) (r : List ℕ) : Type 0 where
  pub ring : Ring (Link m ends) r
  pub rest : List ℕ
  pub starts : r ≡ end_a ends i ∷ (end_b ends i ∷ rest)
  pub first : Holds r (end_a ends i) (end_b ends i)
  pub second : Holds r (end_a ends j) (end_b ends j)
  pub few : length r ≤ n

-- r is 0 and no ring exists, or a ring of r units is laid at the front
abbrev pub Laid : ℕ → ℕ → List ℕ → ℕ → ℕ → List ℕ → List ℕ → ℕ → Type 0
Laid n m ends i j out new r =
    ((r ≡ 0) × (OnRing (Link m ends) (end_a ends i) (end_b ends i) (end_a ends j) (end_b ends j) → ⊥) × (new ≡ out))
    ⊎ ((l : List ℕ) × (r ≡ length l) × RingThrough n m ends i j l × (new ≡ l ++ drop (length l) out))

-- of any site, two positions and places for all units
abbrev pub RingLaid : ℕ → ℕ → List ℕ → ℕ → ℕ → List ℕ → List ℕ → ℕ → Type 0
RingLaid n m ends i j out new r = Site n m ends → i < m → j < m → n ≤ length out → Laid n m ends i j out new r

-- no ring exists, or one is written
abbrev pub Told : ℕ → ℕ → List ℕ → ℕ → ℕ → List ℕ → Shown → List ℕ → Type 0
Told n m ends i j out reply new =
    ((reply ≡ NoRing) × (OnRing (Link m ends) (end_a ends i) (end_b ends i) (end_a ends j) (end_b ends j) → ⊥)
    × (new ≡ out))
    ⊎ ((r : List ℕ) × (reply ≡ Replies.Ring (length r)) × RingThrough n m ends i j r × (new ≡ r ++ drop (length r) out))

pub record ShownRight (i j : ℕ) (s : State) (out : List ℕ) (answer : Answer) (new : List ℕ) : Type 0 where
  pub cause : (k : ℕ) → (k ≡ 0 → ⊥) → (number_of answer.reply ≡ k) ↔ FirstCause (shown_reasons i j (length out) s) k
  pub refused : (number_of answer.reply ≡ 0 → ⊥) ↔ SomeCause (shown_reasons i j (length out) s)
  pub state : answer.state ≡ s
  pub unwritten : (number_of answer.reply ≡ 0 → ⊥) → new ≡ out
  pub told : number_of answer.reply ≡ 0 → Told (units s) (links s) s.table.ends i j out answer.reply new
