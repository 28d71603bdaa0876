-- Stage 2 as code makes it: a table of the chosen parents, with one of the levels of their links, by one pass over the
-- links, then entry by entry.
use Rattle.std.specs.Prelude.{◌≡◌, Bool, true, false, not, ◌&&◌, ◌||◌, List, ℕ, zero, suc, ◌+◌, ◌≤◌, ◌<◌, eqb, ℤ, pos}
use Rattle.std.specs.Prelude.{set}
use Rattle.std.proofs.Math.Path.{refl}
use Rattle.std.proofs.Common.{sym, ap, subst, ◌∙◌, le_antisymm, add-one, arith, length-set, get_or-set_same}
use Rattle.std.proofs.Common.{get_or-set_other, eq-eqb, ne_eqb}
use Rattle.std.proofs.Math.Bool.{cond}
use Rattle.std.proofs.Math.Decide.{ℕ_discrete, dec_lt}
use Rattle.std.proofs.Math.ListN.{length, get_or-eq_default}
use Rattle.base_lists.specs.Tables.{over, over_cong}
use Rattle.base_lists.specs.Folds.{some}
use Rattle.base_lists.specs.Rounds.{over_cong_in}
use Rattle.table.specs.Table.{max_units, end_a, end_b}
use Rattle.spec_rules.specs.Basics.{ABSENT, at}
use Rattle.spec_rules.specs.Tree.{level_at, better, Neighbor, prefer, over_link, best_neighbor, visited_before}
use Rattle.spec_rules.specs.Tree.{chosen_parent, visits, parent_round, dist_round, tree_ends}

-- ---- a neighbour for each unit, as two tables

-- unit v's
abbrev pub neighbor_at : List ℤ → List ℕ → ℕ → Neighbor
neighbor_at held best v = record { level = level_at held v; unit = at best v }

-- the tables hold f
pub record Holds (held : List ℤ) (best : List ℕ) (f : ℕ → Neighbor) : Type 0 where
  pub long-held : length held ≡ max_units
  pub long-best : length best ≡ max_units
  pub each : (v : ℕ) → v < max_units → neighbor_at held best v ≡ f v

-- w over a link of level z, if that passes the test
abbrev pub prefer_if : Bool → ℤ → ℕ → Neighbor → Neighbor
prefer_if test z w best = cond test (prefer best z w) best

module _ (best : Neighbor) (z : ℤ) (w : ℕ) where
  pub prefer-new : (eqb best.unit ABSENT || better z w best.level best.unit) ≡ true →
      prefer best z w ≡ record { level = z; unit = w }
  unfolding prefer
  prefer-new e = rw e refl

  pub prefer-old : (eqb best.unit ABSENT || better z w best.level best.unit) ≡ false → prefer best z w ≡ best
  unfolding prefer
  prefer-old e = rw e refl

-- the same neighbour twice is once
prefer-twice : (best : Neighbor) (z : ℤ) (w : ℕ) → prefer (prefer best z w) z w ≡ prefer best z w
unfolding prefer
prefer-twice best z w = go (eqb best.unit ABSENT || better z w best.level best.unit) refl
  where
    new : Neighbor
    new = record { level = z; unit = w }

    same : (t : Bool) → cond t new new ≡ new
    same true = refl
    same false = refl

    go : (t : Bool) → (eqb best.unit ABSENT || better z w best.level best.unit) ≡ t
        → cond (eqb (cond t new best).unit ABSENT || better z w (cond t new best).level (cond t new best).unit) new
        (cond t new best) ≡ cond t new best
    go true e = same (eqb w ABSENT || better z w z w)
    go false e = rw e refl

module _ (held : List ℤ) (best : List ℕ) (f : ℕ →
    Neighbor) (a : ℕ) (new : Neighbor) (h : Holds held best f) (l : a < max_units) where
  put_each : (v : ℕ) → Dec (a ≡ v) → v < max_units →
      neighbor_at (set held a new.level) (set best a new.unit) v ≡ cond (eqb a v) new (f v)
  put_each v (yes e) m =
      rw (
        ← e,
        eq-eqb a a refl,
        get_or-set_same held a new.level (pos 0) (omega (arith, l, h.long-held)),
        get_or-set_same best a new.unit 0 (omega (arith, l, h.long-best)),
      ) refl
  put_each v (no e) m =
      rw (
        ne_eqb a v e,
        get_or-set_other held a v new.level (pos 0) (λ q. e (sym q)),
        get_or-set_other best a v new.unit 0 (λ q. e (sym q)),
      ) (h.each v m)

  -- unit a's is put anew
  pub holds_put : Holds (set held a new.level) (set best a new.unit) (λ (v : ℕ). cond (eqb a v) new (f v))
  holds_put =
      record {
        long-held = length-set held a new.level ∙ h.long-held;
        long-best = length-set best a new.unit ∙ h.long-best;
        each = λ v m. put_each v (ℕ_discrete a v) m;
      }

pub holds_cong : (held : List ℤ) (best : List ℕ) (f g : ℕ → Neighbor) → ((v : ℕ) → v < max_units → f v ≡ g v) →
    Holds held best f → Holds held best g
holds_cong held best f g e h = record {
  long-held = h.long-held;
  long-best = h.long-best;
  each = λ v l. h.each v l ∙ e v l;
}

-- ---- a link

-- v is offered w over a link of level z, if that passes the test
pub offered : (test : Bool) (z : ℤ) (v w : ℕ) (held held' : List ℤ) (best best' : List ℕ) (f : ℕ → Neighbor) →
    v < max_units
    → held' ≡ set held v (prefer_if test z w (neighbor_at held best v)).level →
    best' ≡ set best v (prefer_if test z w (neighbor_at held best v)).unit
    → Holds held best f → Holds held' best' (λ (u : ℕ). cond (eqb v u) (prefer_if test z w (f u)) (f u))
offered test z v w held held' best best' f l p q h =
    rw (p, q)
    (holds_cong (set held v new.level) (set best v new.unit) (λ (u : ℕ). cond (eqb v u) new (f u))
    (λ (u : ℕ). cond (eqb v u) (prefer_if test z w (f u)) (f u))
    (λ u m. is u m (ℕ_discrete v u)) (holds_put held best f v new h l))
  where
    new : Neighbor
    new = prefer_if test z w (neighbor_at held best v)

    is : (u : ℕ) → u < max_units → Dec (v ≡ u) →
        cond (eqb v u) new (f u) ≡ cond (eqb v u) (prefer_if test z w (f u)) (f u)
    is u m (yes e) = rw (← e, eq-eqb v v refl, h.each v l) refl
    is u m (no e) = rw (ne_eqb v u e) refl

-- both ends of a link, one after the other
both_ends : (p q : Bool) (z : ℤ) (a b v : ℕ) (best : Neighbor) → (a ≡ b → p ≡ q) → Dec (a ≡ v) → Dec (b ≡ v)
    → cond (eqb b v) (prefer_if p z a (cond (eqb a v) (prefer_if q z b best) best))
    (cond (eqb a v) (prefer_if q z b best) best)
    ≡ cond (eqb a v && q) (prefer best z b) (cond (eqb b v && p) (prefer best z a) best)
both_ends true true z a b v best same (yes d) (yes e) = rw (eq-eqb a v d, eq-eqb b v e, d, e) (prefer-twice best z v)
both_ends true false z a b v best same (yes d) (yes e) = rw (eq-eqb a v d, eq-eqb b v e) refl
both_ends false q z a b v best same (yes d) (yes e) = rw (eq-eqb a v d, eq-eqb b v e, ← same (d ∙ sym e)) refl
both_ends p true z a b v best same (yes d) (no e) = rw (eq-eqb a v d, ne_eqb b v e) refl
both_ends p false z a b v best same (yes d) (no e) = rw (eq-eqb a v d, ne_eqb b v e) refl
both_ends p q z a b v best same (no d) (yes e) = rw (ne_eqb a v d, eq-eqb b v e) refl
both_ends p q z a b v best same (no d) (no e) = rw (ne_eqb a v d, ne_eqb b v e) refl

-- what a link leaves of the neighbours, by the test that v has of them
abbrev pub Linked : (ℕ → ℕ → Bool) → ℤ → ℕ → ℕ → List ℤ → List ℕ → List ℤ → List ℕ → Type 0
Linked passes z a b held best held' best' = (f : ℕ → Neighbor) → Holds held best f →
    Holds held' best' (λ (v : ℕ). over_link (passes v) z a b v (f v))

-- each end is offered the other, where all have one test
pub linked : (passes : ℕ → Bool) (z : ℤ) (a b : ℕ) (held held₁ held₂ : List ℤ) (best best₁ best₂ : List ℕ) →
    a < max_units → b < max_units
    → held₁ ≡ set held a (prefer_if (passes b) z b (neighbor_at held best a)).level →
    best₁ ≡ set best a (prefer_if (passes b) z b (neighbor_at held best a)).unit
    → held₂ ≡ set held₁ b (prefer_if (passes a) z a (neighbor_at held₁ best₁ b)).level →
    best₂ ≡ set best₁ b (prefer_if (passes a) z a (neighbor_at held₁ best₁ b)).unit
    → Linked (λ (v : ℕ). passes) z a b held best held₂ best₂
linked passes z a b held held₁ held₂ best best₁ best₂ la lb p q r s f h =
    holds_cong held₂ best₂ _ (λ (v : ℕ). over_link passes z a b v (f v))
    (λ v m. both_ends (passes a) (passes b) z a b v (f v) (λ e. ap passes e) (ℕ_discrete a v) (ℕ_discrete b v))
    (offered (passes a) z b a held₁ held₂ best₁ best₂
    (λ (v : ℕ). cond (eqb a v) (prefer_if (passes b) z b (f v)) (f v)) lb r s
    (offered (passes b) z a b held held₁ best best₁ f la p q h))

-- ---- all links

module _ (passes : ℕ → ℕ → Bool) (ends : List ℕ) (levels : List ℤ) where
  -- before any link there is nobody
  pub best_none : (held : List ℤ) (best : List ℕ) → length held ≡ max_units → length best ≡ max_units
      → ((v : ℕ) → v < max_units → level_at held v ≡ pos 0) → ((v : ℕ) → v < max_units → at best v ≡ ABSENT)
      → Holds held best (λ (v : ℕ). best_neighbor (passes v) 0 ends levels v)
  unfolding best_neighbor
  best_none held best l m h g = record { long-held = l; long-best = m; each = λ v k. rw (h v k, g v k) refl }

  -- one link more
  pub best-more : (j : ℕ) (z : ℤ) (held held' : List ℤ) (best best' : List ℕ) → z ≡ level_at levels j
      → Linked passes z (end_a ends j) (end_b ends j) held best held' best' →
      Holds held best (λ (v : ℕ). best_neighbor (passes v) j ends levels v)
      → Holds held' best' (λ (v : ℕ). best_neighbor (passes v) (j + 1) ends levels v)
  unfolding best_neighbor
  best-more j z held held' best best' e link h =
      rw (add-one j)
      (subst (λ (y : ℤ). Holds held' best'
      (λ (v : ℕ). over_link (passes v) y (end_a ends j) (end_b ends j) v (best_neighbor (passes v) j ends levels v))) e
      (link (λ (v : ℕ). best_neighbor (passes v) j ends levels v) h))

  -- the parents, by their entries
  pub best-all : (m j : ℕ) (held : List ℤ) (best : List ℕ) →
      Holds held best (λ (v : ℕ). best_neighbor (passes v) j ends levels v) → j ≤ m → m ≤ j
      → (v : ℕ) → v < max_units → at best v ≡ (best_neighbor (passes v) m ends levels v).unit
  best-all m j held best h l g v k = rw (le_antisymm g l) (ap (λ (x : Neighbor). x.unit) (h.each v k))

pub chosen-all : (m j made : ℕ) (ends : List ℕ) (levels : List ℤ) (dist : List ℕ) (held : List ℤ) (best : List ℕ)
    → Holds held best (best_neighbor (visited_before made dist) j ends levels) → j ≤ m → m ≤ j → (v : ℕ) → v < max_units
    →
    at best v ≡ chosen_parent m made ends levels dist v
unfolding chosen_parent
chosen-all m j made ends levels dist held best h l g v k =
    best-all (λ (u : ℕ). visited_before made dist) ends levels m j held best h l g v k

-- ---- a round from that table

unfoldable pub visits_by : ℕ → List ℕ → List ℕ → List ℕ → ℕ → Bool
visits_by made color dist cand v =
    cond (eqb made 0) (eqb (at color v) v) (eqb (at dist v) ABSENT && not (eqb (at cand v) ABSENT))

abbrev pub parent_by : ℕ → List ℕ → List ℕ → List ℕ → List ℕ → ℕ → ℕ
parent_by made color dist cand parent v =
    cond (visits_by made color dist cand v) (cond (eqb made 0) ABSENT (at cand v)) (at parent v)

abbrev pub dist_by : ℕ → List ℕ → List ℕ → List ℕ → ℕ → ℕ
dist_by made color dist cand v = cond (visits_by made color dist cand v) made (at dist v)

module _ (m made : ℕ) (ends : List ℕ) (levels : List ℤ) (color dist cand : List ℕ) (full : length dist ≤ max_units)
    (best : (v : ℕ) → v < max_units → at cand v ≡ chosen_parent m made ends levels dist v) where
  visits-go : (v : ℕ) → Dec (v < max_units) → visits_by made color dist cand v ≡ visits m made ends levels color dist v
  unfolding visits_by visits
  visits-go v (yes h) = rw (best v h)
  visits-go v (no h) = rw (get_or-eq_default dist 0 {n = v} (omega arith))

  visits-same : (v : ℕ) → visits_by made color dist cand v ≡ visits m made ends levels color dist v
  visits-same v = visits-go v (dec_lt v max_units)

  pub parent-round : (n : ℕ) (parent : List ℕ) → length parent ≤ max_units
      → over n (parent_by made color dist cand parent) parent ≡ parent_round n m made ends levels color dist parent
  unfolding parent_round
  parent-round n parent small =
      over_cong_in 0 n (parent_by made color dist cand parent)
      (λ (v : ℕ). cond (visits m made ends levels color dist v)
      (cond (eqb made 0) ABSENT (chosen_parent m made ends levels dist v)) (at parent v)) parent
      (λ (v : ℕ) (h : v < n) (l : v < length parent). rw (visits-same v, best v (omega arith)))

  pub dist_round_lem : (n : ℕ) → over n (dist_by made color dist cand) dist ≡ dist_round n m made ends levels color dist
  unfolding dist_round
  dist_round_lem n =
      over_cong n (dist_by made color dist cand)
      (λ (v : ℕ). cond (visits m made ends levels color dist v) made (at dist v)) dist
      (λ (v : ℕ) (h : v < n). rw (visits-same v))

  some_same : (n : ℕ) → some n (visits_by made color dist cand) ≡ some n (visits m made ends levels color dist)
  some_same zero = refl
  some_same (suc n) = rw (some_same n, visits-same n)

  pub tree-ends : (n : ℕ) → not (some n (visits_by made color dist cand)) ≡ tree_ends n m made ends levels color dist
  unfolding tree_ends
  tree-ends n = rw (some_same n)
