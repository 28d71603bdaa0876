-- Stage 9 as rounds of the least value over the joins, in which roots are absent.
use Rattle.std.specs.Prelude.{◌≡◌, Bool, true, false, cond, not, ◌&&◌, ◌⊎◌, eqb}
use Rattle.std.proofs.Math.Path.{refl, sym, ap}
use Rattle.std.proofs.Common.{◌∙◌, true≢false, inl, inr}
use mathlib.Core.List.{List}
use Prim.Native.Nat.{ℕ, ◌≤◌, ◌<◌, min}
use Rattle.std.proofs.Math.Decide.{dec_lt}
use native.Mathlib.Omega.{arith}
use Rattle.std.proofs.Math.ListN.{length}
use borrow.Author.Tests.{eqb-true, eq-eqb, ne_eqb}
use Rattle.base_lists.specs.Folds.{least}
use Rattle.base_lists.specs.FoldLaws.{fold_cong}
use Rattle.base_lists.specs.Tables.{over, length_over, get_d_over, get_d_over_past, over-over, over_cong}
use Rattle.base_lists.specs.Rounds.{over-same}
use Rattle.base_lists.specs.Tests.{either, refuted, and_right, and-true, cond_true, cond_false}
use Rattle.table.specs.Table.{end_a, end_b}
use Rattle.spec_rules.specs.Basics.{ABSENT, at, is_root}
use Rattle.spec_rules.specs.Components.{least_heard}
use Rattle.spec_rules.specs.Aux.{heard_over, least_joined, aux_round, aux_ends}
use Rattle.spec_state.specs.declared.groups.Clock.{Clock}
use Rattle.spec_machine.specs.InStage.{in_stage, stands}
use Rattle.leap_tests.specs.Settling.{spread}
use Rattle.leap_least.specs.Leapt.{Spreads}
use Rattle.stage09_classes.specs.declared.Ran.{Ran}
use Rattle.stage09_classes.specs.Absorbed.{least-rest}
use Rattle.stage09_aux.specs.Heads.{said_by}
use Rattle.stage09_aux.specs.Pairs.{Hears, links_heard, joins_heard}
use Rattle.stage09_classes.specs.Rounds.{fits, on, one}

-- the values, the clock and the rounds made
abbrev pub ran : List ℕ → Clock → ℕ → Ran
ran color c made = record { color = color; clock = c; made = made }

-- what the units say, roots the absent mark
abbrev pub unrooted : ℕ → List ℕ → List ℕ → List ℕ
unrooted n parent value = over n (said_by parent value) value

-- in the first round each its own number
abbrev pub numbers : ℕ → List ℕ → List ℕ → List ℕ
numbers n parent color = unrooted n parent (over n (λ (v : ℕ). v) color)

-- roots are absent
abbrev pub RootsAbsent : ℕ → List ℕ → List ℕ → Type 0
RootsAbsent n parent value = (n ≤ length value) × ((v : ℕ) → v < n → is_root parent v ≡ true → at value v ≡ ABSENT)

-- ---- what roots hear, and what is heard of them

root-choice : (unmarked root-a root-b is-a is_b : Bool) (x y own : ℕ) → (is-a ≡ true → root-a ≡ true) →
    (is_b ≡ true → root-b ≡ true)
    → cond (not unmarked && not root-a && not root-b) (cond is-a y (cond is_b x own)) own ≡ own
root-choice true ra rb ia ib x y own pa pb = refl
root-choice false true rb ia ib x y own pa pb = refl
root-choice false false true ia ib x y own pa pb = refl
root-choice false false false true ib x y own pa pb = absurd (true≢false (sym (pa refl)))
root-choice false false false false true x y own pa pb = absurd (true≢false (sym (pb refl)))
root-choice false false false false false x y own pa pb = refl

alike-choice : (unmarked root-a root-b is-a is_b : Bool) (x y own x' y' own' : ℕ) → own' ≡ own →
    (root-a ≡ false → x' ≡ x) → (root-b ≡ false → y' ≡ y)
    → cond (not unmarked && not root-a && not root-b) (cond is-a y' (cond is_b x' own')) own'
    ≡ cond (not unmarked && not root-a && not root-b) (cond is-a y (cond is_b x own)) own
alike-choice true ra rb ia ib x y own x' y' own' e pa pb = e
alike-choice false true rb ia ib x y own x' y' own' e pa pb = e
alike-choice false false true ia ib x y own x' y' own' e pa pb = e
alike-choice false false false true ib x y own x' y' own' e pa pb = pb refl
alike-choice false false false false true x y own x' y' own' e pa pb = pa refl
alike-choice false false false false false x y own x' y' own' e pa pb = e

module _ (parent : List ℕ) (v : ℕ) where
  module _ (root : is_root parent v ≡ true) (value : List ℕ) where
    is-root : (a : ℕ) → eqb a v ≡ true → is_root parent a ≡ true
    is-root a e = rw (eqb-true a v e) root

    -- a root hears itself
    root-hears : (mark a b : ℕ) → heard_over parent value mark a b v ≡ at value v
    root-hears mark a b =
        root-choice (eqb mark 0) (is_root parent a) (is_root parent b) (eqb a v) (eqb b v) (at value a) (at value b)
        (at value v) (is-root a) (is-root b)

    root-joins : (k m : ℕ) (ends linked parents : List ℕ) →
        joins_heard k m ends parent linked parents value v ≡ at value v
    unfolding links_heard joins_heard
    root-joins k m ends linked parents =
        let links : at value v ≡ links_heard m ends parent linked value v =
        least-rest m 0 (λ (j : ℕ). heard_over parent value (at linked j) (end_a ends j) (end_b ends j) v) (at value v)
        (omega arith)
        (λ (j : ℕ) (l : 0 ≤ j) (h : j < m). root-hears (at linked j) (end_a ends j) (end_b ends j)) in
        sym (links
        ∙ least-rest k 0 (λ (u : ℕ). heard_over parent value (at parents u) u (at parent u) v)
        (links_heard m ends parent linked value v) (omega arith)
        (λ (u : ℕ) (l : 0 ≤ u) (h : u < k). root-hears (at parents u) u (at parent u) ∙ links))

  -- what roots say does not matter to others
  module _ (unit : is_root parent v ≡ false) (value said : List ℕ) (says : (i : ℕ) → is_root parent i ≡ false →
      at said i ≡ at value i) where
    alike : (mark a b : ℕ) → heard_over parent said mark a b v ≡ heard_over parent value mark a b v
    alike mark a b =
        alike-choice (eqb mark 0) (is_root parent a) (is_root parent b) (eqb a v) (eqb b v) (at value a) (at value b)
        (at value v) (at said a) (at said b) (at said v)
        (says v unit) (says a) (says b)

    joins-alike : (k m : ℕ) (ends linked parents : List ℕ)
        → joins_heard k m ends parent linked parents said v ≡ joins_heard k m ends parent linked parents value v
    unfolding links_heard joins_heard
    joins-alike k m ends linked parents =
        let own : at said v ≡ at value v = says v unit in
        let links : links_heard m ends parent linked said v ≡ links_heard m ends parent linked value v =
        ap (least m (λ (j : ℕ). heard_over parent said (at linked j) (end_a ends j) (end_b ends j) v)) own
        ∙ fold_cong min m (λ (j : ℕ). heard_over parent said (at linked j) (end_a ends j) (end_b ends j) v)
        (λ (j : ℕ). heard_over parent value (at linked j) (end_a ends j) (end_b ends j) v) (at value v)
        (λ (j : ℕ) (h : j < m). alike (at linked j) (end_a ends j) (end_b ends j)) in
        ap (least k (λ (u : ℕ). heard_over parent said (at parents u) u (at parent u) v)) links
        ∙ fold_cong min k (λ (u : ℕ). heard_over parent said (at parents u) u (at parent u) v)
        (λ (u : ℕ). heard_over parent value (at parents u) u (at parent u) v) (links_heard m ends parent linked value v)
        (λ (u : ℕ) (h : u < k). alike (at parents u) u (at parent u))

module _ (n : ℕ) (parent value : List ℕ) (long : n ≤ length value) where
  unit_says_lem : (i : ℕ) → is_root parent i ≡ false → at (unrooted n parent value) i ≡ at value i
  unit_says_lem i e = go (dec_lt i n)
    where
      go : Dec (i < n) → at (unrooted n parent value) i ≡ at value i
      go (yes h) = get_d_over n (said_by parent value) value i 0 h (omega (arith, h, long))
          ∙ cond_false (is_root parent i) ABSENT (at value i) e
      go (no h) = get_d_over_past n (said_by parent value) value i 0 (omega arith)

  root_says : (i : ℕ) → i < n → is_root parent i ≡ true → at (unrooted n parent value) i ≡ ABSENT
  root_says i h e = get_d_over n (said_by parent value) value i 0 h (omega (arith, h, long))
      ∙ cond_true (is_root parent i) ABSENT (at value i) e

  pub roots_absent : RootsAbsent n parent (unrooted n parent value)
  roots_absent = (omega (arith, long, length_over n (said_by parent value) value), root_says)

-- ---- a round

module _ (n m : ℕ) (ends parent linked parents : List ℕ) where
  joined-root : (value : List ℕ) (v : ℕ) → is_root parent v ≡ true →
      least_joined n m ends parent linked parents value v ≡ ABSENT
  unfolding least_joined
  joined-root value v e = rw e refl

  joined-unit : (value : List ℕ) (v : ℕ) → is_root parent v ≡ false
      → least_joined n m ends parent linked parents value v ≡ joins_heard n m ends parent linked parents value v
  unfolding least_joined links_heard joins_heard
  joined-unit value v e = rw e refl

  module _ (c : ℕ) (pairs : List ℕ) (hears : Hears c pairs (joins_heard n m ends parent linked parents)) where
    -- over pairs of what is said without roots a unit hears what the rule says
    heard-joined : (value : List ℕ) → n ≤ length value → (v : ℕ) → v < n
        → least_heard c pairs (unrooted n parent value) v ≡ least_joined n m ends parent linked parents value v
    heard-joined value long v h = hears (unrooted n parent value) v ∙ go (either (is_root parent v))
      where
        go : (is_root parent v ≡ true) ⊎ (is_root parent v ≡ false)
            → joins_heard n m ends parent linked parents (unrooted n parent value) v
            ≡ least_joined n m ends parent linked parents value v
        go (inl e) =
            root-joins parent v e (unrooted n parent value) n m ends linked parents
            ∙ root_says n parent value long v h e ∙ sym (joined-root value v e)
        go (inr e) =
            joins-alike parent v e value (unrooted n parent value)
            (unit_says_lem n parent value long) n m ends linked parents ∙ sym (joined-unit value v e)

    -- roots that are absent say so
    absent-said : (value : List ℕ) → RootsAbsent n parent value → unrooted n parent value ≡ value
    absent-said value fine = sym (over-same 0 n (said_by parent value) value
        (λ (v : ℕ) (h : v < n). go v h (either (is_root parent v))))
      where
        go : (v : ℕ) → v < n → (is_root parent v ≡ true) ⊎ (is_root parent v ≡ false) → at value v
            ≡ said_by parent value v
        go v h (inl e) = fine.1 v h e ∙ sym (cond_true (is_root parent v) ABSENT (at value v) e)
        go v h (inr e) = sym (cond_false (is_root parent v) ABSENT (at value v) e)

    -- and stay so
    absent-stays : (value : List ℕ) → RootsAbsent n parent value → RootsAbsent n parent (spread n c pairs value)
    absent-stays value fine = (
      omega (arith, fine.0, length_over n (least_heard c pairs value) value),
      λ v h e.
          get_d_over n (least_heard c pairs value) value v 0 h (omega (arith, h, fine.0))
          ∙ hears value v
          ∙ root-joins parent v e value n m ends linked parents
          ∙ fine.1 v h e,
    )

    round-first : (color : List ℕ) (made : ℕ) → made ≡ 0 → n ≤ length color
        → aux_round n m made ends parent linked parents color ≡ spread n c pairs (numbers n parent color)
    unfolding aux_round
    round-first color made e long =
        let far : n ≤ length (over n (λ (v : ℕ). v) color) = omega (arith, long, length_over n (λ (v : ℕ). v) color) in
        rw e
        (over_cong n (least_joined n m ends parent linked parents (over n (λ (v : ℕ). v) color))
        (least_heard c pairs (numbers n parent color)) color
        (λ (v : ℕ) (h : v < n). sym (heard-joined (over n (λ (v : ℕ). v) color) far v h))
        ∙ sym (over-over n (least_heard c pairs (numbers n parent color)) (said_by parent (over n (λ (v : ℕ). v) color))
        (over n (λ (v : ℕ). v) color)
        ∙ over-over n (least_heard c pairs (numbers n parent color)) (λ (v : ℕ). v) color))

    round-later : (color : List ℕ) (made : ℕ) → (made ≡ 0 → ⊥) → RootsAbsent n parent color
        → aux_round n m made ends parent linked parents color ≡ spread n c pairs color
    unfolding aux_round
    round-later color made h fine =
        rw (ne_eqb made 0 h)
        (over_cong n (least_joined n m ends parent linked parents color) (least_heard c pairs color) color
        (λ (v : ℕ) (l : v < n). sym (ap (λ (t : List ℕ). least_heard c pairs t v) (sym (absent-said color fine))
        ∙ heard-joined color fine.0 v l)))

    pub spreads : fits n m ends parent ≡ true
        → Spreads ran (on n m ends parent) (one n m ends parent linked parents) n c 9 pairs (numbers n parent)
        (RootsAbsent n parent)
    unfolding one aux_ends
    spreads fit =
        record {
          from = omega arith;
          to = omega arith;
          runs = λ color c made inside. and-true (fits n m ends parent) (in_stage n 9 c) fit inside;
          rests = λ color c made e.
              refuted (fits n m ends parent && in_stage n 9 c)
              (λ t. omega (arith, e, stands n 9 c (and_right (fits n m ends parent) (in_stage n 9 c) t)));
          first = λ color c made e fine. rw (
            round-first color c.made e (long color fine),
            eq-eqb c.made 0 e,
          ) refl;
          later = λ color c made h fine. rw (round-later color c.made h fine, ne_eqb c.made 0 h) refl;
          keeps = absent-stays;
        }
      where
        long : (color : List ℕ) → RootsAbsent n parent (numbers n parent color) → n ≤ length color
        long color fine =
            omega (
              arith,
              fine.0,
              length_over n (said_by parent (over n (λ (v : ℕ). v) color))
                  (over n (λ (v : ℕ). v) color),
              length_over n (λ (v : ℕ). v) color,
            )
