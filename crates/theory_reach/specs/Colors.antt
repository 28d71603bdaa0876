-- Stage 1: after the first round and while rounds go on, a unit's color is the least unit within as many links as
-- rounds were made; the stage ends before its ceiling, and then a color is the least unit of its component.
use Rattle.std.specs.Prelude.{◌≡◌, Bool, true, false, cond, ◌↔◌, ◌⊎◌, ◌≢◌, List, eqb, length}
use Rattle.std.proofs.Math.Path.{refl}
use Rattle.std.proofs.Common.{sym, ap, ◌∙◌, inl, inr, le_trans, arith, eqb-true, eq-eqb, ne_eqb}
use Prim.Native.Nat.{ℕ, zero, suc, ◌≤◌, ◌<◌, min}
use Rattle.base_lists.specs.Agreement.{agree_at, agree_differ}
use Rattle.base_lists.specs.Folds.{least, agree}
use Rattle.base_lists.specs.LeastLaws.{least_start, least_le, least-is}
use Rattle.base_lists.specs.FoldLaws.{fold_cong}
use Rattle.base_lists.specs.Pigeonhole.{Picked}
use Rattle.base_lists.specs.Counts.{count_le}
use Rattle.base_lists.specs.Tables.{over, length_over, get_d_over}
use Rattle.base_lists.specs.Tests.{either}
use Rattle.table.specs.Table.{end_a, end_b}
use Rattle.spec_rules.specs.Basics.{at, heard}
use Rattle.spec_rules.specs.Components.{least_heard, color_round, color_ends}
use Rattle.theory_graph.specs.Rings.{Connected}
use Rattle.theory_graph.specs.Walks.{walk_map}
use Rattle.theory_graph.specs.Propagation.{Near, Rounds, Still, changed, reached-picked, value-reached, still-on}
use Rattle.theory_graph.specs.Propagation.{still-least, still-classes, still-own}
use Rattle.theory_reach.specs.Site.{Site, Link, link-below, site-graph}

-- what v hears over a link of a and b, where f w is the value of w
abbrev heard_of : (ℕ → ℕ) → ℕ → ℕ → ℕ → ℕ
heard_of f a b v = cond (eqb a v) (f b) (cond (eqb b v) (f a) (f v))

-- the color of v after k rounds, as a function of the links alone
unfoldable pub color_after : ℕ → List ℕ → ℕ → ℕ → ℕ
color_after m ends zero v = v
color_after m ends (suc k) v = least m (λ (j : ℕ). heard_of (color_after m ends k) (end_a ends j) (end_b ends j) v)
    (color_after m ends k v)

-- the table of colors after k rounds
pub record ColorsAt (n m : ℕ) (ends color : List ℕ) (k : ℕ) : Type 0 where
  pub room : n ≤ length color
  pub values : (v : ℕ) → v < n → at color v ≡ color_after m ends k v

-- the table of colors at the end of the stage: a color is the least unit of its component
pub record Colored (n m : ℕ) (ends color : List ℕ) : Type 0 where
  pub below : (v : ℕ) → v < n → at color v < n
  pub reached : (v : ℕ) → v < n → Connected (Link m ends) v (at color v)
  pub lowest : (v w : ℕ) → v < n → Connected (Link m ends) v w → at color v ≤ w
  pub same : (v w : ℕ) → v < n → w < n → (at color v ≡ at color w) ↔ Connected (Link m ends) v w
  pub own : (v : ℕ) → v < n → at color (at color v) ≡ at color v

-- every unit takes part
abbrev all : ℕ → Bool
all v = true

-- x is the value of v or of a neighbour, where f w is the value of w
abbrev OneOf : ℕ → ℕ → List ℕ → (ℕ → ℕ) → ℕ → ℕ → Type 0
OneOf n m ends f v x = (x ≡ f v) ⊎ ((w : ℕ) × Picked all n w × Link m ends v w × (x ≡ f w))

module _ {n m : ℕ} {ends : List ℕ} (site : Site n m ends) where
  unit : (v : ℕ) → v < n → Picked all n v
  unit v l = record { below = l; passes = refl }

  -- ---- one round

  -- over a link of v and w, v hears the value of w
  hears : (f : ℕ → ℕ) (a b v w : ℕ) → ((a ≡ v) × (b ≡ w)) ⊎ ((a ≡ w) × (b ≡ v)) → a ≢ b → heard_of f a b v ≡ f w
  hears f a b v w (inl e) n = rw (eq-eqb a v e.0, e.1) refl
  hears f a b v w (inr e) n = rw (ne_eqb a v (λ h. n (h ∙ sym e.1)), eq-eqb b v e.1, e.0) refl

  heard-is : (f : ℕ → ℕ) (j v : ℕ) → j < m → OneOf n m ends f v (heard_of f (end_a ends j) (end_b ends j) v)
  heard-is f j v l = go (either (eqb (end_a ends j) v)) (either (eqb (end_b ends j) v))
    where
      a : ℕ
      a = end_a ends j

      b : ℕ
      b = end_b ends j

      go : (eqb a v ≡ true) ⊎ (eqb a v ≡ false) → (eqb b v ≡ true) ⊎ (eqb b v ≡ false) →
          OneOf n m ends f v (heard_of f a b v)
      go (inl p) q = inr (b, unit b (site.below_b j l), (j, l, inl (eqb-true a v p, refl)), rw p refl)
      go (inr p) (inl q) = inr (a, unit a (site.below_a j l), (j, l, inr (refl, eqb-true b v q)), rw (p, q) refl)
      go (inr p) (inr q) = inl (rw (p, q) refl)

  rounds : Rounds all n (Link m ends) (color_after m ends)
  unfolding color_after
  rounds = record { start = λ v h. refl; own = own; near = near; attained = attained }
    where
      said : ℕ → ℕ → ℕ → ℕ
      said k v j = heard_of (color_after m ends k) (end_a ends j) (end_b ends j) v

      own : (k v : ℕ) → Picked all n v → color_after m ends (suc k) v ≤ color_after m ends k v
      own k v h = least_start m (said k v) (color_after m ends k v)

      near : (k v w : ℕ) → Picked all n v → Picked all n w → Link m ends v w →
          color_after m ends (suc k) v ≤ color_after m ends k w
      near k v w hv hw (j, l, e) =
          rw (hears (color_after m ends k) (end_a ends j) (end_b ends j) v w e (site.differ j l)) at
          (least_le m (said k v) (color_after m ends k v) j l)

      attained : (k v : ℕ) → Picked all n v → OneOf n m ends (color_after m ends k) v (color_after m ends (suc k) v)
      attained k v h = go (least-is m (said k v) (color_after m ends k v))
        where
          go : (color_after m ends (suc k) v ≡ color_after m ends k v)
              ⊎ ((j : ℕ) × (j < m) × (color_after m ends (suc k) v ≡ said k v j))
              → OneOf n m ends (color_after m ends k) v (color_after m ends (suc k) v)
          go (inl e) = inl e
          go (inr (j, l, e)) = by (heard-is (color_after m ends k) j v l)
            where
              by : OneOf n m ends (color_after m ends k) v (said k v j) →
                  OneOf n m ends (color_after m ends k) v (color_after m ends (suc k) v)
              by (inl f) = inl (e ∙ f)
              by (inr (w, hw, r, f)) = inr (w, hw, r, e ∙ f)

  -- a round's table from what the units said
  spread : {said : List ℕ} {k : ℕ} → ColorsAt n m ends said k → (color : List ℕ) → n ≤ length color
      → ColorsAt n m ends (over n (least_heard m ends said) color) (suc k)
  unfolding color_after least_heard
  spread {said} {k} at-k color long = record {
    room = rw (length_over n (least_heard m ends said) color) long;
    values = values;
  }
    where
      -- all that a unit hears stands below n
      hear : (v j : ℕ) → v < n → j < m →
          heard said (end_a ends j) (end_b ends j) v ≡ heard_of (color_after m ends k) (end_a ends j) (end_b ends j) v
      hear v j h l =
          rw (
            at-k.values (end_a ends j) (site.below_a j l),
            at-k.values (end_b ends j) (site.below_b j l),
            at-k.values v h,
          ) refl

      values : (v : ℕ) → v < n → at (over n (least_heard m ends said) color) v ≡ color_after m ends (suc k) v
      values v h =
          let heards : ℕ → ℕ = λ j. heard_of (color_after m ends k) (end_a ends j) (end_b ends j) v in
          get_d_over n (least_heard m ends said) color v 0 h (le_trans h long)
          ∙ fold_cong min m (λ (j : ℕ). heard said (end_a ends j) (end_b ends j) v) heards (at said v)
          (λ j l. hear v j h l)
          ∙ ap (λ (x : ℕ). least m heards x) (at-k.values v h)

  pub first : (color : List ℕ) → n ≤ length color → ColorsAt n m ends (color_round n m 0 ends color) 1
  unfolding color_round color_after
  first color long = spread {k = 0} said color long
    where
      said : ColorsAt n m ends (over n (λ (v : ℕ). v) color) 0
      said = record {
        room = rw (length_over n (λ (v : ℕ). v) color) long;
        values = λ v h. get_d_over n (λ (v : ℕ). v) color v 0 h (omega arith);
      }

  -- the first round never ends the stage
  pub first-goes_on : (before after : List ℕ) → color_ends n 0 before after ≡ false
  unfolding color_ends
  first-goes_on before after = refl

  pub next : {color : List ℕ} {k : ℕ} → ColorsAt n m ends color k → 1 ≤ k →
      ColorsAt n m ends (color_round n m k ends color) (suc k)
  unfolding color_round
  next {color} {k} at-k h = rw (ne_eqb k 0 (λ e. omega arith)) (spread at-k color at-k.room)

  -- ---- the end of the stage

  -- propagation's routes are those of the links
  plain : {v w : ℕ} → Connected (Near all n (Link m ends)) v w → Connected (Link m ends) v w
  plain {v} {w} (l, r) = (l, (walk_map (Near all n (Link m ends)) (Link m ends) v l (λ a b s h. h.1) r.0, r.1))

  near : {v w : ℕ} → Connected (Link m ends) v w → Connected (Near all n (Link m ends)) v w
  near {v} {w} (l, r) = (
    l,
    (
      walk_map (Link m ends) (Near all n (Link m ends)) v l (λ a b s h. (unit b (link-below site a b h).1, h))
          r.0,
      r.1,
    ),
  )

  module _ {color : List ℕ} {k : ℕ} (at-k : ColorsAt n m ends color k) (later : 1 ≤ k) where
    after : ColorsAt n m ends (color_round n m k ends color) (suc k)
    after = next at-k later

    -- the rule of the end is that nothing changed
    ends-agree : color_ends n k color (color_round n m k ends color) ≡ agree n color (color_round n m k ends color)
    unfolding color_ends
    ends-agree = rw (ne_eqb k 0 (λ e. omega arith)) refl

    -- while it goes on, the ceiling is not reached
    pub bound : color_ends n k color (color_round n m k ends color) ≡ false → suc k < n
    bound e = go (agree_differ n color (color_round n m k ends color) 0 (sym ends-agree ∙ e))
      where
        go : (v : ℕ) × (v < n) × (at color v ≡ at (color_round n m k ends color) v → ⊥) → suc k < n
        go (v, l, differ) =
            let c = changed rounds k v (unit v l) (λ h. differ (at-k.values v l ∙ sym h ∙ sym (after.values v l))) in
            omega (arith, count_le n all)

    still : color_ends n k color (color_round n m k ends color) ≡ true → Still all n (color_after m ends) k
    still e v h =
        let same = agree_at n color (color_round n m k ends color) 0 at-k.room after.room (sym ends-agree
        ∙ e) v h.below in
        sym (after.values v h.below) ∙ sym same ∙ at-k.values v h.below

    pub done : color_ends n k color (color_round n m k ends color) ≡ true
        → Colored n m ends (color_round n m k ends color)
    done e =
        record {
          below = λ v l. rw (after.values v l)
              (reached-picked all n (Link m ends) v (value v) (unit v l)
              (value-reached rounds (suc k) v (unit v l))).below;
          reached = λ v l. rw (after.values v l) (plain (value-reached rounds (suc k) v (unit v l)));
          lowest = λ v w l c. rw (after.values v l) (still-least rounds (suc k) st v w (unit v l) (near c));
          same = same;
          own = own;
        }
      where
        value : ℕ → ℕ
        value v = color_after m ends (suc k) v

        st : Still all n (color_after m ends) (suc k)
        st = still-on rounds k (still e)

        both : (v w : ℕ) → Picked all n v → Picked all n w → Link m ends v w → Link m ends w v
        both v w pv pw r = (site-graph site).flip v w r

        same : (v w : ℕ) → v < n → w < n →
            (at (color_round n m k ends color) v ≡ at (color_round n m k ends color) w) ↔ Connected (Link m ends) v w
        same v w lv lw =
            let classes = still-classes rounds (suc k) st both v w (unit v lv) (unit w lw) in (
              λ h. plain (classes.0 (sym (after.values v lv) ∙ h ∙ after.values w lw)),
              λ c. after.values v lv ∙ classes.1 (near c) ∙ sym (after.values w lw),
            )

        own : (v : ℕ) → v < n → at (color_round n m k ends color) (at (color_round n m k ends color) v)
            ≡ at (color_round n m k ends color) v
        own v l =
            let b : value v < n = (reached-picked all n (Link m ends) v (value v) (unit v l)
            (value-reached rounds (suc k) v (unit v l))).below in
            rw (after.values v l) (after.values (value v) b ∙ still-own rounds (suc k) st both v (unit v l))
