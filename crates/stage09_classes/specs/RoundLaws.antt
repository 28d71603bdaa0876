-- A round by heads is one of the rule. A root says the absent mark, which lowers no word: so no join asks for roots,
-- and what a root takes in does not matter.
use Rattle.std.specs.Prelude.{◌≡◌, refl, Bool, true, false, cond, not, ◌&&◌, ◌||◌, ◌⊎◌, List, ℕ, ◌+◌, ◌*◌, ◌≤◌, ◌<◌}
use Rattle.std.specs.Prelude.{min, eqb, length}
use Rattle.std.proofs.Common.{sym, ap, ◌∙◌, true≢false, inl, inr, le_refl, arith, eqb-true, eq-eqb, ne_eqb}
use Rattle.std.proofs.Math.Decide.{ℕ_discrete}
use Rattle.base_lists.specs.Tests.{or_false-left, or_false-right}
use Rattle.base_lists.specs.Tests.{either, cond_true, cond_false}
use Rattle.base_lists.specs.Tables.{over, get_d_over, length_over}
use Rattle.base_lists.specs.Folds.{least}
use Rattle.base_lists.specs.LeastLaws.{least_start}
use Rattle.base_lists.specs.Rounds.{over_cong_in}
use Rattle.base_lists.specs.Scatter.{fold_again}
use Rattle.table.specs.Table.{end_a, end_b}
use Rattle.spec_rules.specs.Basics.{ABSENT, at, is_root}
use Rattle.spec_rules.specs.Fits.{EndsWithin}
use Rattle.spec_rules.specs.ComponentsLaws.{over-said}
use Rattle.spec_rules.specs.Aux.{heard_over, least_joined, aux_said, aux_round}
use Rattle.stage09_classes.specs.Absorbed.{least-alike, least_aside}
use Rattle.stage09_aux.specs.Heads.{said_by, Heads, least_of}
use Rattle.stage09_classes.specs.Propagation.{heard_if, over_links, to_heads, by_head}
use Rattle.stage09_classes.specs.HeadLaws.{to-over}

-- a link of a and b: x and y are their values, x' and y' what they say, and it is known of each end whether it is a
-- root and whether it is v
module _ (most z x y x' y' own : ℕ) (low : z ≤ own) (word : own ≤ most) where
  link-alike : (unmarked root-a root-b is-a is_b : Bool) → (root-a ≡ false → x' ≡ x) → (root-b ≡ false → y' ≡ y)
      → (root-a ≡ true → x' ≡ most) → (root-b ≡ true → y' ≡ most)
      → (is-a ≡ true → root-a ≡ false) → (is_b ≡ true → root-b ≡ false)
      → min z (cond (not unmarked) (cond is-a y' (cond is_b x' own)) own)
      ≡ min z (cond (not unmarked && not root-a && not root-b) (cond is-a y (cond is_b x own)) own)
  link-alike true ra rb ea eb ua ub sa sb na nb = refl
  link-alike false false false ea eb ua ub sa sb na nb = rw (ua refl, ub refl)
  link-alike false true rb true eb ua ub sa sb na nb = absurd (true≢false (na refl))
  link-alike false true rb false true ua ub sa sb na nb = rw (sa refl) (omega arith)
  link-alike false true rb false false ua ub sa sb na nb = refl
  link-alike false false true true eb ua ub sa sb na nb = rw (sb refl) (omega arith)
  link-alike false false true false true ua ub sa sb na nb = absurd (true≢false (nb refl))
  link-alike false false true false false ua ub sa sb na nb = refl

-- a join that is not marked, or of a root, does not count
no_join : (unmarked root other : Bool) (p q : ℕ) → (unmarked || root) ≡ true →
    cond (not unmarked && not root && not other) p q ≡ q
no_join true root other p q e = refl
no_join false true other p q e = refl
no_join false false other p q e = absurd (true≢false (sym e))

same-either : (b : Bool) (x : ℕ) → cond b x x ≡ x
same-either true x = refl
same-either false x = refl

module _ (n : ℕ) (parent value : List ℕ) (long : n ≤ length value) where
  abbrev said : List ℕ
  said = over n (said_by parent value) value

  unit_says_lem : (i : ℕ) → i < n → is_root parent i ≡ false → at said i ≡ at value i
  unit_says_lem i h e = get_d_over n (said_by parent value) value i 0 h (omega (arith, h, long))
      ∙ cond_false (is_root parent i) ABSENT (at value i) e

  root_says : (i : ℕ) → i < n → is_root parent i ≡ true → at said i ≡ ABSENT
  root_says i h e = get_d_over n (said_by parent value) value i 0 h (omega (arith, h, long))
      ∙ cond_true (is_root parent i) ABSENT (at value i) e

  -- of a unit v that is no root
  module _ (v : ℕ) (here : v < n) (unit : is_root parent v ≡ false) (word : at value v ≤ ABSENT) where
    own : at said v ≡ at value v
    own = unit_says_lem v here unit

    is-unit : (a : ℕ) → eqb a v ≡ true → is_root parent a ≡ false
    is-unit a e = rw (eqb-true a v e) unit

    marked-alike : (mark a b z : ℕ) → a < n → b < n → z ≤ at value v →
        min z (heard_if said mark a b v) ≡ min z (heard_over parent value mark a b v)
    marked-alike mark a b z ha hb low =
        rw own
        (link-alike ABSENT z (at value a) (at value b) (at said a) (at said b) (at value v) low word
        (eqb mark 0) (is_root parent a) (is_root parent b) (eqb a v) (eqb b v)
        (unit_says_lem a ha) (unit_says_lem b hb) (root_says a ha) (root_says b hb) (is-unit a) (is-unit b))

    module _ (marks heads : List ℕ) (by : Heads n parent marks heads) where
      -- what another unit tells its head
      other-alike : (u : ℕ) → u < n → (u ≡ v → ⊥)
          → cond (eqb (at heads u) v) (at said u) (at said v) ≡ heard_over parent value (at marks u) u (at parent u) v
      other-alike u l ne = go (either (eqb (at marks u) 0 || is_root parent u))
        where
          marked : eqb (at marks u) 0 ≡ false → is_root parent u ≡ false → at heads u ≡ at parent u →
              Dec (at parent u ≡ v)
              → cond (eqb (at heads u) v) (at said u) (at said v)
              ≡ heard_over parent value (at marks u) u (at parent u) v
          marked e ru h (yes q) =
              let rp : is_root parent (at parent u) ≡ false = rw q unit in
              rw (h, eq-eqb (at parent u) v q, e, ru, rp, ne_eqb u v ne) (unit_says_lem u l ru)
          marked e ru h (no q) =
              rw (
                h,
                ne_eqb (at parent u) v q,
                e,
                ru,
                ne_eqb u v ne,
              ) (own ∙ sym (same-either (not (is_root parent (at parent u))) (at value v)))

          go : ((eqb (at marks u) 0 || is_root parent u) ≡ true) ⊎ ((eqb (at marks u) 0 || is_root parent u) ≡ false)
              → cond (eqb (at heads u) v) (at said u) (at said v)
              ≡ heard_over parent value (at marks u) u (at parent u) v
          go (inl e) =
              let h : at heads u ≡ u = by.are u l
              ∙ cond_true (eqb (at marks u) 0 || is_root parent u) u (at parent u) e in
              rw (h, ne_eqb u v ne)
              (own
              ∙ sym (no_join (eqb (at marks u) 0) (is_root parent u) (is_root parent (at parent u))
              (cond (eqb (at parent u) v) (at value u) (at value v)) (at value v) e))
          go (inr e) =
              let h : at heads u ≡ at parent u =
              by.are u l ∙ cond_false (eqb (at marks u) 0 || is_root parent u) u (at parent u) e in
              marked (or_false-left (eqb (at marks u) 0) (is_root parent u) e)
              (or_false-right (eqb (at marks u) 0) (is_root parent u) e) h
              (ℕ_discrete (at parent u) v)

      -- what v hears from its head
      own-alike : (z : ℕ) → z ≤ at value v
          → min (min z (cond (eqb (at heads v) v) (at said v) (at said v))) (at said (at heads v))
          ≡ min z (heard_over parent value (at marks v) v (at parent v) v)
      own-alike z low = rw (same-either (eqb (at heads v) v) (at said v), own) (go (either (eqb (at marks v) 0)))
        where
          marked : (is_root parent (at parent v) ≡ true) ⊎ (is_root parent (at parent v) ≡ false) → at parent v < n
              → min (min z (at value v)) (at said (at parent v))
              ≡ min z (cond (not (is_root parent v) && not (is_root parent (at parent v)))
              (cond (eqb v v) (at value (at parent v)) (cond (eqb (at parent v) v) (at value v) (at value v)))
              (at value v))
          marked (inl e) h = rw (unit, e, root_says (at parent v) h e) (omega arith)
          marked (inr e) h = rw (unit, e, unit_says_lem (at parent v) h e, eq-eqb v v refl) (omega arith)

          go : (eqb (at marks v) 0 ≡ true) ⊎ (eqb (at marks v) 0 ≡ false)
              → min (min z (at value v)) (at said (at heads v))
              ≡ min z (heard_over parent value (at marks v) v (at parent v) v)
          go (inl e) =
              let h : at heads v ≡ v = by.are v here ∙ rw e refl in
              rw (h, e, own) (omega arith)
          go (inr e) =
              let h : at heads v ≡ at parent v = by.are v here ∙ rw (e, unit) refl in
              rw (h, e) (marked (either (is_root parent (at parent v))) (rw h at (by.exist v here)))

-- as the loops leave it, of what the units say in any round
pub heads-round : (n m made : ℕ) (ends parent links marks color value heads said told t : List ℕ) →
    value ≡ aux_said n made color → n ≤ length value
    → EndsWithin n m ends → Heads n parent marks heads → ((i : ℕ) → at value i ≤ ABSENT)
    → said ≡ over n (said_by parent value) value
    → t ≡ to_heads n n heads said (over n (over_links m ends links said) said) →
    ((u : ℕ) → u < n → at told u ≡ by_head heads said u)
    → over n (least_of parent told t) value ≡ aux_round n m made ends parent links marks color
unfolding aux_round least_joined over_links
heads-round n m made ends parent links marks color value heads said told t from long within by words is was tells =
    over_cong_in 0 n (least_of parent told t) (least_joined n m ends parent links marks value) value
    (λ (v : ℕ) (h : v < n) (l : v < length value). go v h (either (is_root parent v)))
    ∙ rw from (over-said (eqb made 0) n (least_joined n m ends parent links marks (aux_said n made color)) color)
  where
    over-link : ℕ → ℕ → ℕ
    over-link v j = heard_if said (at links j) (end_a ends j) (end_b ends j) v

    over-head : ℕ → ℕ → ℕ
    over-head v u = cond (eqb (at heads u) v) (at said u) (at said v)

    read : (v : ℕ) → v < n → at t v ≡ least n (over-head v) (least m (over-link v) (at said v))
    read v h =
        rw (
          was,
          to-over n heads said n (λ (i : ℕ). least m (over-link i) (at said i))
              (λ (i : ℕ). fold_again false m (over-link i) (at said i)),
        )
        (get_d_over n (λ (i : ℕ). least n (over-head i) (least m (over-link i) (at said i))) said v 0 h
        (omega (arith, h, long, ap length is, length_over n (said_by parent value) value)))

    unit : (v : ℕ) → v < n → is_root parent v ≡ false
        → min (at t v) (at said (at heads v))
        ≡ least n (λ (u : ℕ). heard_over parent value (at marks u) u (at parent u) v)
        (least m (λ (j : ℕ). heard_over parent value (at links j) (end_a ends j) (end_b ends j) v) (at value v))
    unit v h e =
        let same : at said v ≡ at value v = rw is (unit_says_lem n parent value long v h e) in
        let by-link : ℕ → ℕ = λ (j : ℕ). heard_over parent value (at links j) (end_a ends j) (end_b ends j) v in
        let by-parent : ℕ → ℕ = λ (u : ℕ). heard_over parent value (at marks u) u (at parent u) v in
        let linked : least m (over-link v) (at said v) ≡ least m by-link (at value v) =
        ap (λ (x : ℕ). least m (over-link v) x) same
        ∙ least-alike m (over-link v) by-link (at value v) (at value v) (le_refl (at value v))
        (λ (j z : ℕ) (l : j < m) (a : z ≤ at value v).
        rw is (marked-alike n parent value long v h e (words v) (at links j) (end_a ends j) (end_b ends j) z
        (within.1 (2 * j) (omega (arith, l))) (within.1 (2 * j + 1) (omega (arith, l))) a)) in
        let all : min (least n (over-head v) (least m by-link (at value v))) (at said (at heads v))
        ≡ least n by-parent (least m by-link (at value v)) =
        least_aside n v (at said (at heads v)) (over-head v) by-parent (least m by-link (at value v)) (at value v)
        (least_start m by-link (at value v)) h
        (λ (z : ℕ) (a : z ≤ at value v). rw is (own-alike n parent value long v h e (words v) marks heads by z a))
        (λ (u z : ℕ) (l : u < n) (ne : u ≡ v → ⊥) (a : z ≤ at value v).
        ap (λ (x : ℕ). min z x) (rw is (other-alike n parent value long v h e (words v) marks heads by u l ne))) in
        rw (read v h, linked) all

    go : (v : ℕ) → v < n → (is_root parent v ≡ true) ⊎ (is_root parent v ≡ false) →
        least_of parent told t v ≡ least_joined n m ends parent links marks value v
    go v h (inl e) = rw e
    go v h (inr e) = rw (e, tells v h) (unit v h e)
