-- A key for each unit tells which links are left: after a pass its two labels, and for a unit with a number one that no
-- other has. So no link is ever copied or moved.
use Rattle.std.specs.Prelude.{◌≡◌, refl, Bool, true, false, cond, List, [], ◌∷◌, ℕ, ◌+◌, ◌*◌, ◌≤◌, ◌<◌, eqb, length}
use Rattle.std.proofs.Common.{sym, ap, ◌∙◌, arith, eqb-true, eq-eqb}
use Rattle.std.proofs.Math.Decide.{ℕ_discrete}
use Rattle.base_lists.specs.Tables.{over, over_cong, get_d_over}
use Rattle.base_lists.specs.Tests.{refuted}
use Rattle.theory_graph.specs.Rings.{last, Walk, Connected}
use Rattle.theory_graph.specs.Routes.{connected_refl}
use Rattle.theory_min_label.specs.MinLabel.{NONE, at, min_forward, source, min_backward, marked, remaining}
use Rattle.theory_min_label.specs.Groups.{Link}
use Rattle.theory_min_label.specs.Spread.{Within, Least, least_unique, least-same, least_init}
use Rattle.theory_min_label.specs.PassLaws.{Turned}
use Rattle.theory_min_label.specs.MinLabelLaws.{Hears, forward-least, backward-least, stays-exact}
use Rattle.theory_min_label.specs.MinLabelLaws.{remaining-exact}
use Rattle.theory_min_label.specs.Hands.{Live, Lives, Ends, key_of}
use Rattle.theory_min_label.specs.HandLaws.{ends-within}

-- a pass as the code makes it: whichever list the links left are, the numbers and the links after it are the
-- definition's
pub record Passed (n : ℕ) (t key key' out out' : List ℕ) : Type 0 where
  pub size : length key' ≡ length key
  pub numbers : (t' : List ℕ) → Lives t key t' →
      out' ≡ over n (marked (min_forward n t') (min_backward n t' (min_forward n t')) out) out
  pub links : (t' : List ℕ) → Lives t key t' →
      Lives t key' (remaining (min_forward n t') (min_backward n t' (min_forward n t')) t')

module _ (n : ℕ) (t key f b : List ℕ) (few : n ≤ 256) (full : n ≤ length key) (inside : Within n (Link t))
    (loopless : (u : ℕ) → Link t u u → ⊥)
    (F : Least n (Hears true (Live t key)) (λ (v : ℕ). v) (at f))
    (B : Least n (Hears false (Live t key)) (source f) (at b)) where
  -- along the links left the key stays
  same_key : (v w : ℕ) → Connected (Hears true (Live t key)) v w → at key v ≡ at key w
  same_key v w (l, r) = go v l r.0 r.1
    where
      go : (x : ℕ) (m : List ℕ) → Walk (Hears true (Live t key)) x m → last x m ≡ w → at key x ≡ at key w
      go x [] u e = ap (at key) e
      go x (y ∷ m) u e = sym u.0.1 ∙ go y m u.1 e

  forward-own : (v : ℕ) → v < n → at f v ≤ v
  forward-own v h = F.below v v h (connected_refl (Hears true (Live t key)) v)

  backward-own : (v : ℕ) → v < n → at b v ≤ NONE
  backward-own v h = go (eqb (at f v) v) (B.below v v h (connected_refl (Hears false (Live t key)) v))
    where
      go : (e : Bool) → at b v ≤ cond e v NONE → at b v ≤ NONE
      go true l = omega arith
      go false l = l

  key-after : (v : ℕ) → v < n → at (over n (key_of f b) key) v ≡ key_of f b v
  key-after v h = get_d_over n (key_of f b) key v 0 h (omega arith)

  key-own : (v : ℕ) → at f v ≡ at b v → key_of f b v ≡ 65537 * v
  key-own v e = rw (eq-eqb (at f v) (at b v) e)

  key-pair : (v : ℕ) → (at f v ≡ at b v → ⊥) → key_of f b v ≡ at f v + 65536 * at b v
  key-pair v d = rw (refuted (eqb (at f v) (at b v)) (λ e. d (eqb-true (at f v) (at b v) e)))

  -- a link whose ends have one key after the pass has ends with the same two labels, that differ
  pub key-same : (u v : ℕ) → Link t u v → key_of f b u ≡ key_of f b v →
      (at f u ≡ at f v) × (at b u ≡ at b v) × (at f u ≡ at b u → ⊥)
  key-same u v l e = go (ℕ_discrete (at f u) (at b u)) (ℕ_discrete (at f v) (at b v))
    where
      hu : u < n
      hu = (inside u v l).0

      hv : v < n
      hv = (inside u v l).1

      loop : u ≡ v → ⊥
      loop q = loopless v (rw q at l)

      go : Dec (at f u ≡ at b u) → Dec (at f v ≡ at b v) → (at f u ≡ at f v) × (at b u ≡ at b v) × (at f u ≡ at b u → ⊥)
      go (yes p) (yes q) = absurd (loop (omega (arith, e, key-own u p, key-own v q)))
      go (yes p) (no q) =
          absurd (q (omega (arith, e, hu, hv, key-own u p, key-pair v q, forward-own v hv, backward-own v hv)))
      go (no p) (yes q) =
          absurd (p (omega (arith, e, hu, hv, key-pair u p, key-own v q, forward-own u hu, backward-own u hu)))
      go (no p) (no q) =
          let s : at f u + 65536 * at b u ≡ at f v + 65536 * at b v = sym (key-pair u p) ∙ (e ∙ key-pair v q) in (
            omega (arith, s, hu, hv, forward-own u hu, forward-own v hv),
            omega (arith, s, hu, hv, forward-own u hu, forward-own v hv),
            p,
          )

  module _ (t' : List ℕ) (lives : Lives t key t') where
    inside' : Within n (Link t')
    inside' u v l = inside u v ((lives u v).0 l).0

    abbrev f' : List ℕ
    f' = min_forward n t'

    abbrev b' : List ℕ
    b' = min_backward n t' f'

    pub forward-agrees : (v : ℕ) → v < n → at f v ≡ at f' v
    forward-agrees =
        least_unique n (Turned (Link t')) (λ (v : ℕ). v) (at f) (at f')
        (least-same n (Hears true (Live t key)) (Turned (Link t')) (λ (v : ℕ). v) (at f)
        (λ v w. ((lives w v).1, (lives w v).0)) F)
        (forward-least n t' inside')

    pub backward-agrees : (v : ℕ) → v < n → at b v ≡ at b' v
    backward-agrees =
        least_unique n (Link t') (source f') (at b) (at b')
        (least_init n (Link t') (source f) (source f') (at b) inside'
        (λ v h. ap (λ (y : ℕ). cond (eqb y v) v NONE) (forward-agrees v h))
        (least-same n (Hears false (Live t key)) (Link t') (source f) (at b) (λ v w. ((lives v w).1, (lives v w).0)) B))
        (backward-least n t' f' inside')

    pub marks-agree : (out : List ℕ) → over n (marked f b out) out ≡ over n (marked f' b' out) out
    marks-agree out = over_cong n (marked f b out) (marked f' b' out) out
        (λ v h. rw (forward-agrees v h, backward-agrees v h) refl)

    pub links-agree : Lives t (over n (key_of f b) key) (remaining f' b' t')
    links-agree u v = (there, back)
      where
        there : Link (remaining f' b' t') u v → Live t (over n (key_of f b) key) u v
        there l =
            let (k, s) = (remaining-exact f' b' t' u v).0 l in
            let (hu, hv) = inside' u v k in
            let (p, (q, r)) = (stays-exact f' b' u v).0 s in
            let p' : at f u ≡ at f v = forward-agrees u hu ∙ (p ∙ sym (forward-agrees v hv)) in
            let q' : at b u ≡ at b v = backward-agrees u hu ∙ (q ∙ sym (backward-agrees v hv)) in
            let r' : at f u ≡ at b u → ⊥ = λ e. r (sym (forward-agrees u hu) ∙ (e ∙ backward-agrees u hu)) in
            let r'' : at f v ≡ at b v → ⊥ = λ e. r' (p' ∙ (e ∙ sym q')) in (
              ((lives u v).0 k).0,
              key-after u hu ∙ (key-pair u r' ∙ (rw (p', q') (sym (key-after v hv ∙ key-pair v r'')))),
            )

        back : Live t (over n (key_of f b) key) u v → Link (remaining f' b' t') u v
        back (l, e) =
            let (hu, hv) = inside u v l in
            let (p, q, r) = key-same u v l (sym (key-after u hu) ∙ (e ∙ key-after v hv)) in
            let (w, c, i) = F.reached u hu in
            let (z, d, j) = F.reached v hv in
            let m : w ≡ z = sym i ∙ (p ∙ j) in
            let k : at key u ≡ at key v = same_key u w c ∙ (rw m (sym (same_key v z d))) in
            (remaining-exact f' b' t' u v).1 (
              (lives u v).1 (l, k),
              (stays-exact f' b' u v).1 (
                sym (forward-agrees u hu) ∙ (p ∙ forward-agrees v hv),
                (
                  sym (backward-agrees u hu) ∙ (q ∙ backward-agrees v hv),
                  λ s. r (forward-agrees u hu ∙ (s ∙ sym (backward-agrees u hu))),
                ),
              ),
            )

  pub passed : (out out' key' : List ℕ) → length key' ≡ length key → out' ≡ over n (marked f b out) out →
      key' ≡ over n (key_of f b) key → Passed n t key key' out out'
  passed out out' key' size eo ek =
      record {
        size = size;
        numbers = λ t' lives. eo ∙ marks-agree t' lives out;
        links = λ t' lives. rw ek (links-agree t' lives);
      }

-- at first every link is left: all keys are equal
pub lives-begun : (t key : List ℕ) (k : ℕ) → Ends (length key) t → ((v : ℕ) → v < length key → at key v ≡ k) →
    Lives t key t
lives-begun t key k ends same u v = (there, λ p. p.0)
  where
    there : Link t u v → Live t key u v
    there l = let (hu, hv) = ends-within (length key) t ends u v l in (l, same u hu ∙ sym (same v hv))
