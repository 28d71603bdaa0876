-- Stage 9: the classes are the components of the auxiliary graph, by propagation among the non-roots.
use Rattle.std.specs.Prelude.{◌≡◌, refl, Bool, false, not, ◌&&◌, ◌⊎◌, ◌↔◌, List, eqb, ltb, length}
use Rattle.std.proofs.Math.Path.{sym}
use Rattle.std.proofs.Common.{ap, ◌∙◌, eqb-true, eq-eqb, ne_eqb, lt-ltb}
use Rattle.std.proofs.Math.Bool.{true}
use Rattle.std.proofs.Math.Logic.{inl, inr}
use Prim.Native.Nat.{ℕ, zero, suc, ◌-◌, ◌≤◌, ◌<◌}
use Rattle.std.proofs.Math.Decide.{dec_lt}
use native.Mathlib.Omega.{arith}
use Rattle.std.proofs.lemmas.Bool.{not-true, not-false}
use Rattle.base_lists.specs.Tests.{either, not_exact, and_left, and_right, and-true, cond_true, cond_false}
use Rattle.base_lists.specs.Tables.{over, length_over, get_d_over, over-over}
use Rattle.base_lists.specs.Folds.{least, count}
use Rattle.base_lists.specs.LeastLaws.{least_le, least_start, least-is}
use Rattle.base_lists.specs.Agreement.{agree_at, agree_differ}
use Rattle.base_lists.specs.Pigeonhole.{Picked}
use Rattle.base_lists.specs.Counts.{count-fewer}
use Rattle.table.specs.Table.{end_a, end_b}
use Rattle.spec_rules.specs.Basics.{ABSENT, at, is_root}
use Rattle.spec_rules.specs.BoundLaws.{eq_exact}
use Rattle.spec_rules.specs.Aux.{joined, heard_over, least_joined, aux_round, aux_ends}
use Rattle.theory_graph.specs.Rings.{SameLink}
use Rattle.theory_graph.specs.Forest.{Anc, OffTree, Aux, across, along, Classes}
use Rattle.theory_graph.specs.Ancestors.{root_anc}
use Rattle.theory_graph.specs.Propagation.{Rounds, Still, changed, still-on}
use Rattle.theory_graph.proofs.Joins.{classes-by_rounds}
use Rattle.theory_reach.specs.Site.{Site, Link, site-graph}
use Rattle.theory_reach.specs.Rooted.{Rooted, nonroot_exact}
use Rattle.theory_reach.specs.OffTheTree.{off-flip}
use Rattle.theory_reach.specs.AuxEdges.{JoinsUp, Across, across-flip}

-- ---- what a join lets v hear

-- its own value, or over a join that counts the other end's
over-cases : (parent value : List ℕ) (mark a b v : ℕ)
    → (heard_over parent value mark a b v ≡ at value v)
    ⊎ ((w : ℕ) × SameLink a b v w × (joined parent mark a b ≡ true) × (heard_over parent value mark a b v ≡ at value w))
over-cases parent value mark a b v = go (either (joined parent mark a b)) (either (eqb a v)) (either (eqb b v))
  where
    go : (joined parent mark a b ≡ true) ⊎ (joined parent mark a b ≡ false) → (eqb a v ≡ true) ⊎ (eqb a v ≡ false) →
        (eqb b v ≡ true) ⊎ (eqb b v ≡ false)
        → (heard_over parent value mark a b v ≡ at value v)
        ⊎ ((w : ℕ) × SameLink a b v w × (joined parent mark a b ≡ true)
        × (heard_over parent value mark a b v ≡ at value w))
    go (inr e) f g = inl (rw e refl)
    go (inl e) (inl f) g = inr (b, inl (eqb-true a v f, refl), e, rw (e, f) refl)
    go (inl e) (inr f) (inl g) = inr (a, inr (refl, eqb-true b v g), e, rw (e, f, g) refl)
    go (inl e) (inr f) (inr g) = inl (rw (e, f, g) refl)

over-other : (parent value : List ℕ) (mark a b v w : ℕ) → joined parent mark a b ≡ true → SameLink a b v w
    → heard_over parent value mark a b v ≡ at value w
over-other parent value mark a b v w e (inl s) = rw (e, eq-eqb a v s.0, s.1) refl
over-other parent value mark a b v w e (inr s) = go (either (eqb a v))
  where
    go : (eqb a v ≡ true) ⊎ (eqb a v ≡ false) → heard_over parent value mark a b v ≡ at value w
    go (inl f) = rw (e, f) (ap (at value) (s.1 ∙ sym (eqb-true a v f) ∙ s.0))
    go (inr f) = rw (e, f, eq-eqb b v s.1, s.0) refl

-- the marks of stage 8 are the auxiliary edges
pub record Marked (n m : ℕ) (ends parent linkJoins parentJoins : List ℕ) (d : ℕ → ℕ) : Type 0 where
  pub link_marks : (j : ℕ) → j < m → (at linkJoins j ≡ 0 → ⊥)
      ↔ Across (Link m ends) (at parent) d (end_a ends j) (end_b ends j)
  pub parent_marks : (u : ℕ) → u < n → (at parentJoins u ≡ 0 → ⊥) ↔ JoinsUp (Link m ends) (at parent) d u

-- the tree links are named by the units that are no roots
abbrev named : List ℕ → ℕ → Bool
named parent v = not (is_root parent v)

-- v and w are joined, either way
abbrev Reads : ℕ → List ℕ → List ℕ → (ℕ → ℕ) → ℕ → ℕ → Type 0
Reads m ends parent d v w =
    Across (Link m ends) (at parent) d v w
    ⊎ ((JoinsUp (Link m ends) (at parent) d v × (at parent v ≡ w))
    ⊎ (JoinsUp (Link m ends) (at parent) d w × (at parent w ≡ v)))

-- the classes after k rounds, from any table at the start
unfoldable pub aux_after : ℕ → ℕ → List ℕ → List ℕ → List ℕ → List ℕ → List ℕ → ℕ → List ℕ
aux_after n m ends parent linkJoins parentJoins first zero = over n (λ (v : ℕ). v) first
aux_after n m ends parent linkJoins parentJoins first (suc k) =
    over n (least_joined n m ends parent linkJoins parentJoins
    (aux_after n m ends parent linkJoins parentJoins first k))
    (aux_after n m ends parent linkJoins parentJoins first k)

aux-length : (n m : ℕ) (ends parent linkJoins parentJoins first : List ℕ) (k : ℕ)
    → length (aux_after n m ends parent linkJoins parentJoins first k) ≡ length first
unfolding aux_after
aux-length n m ends parent lj pj first zero = length_over n (λ (v : ℕ). v) first
aux-length n m ends parent lj pj first (suc k) =
    length_over n _ (aux_after n m ends parent lj pj first k) ∙ aux-length n m ends parent lj pj first k

-- the rule's rounds make them
pub aux-first : (n m : ℕ) (ends parent linkJoins parentJoins first : List ℕ)
    → aux_round n m 0 ends parent linkJoins parentJoins first ≡ aux_after n m ends parent linkJoins parentJoins first 1
unfolding aux_round aux_after
aux-first n m ends parent lj pj first = sym (over-over n _ (λ (v : ℕ). v) first)

pub aux-next : (n m : ℕ) (ends parent linkJoins parentJoins first : List ℕ) (k : ℕ)
    → aux_round n m (suc k) ends parent linkJoins parentJoins
    (aux_after n m ends parent linkJoins parentJoins first (suc k))
    ≡ aux_after n m ends parent linkJoins parentJoins first (suc (suc k))
unfolding aux_round aux_after
aux-next n m ends parent lj pj first k = rw (ne_eqb (suc k) 0 (omega arith)) refl

module _
    {n m : ℕ} {ends color parent linkJoins parentJoins : List ℕ} {d : ℕ → ℕ}
    (site : Site n m ends) (rooted : Rooted n m ends color parent d)
    (marked : Marked n m ends parent linkJoins parentJoins d)
    (first : List ℕ) (long : n ≤ length first)
  where
    after : ℕ → List ℕ
    after k = aux_after n m ends parent linkJoins parentJoins first k

    value : ℕ → ℕ → ℕ
    value k v = at (after k) v

    in_range_lem : (k v : ℕ) → v < n → v < length (after k)
    unfolding after
    in_range_lem k v h = omega (arith, long, aux-length n m ends parent linkJoins parentJoins first k)

    named-exact : (v : ℕ) → (0 < d v) ↔ Picked (named parent) n v
    named-exact v = (λ h. inside h (dec_lt v n), λ h. (nonroot_exact rooted v h.below).0 h.passes)
      where
        inside : 0 < d v → Dec (v < n) → Picked (named parent) n v
        inside h (yes l) = record { below = l; passes = (nonroot_exact rooted v l).1 h }
        inside h (no l) = absurd (omega (arith, rooted.outside v (omega arith)))

    -- a round's value of a named unit
    value-next : (k v : ℕ) → Picked (named parent) n v
        → value (suc k) v
        ≡ least n (λ (u : ℕ). heard_over parent (after k) (at parentJoins u) u (at parent u) v)
        (least m (λ (j : ℕ). heard_over parent (after k) (at linkJoins j) (end_a ends j) (end_b ends j) v)
        (at (after k) v))
    unfolding aux_after least_joined value after
    value-next k v h =
        get_d_over n (least_joined n m ends parent linkJoins parentJoins (after k)) (after k) v 0 h.below
        (in_range_lem k v h.below)
        ∙ cond_false (is_root parent v) ABSENT _ (not-true (is_root parent v) h.passes)

    -- what a round reads of a join that counts
    link-joined : (j : ℕ) → j < m → Across (Link m ends) (at parent) d (end_a ends j) (end_b ends j)
        → 0 < d (end_a ends j) → 0 < d (end_b ends j) → joined parent (at linkJoins j) (end_a ends j) (end_b ends j)
        ≡ true
    link-joined j l o a b =
        and-true _ _
        (and-true _ _ (mark_true (at linkJoins j) ((marked.link_marks j l).1 o))
        ((nonroot_exact rooted (end_a ends j) (site.below_a j l)).1 a))
        ((nonroot_exact rooted (end_b ends j) (site.below_b j l)).1 b)
      where
        mark_true : (x : ℕ) → (x ≡ 0 → ⊥) → not (eqb x 0) ≡ true
        mark_true x h = (not_exact (eqb x 0) (eq_exact x 0)).1 h

    parent-joined : (u : ℕ) → u < n → JoinsUp (Link m ends) (at parent) d u →
        joined parent (at parentJoins u) u (at parent u) ≡ true
    parent-joined u l j =
        and-true _ _
        (and-true _ _ ((not_exact (eqb (at parentJoins u) 0) (eq_exact (at parentJoins u) 0)).1
        ((marked.parent_marks u l).1 j)) ((nonroot_exact rooted u l).1 j.child))
        ((nonroot_exact rooted (at parent u) (rooted.parent_below u l j.child)).1 j.inner)

    joined-mark : (mark a b : ℕ) → joined parent mark a b ≡ true → (mark ≡ 0 → ⊥)
    joined-mark mark a b e = (not_exact (eqb mark 0) (eq_exact mark 0)).0
        (and_left _ (not (is_root parent a)) (and_left _ (not (is_root parent b)) e))

    joined-named : (mark a b : ℕ) → joined parent mark a b ≡ true → (named parent a ≡ true) × (named parent b ≡ true)
    joined-named mark a b e = (
      and_right (not (eqb mark 0)) _ (and_left _ (not (is_root parent b)) e),
      and_right (not (eqb mark 0) && not (is_root parent a)) (not (is_root parent b)) e,
    )

    -- ---- the rounds are those of a propagation

    by-links : ℕ → ℕ → ℕ → ℕ
    by-links k v j = heard_over parent (after k) (at linkJoins j) (end_a ends j) (end_b ends j) v

    by-parents : ℕ → ℕ → ℕ → ℕ
    by-parents k v u = heard_over parent (after k) (at parentJoins u) u (at parent u) v

    through-link : (k v j : ℕ) → Picked (named parent) n v → j < m → value (suc k) v ≤ by-links k v j
    unfolding by-links by-parents value
    through-link k v j pv l =
        omega (
          arith,
          value-next k v pv,
          least_start n (by-parents k v) (least m (by-links k v) (at (after k) v)),
          least_le m (by-links k v) (at (after k) v) j l,
        )

    through-parent : (k v u : ℕ) → Picked (named parent) n v → u < n → value (suc k) v ≤ by-parents k v u
    unfolding by-links by-parents value
    through-parent k v u pv l = omega (
      arith,
      value-next k v pv,
      least_le n (by-parents k v) (least m (by-links k v) (at (after k) v)) u l,
    )

    own_value : (k v : ℕ) → Picked (named parent) n v → value (suc k) v ≤ value k v
    unfolding by-links by-parents value
    own_value k v pv =
        omega (
          arith,
          value-next k v pv,
          least_start n (by-parents k v) (least m (by-links k v) (at (after k) v)),
          least_start m (by-links k v) (at (after k) v),
        )

    depth-of : (v : ℕ) → Picked (named parent) n v → 0 < d v
    depth-of v h = (named-exact v).1 h

    near-value : (k v w : ℕ) → Picked (named parent) n v → Picked (named parent) n w → Reads m ends parent d v w →
        value (suc k) v ≤ value k w
    unfolding by-links by-parents value
    near-value k v w pv pw (inl o) = over-link o.off.link
      where
        over-link : Link m ends v w → value (suc k) v ≤ value k w
        over-link (j, l, inl s) =
            let e : joined parent (at linkJoins j) (end_a ends j) (end_b ends j) ≡ true =
            link-joined j l (rw (s.0, s.1) o) (rw s.0 (depth-of v pv)) (rw s.1 (depth-of w pw)) in
            rw (over-other parent (after k) (at linkJoins j) (end_a ends j) (end_b ends j) v w e (inl s)) at
            (through-link k v j pv l)
        over-link (j, l, inr s) =
            let e : joined parent (at linkJoins j) (end_a ends j) (end_b ends j) ≡ true =
            link-joined j l (rw (s.0, s.1) (across-flip site rooted v w o)) (rw s.0 (depth-of w pw))
            (rw s.1 (depth-of v pv)) in
            rw (over-other parent (after k) (at linkJoins j) (end_a ends j) (end_b ends j) v w e (inr s)) at
            (through-link k v j pv l)
    near-value k v w pv pw (inr (inl (j, e))) =
        rw (over-other parent (after k) (at parentJoins v) v (at parent v) v w (parent-joined v pv.below j)
        (inl (refl, e))) at (through-parent k v v pv pv.below)
    near-value k v w pv pw (inr (inr (j, e))) =
        rw (over-other parent (after k) (at parentJoins w) w (at parent w) v w (parent-joined w pw.below j)
        (inr (refl, e))) at (through-parent k v w pv pw.below)

    -- whatever is heard is heard of a unit that v reads
    Attained : ℕ → ℕ → ℕ → Type 0
    Attained k v y = (y ≡ value k v) ⊎ ((w : ℕ) × Picked (named parent) n w × Reads m ends parent d v w
        × (y ≡ value k w))

    link-attained : (k v j : ℕ) → Picked (named parent) n v → j < m → Attained k v (by-links k v j)
    unfolding by-links Attained value
    link-attained k v j pv l = go (over-cases parent (after k) (at linkJoins j) (end_a ends j) (end_b ends j) v)
      where
        Found : Type 0
        Found = (w : ℕ) × SameLink (end_a ends j) (end_b ends j) v w
            × (joined parent (at linkJoins j) (end_a ends j) (end_b ends j) ≡ true) × (by-links k v j ≡ at (after k) w)

        off : joined parent (at linkJoins j) (end_a ends j) (end_b ends j) ≡ true →
            Across (Link m ends) (at parent) d (end_a ends j) (end_b ends j)
        off e = (marked.link_marks j l).0 (joined-mark (at linkJoins j) (end_a ends j) (end_b ends j) e)

        go : (by-links k v j ≡ at (after k) v) ⊎ Found → Attained k v (by-links k v j)
        go (inl e) = inl e
        go (inr (w, inl s, e, f)) =
            inr (
              w,
              record {
                below = rw (← s.1) (site.below_b j l);
                passes = rw (← s.1) (joined-named (at linkJoins j) (end_a ends j) (end_b ends j) e).1;
              },
              inl (rw (s.0, s.1) at (off e)),
              f,
            )
        go (inr (w, inr s, e, f)) =
            inr (
              w,
              record {
                below = rw (← s.0) (site.below_a j l);
                passes = rw (← s.0) (joined-named (at linkJoins j) (end_a ends j) (end_b ends j) e).0;
              },
              inl (rw (s.0, s.1) at (across-flip site rooted (end_a ends j) (end_b ends j) (off e))),
              f,
            )

    parent-attained : (k v u : ℕ) → Picked (named parent) n v → u < n → Attained k v (by-parents k v u)
    unfolding by-parents Attained value
    parent-attained k v u pv l = go (over-cases parent (after k) (at parentJoins u) u (at parent u) v)
      where
        Found : Type 0
        Found = (w : ℕ) × SameLink u (at parent u) v w × (joined parent (at parentJoins u) u (at parent u) ≡ true)
            × (by-parents k v u ≡ at (after k) w)

        up : joined parent (at parentJoins u) u (at parent u) ≡ true → JoinsUp (Link m ends) (at parent) d u
        up e = (marked.parent_marks u l).0 (joined-mark (at parentJoins u) u (at parent u) e)

        go : (by-parents k v u ≡ at (after k) v) ⊎ Found → Attained k v (by-parents k v u)
        go (inl e) = inl e
        go (inr (w, inl s, e, f)) =
            inr (
              w,
              record {
                below = rw (← s.1) (rooted.parent_below u l (up e).child);
                passes = rw (← s.1) (joined-named (at parentJoins u) u (at parent u) e).1;
              },
              inr (inl (rw s.0 at (up e), rw (← s.0) s.1)),
              f,
            )
        go (inr (w, inr s, e, f)) =
            inr (
              w,
              record {
                below = rw (← s.0) l;
                passes = rw (← s.0) (joined-named (at parentJoins u) u (at parent u) e).0;
              },
              inr (inr (rw s.0 at (up e), rw (← s.0) s.1)),
              f,
            )

    attained-value : (k v : ℕ) → Picked (named parent) n v → Attained k v (value (suc k) v)
    unfolding by-links by-parents value Attained
    attained-value k v pv = rw (value-next k v pv)
        (outer (least-is n (by-parents k v) (least m (by-links k v) (at (after k) v))))
      where
        inner : (least m (by-links k v) (at (after k) v) ≡ at (after k) v)
            ⊎ ((j : ℕ) × (j < m) × (least m (by-links k v) (at (after k) v) ≡ by-links k v j))
            → Attained k v (least m (by-links k v) (at (after k) v))
        inner (inl e) = inl e
        inner (inr (j, l, e)) = rw e (link-attained k v j pv l)

        outer : (least n (by-parents k v) (least m (by-links k v) (at (after k) v))
            ≡ least m (by-links k v) (at (after k) v))
            ⊎ ((u : ℕ) × (u < n) × (least n (by-parents k v) (least m (by-links k v) (at (after k) v))
            ≡ by-parents k v u))
            → Attained k v (least n (by-parents k v) (least m (by-links k v) (at (after k) v)))
        outer (inl e) = rw e (inner (least-is m (by-links k v) (at (after k) v)))
        outer (inr (u, l, e)) = rw e (parent-attained k v u pv l)

    rounds : Rounds (named parent) n (Reads m ends parent d) value
    unfolding value after aux_after Attained
    rounds =
        record {
          start = λ v h. get_d_over n (λ (w : ℕ). w) first v 0 h.below (omega (arith, long, h.below));
          own = own_value;
          near = near-value;
          attained = attained-value;
        }

    -- ---- how long the stage takes, and what it leaves

    -- the color unit of unit 0 is a root, so at most n − 1 units name tree links
    named-few : count n (named parent) < n
    named-few = count-fewer n (named parent) (at color 0) below
        (ap not (eq-eqb (at parent (at color 0)) ABSENT ((rooted.absent_root (at color 0) below).1 top)))
      where
        below : at color 0 < n
        below = rooted.color_below 0 site.some_unit

        top : d (at color 0) ≡ 0
        top = rw (cond_true (ltb 0 n) (at color 0) 0 (lt-ltb 0 n site.some_unit)) at (root_anc rooted.forest 0).1

    -- roots stay absent
    root-value : (k v : ℕ) → v < n → named parent v ≡ false → value (suc k) v ≡ ABSENT
    unfolding value after aux_after least_joined
    root-value k v l e =
        get_d_over n (least_joined n m ends parent linkJoins parentJoins (after k)) (after k) v 0 l (in_range_lem k v l)
        ∙ cond_true (is_root parent v) ABSENT _ (not-false (is_root parent v) e)

    -- a later round that changes something leaves room below the ceiling
    pub aux-bound : (k : ℕ) → aux_ends n (suc k) (aux_after n m ends parent linkJoins parentJoins first (suc k))
        (aux_after n m ends parent linkJoins parentJoins first (suc (suc k))) ≡ false
        → suc (suc k) < n - 1
    unfolding aux_ends value after
    aux-bound k e = go (agree_differ n (after (suc k)) (after (suc (suc k))) 0
        (rw (ne_eqb (suc k) 0 (omega arith)) at e))
      where
        go : (i : ℕ) × (i < n) × (value (suc k) i ≡ value (suc (suc k)) i → ⊥) → suc (suc k) < n - 1
        go (i, l, h) = by (either (named parent i))
          where
            by : (named parent i ≡ true) ⊎ (named parent i ≡ false) → suc (suc k) < n - 1
            by (inl p) = omega (
              arith,
              changed rounds (suc k) i (record { below = l; passes = p }) (λ q. h (sym q)),
              named-few,
            )
            by (inr p) = absurd (h (root-value k i l p ∙ sym (root-value (suc k) i l p)))

    -- a round that changes nothing leaves the classes of the auxiliary graph
    pub aux-done : (k : ℕ) → aux_ends n (suc k) (aux_after n m ends parent linkJoins parentJoins first (suc k))
        (aux_after n m ends parent linkJoins parentJoins first (suc (suc k))) ≡ true
        → Classes (Link m ends) (at parent) d (at (aux_after n m ends parent linkJoins parentJoins first (suc (suc k))))
    unfolding aux_ends value after
    aux-done k e = classes-by_rounds (site-graph site) rooted.forest named-exact joins joined' rounds (suc (suc k))
        (still-on rounds (suc k) still)
      where
        same : (i : ℕ) → i < n → at (after (suc k)) i ≡ at (after (suc (suc k))) i
        same = agree_at n (after (suc k)) (after (suc (suc k))) 0
            (omega (arith, long, aux-length n m ends parent linkJoins parentJoins first (suc k)))
            (omega (arith, long, aux-length n m ends parent linkJoins parentJoins first (suc (suc k))))
            (rw (ne_eqb (suc k) 0 (omega arith)) at e)

        still : Still (named parent) n value (suc k)
        still v h = sym (same v h.below)

        joins : (v w : ℕ) → Aux (Link m ends) (at parent) d v w → Reads m ends parent d v w × Reads m ends parent d w v
        joins v w (across o a b) = let c : Across (Link m ends) (at parent) d v w =
            record { off = o; not_above = a; not_below = b } in (inl c, inl (across-flip site rooted v w c))
        joins v w (along a f b x y o i x') =
            let j : JoinsUp (Link m ends) (at parent) d v =
            record { child = a; inner = rw f b; x = x; y = y; off = o; inside = i; outside = rw f x' } in
            (inr (inl (j, f)), inr (inr (j, f)))

        joined' : (v w : ℕ) → Picked (named parent) n v → Picked (named parent) n w → Reads m ends parent d v w →
            Aux (Link m ends) (at parent) d v w ⊎ Aux (Link m ends) (at parent) d w v
        joined' v w pv pw (inl c) = inl (across c.off c.not_above c.not_below)
        joined' v w pv pw (inr (inl (j, f))) =
            inl (along j.child f (rw f at j.inner) j.x j.y j.off j.inside (rw f at j.outside))
        joined' v w pv pw (inr (inr (j, f))) =
            inr (along j.child f (rw f at j.inner) j.x j.y j.off j.inside (rw f at j.outside))
